-- What is printed of the logs of an archive, or of a part of one behind the parts before it.
use Rattle.std.specs.Prelude.{◌≡◌, ◌⊎◌, if◌then◌else◌, ℕ, Bool, List, [], ◌∷◌, ◌++◌, Option, length}
use Rattle.sqlite_trees.specs.Tree.{Trees}
use Rattle.sqlite_value.specs.Order.{Row as Values}
use Rattle.bac_archive.specs.Known.{IsKnown}
use Rattle.bac_archive.specs.declared.known.Known.{Known}
use Rattle.bac_form.specs.declared.form.Form.{Form}
use Rattle.bac_form.specs.declared.form.Form.TheVariants.{Lines, Csv, Json}
use Rattle.bac_kept.specs.Heads.{head_line}
use Rattle.bac_kept.specs.Items.{PrintsItems, PrintsItemsFront}
use Rattle.bac_kept.specs.Seen.{Notes, newest_in}
use Rattle.bac_kept.specs.Shown.{Told, has_heads, shown_logs}
use Rattle.bac_kept.specs.declared.seen.Newest.{Newest}
use Rattle.bac_kept.specs.declared.seen.Seen.{Seen}
use Rattle.bac_kept.specs.declared.words.Words.{Words}

-- the line that names a log, where lines stand behind such: rows and objects name it themselves
abbrev pub head_in : Form → Bool → Told → List ℕ
head_in Lines heads told = if heads then head_line told else []
head_in Csv heads told = []
head_in Json heads told = []

-- the same of words
abbrev pub head_text : Words → Bool → Told → List ℕ
head_text words heads told = head_in words.form heads told

-- the text of a log behind what was seen of it, which is noted
abbrev pub PrintsLog : Words → Bool → Told → List Values → Seen → List ℕ → Seen → Type 0
PrintsLog words heads told items seen text new = (its : List ℕ) × (newest : Option Newest)
    × PrintsItems words told (newest_in seen told.log.id) items its newest
    × (text ≡ head_text words heads told ++ its) × Notes seen told.log.id newest new

-- a front of it
abbrev pub HasFront : Words → Bool → Told → List Values → Seen → List ℕ → Type 0
HasFront words heads told items seen text = (its : List ℕ)
    × PrintsItemsFront words told (newest_in seen told.log.id) items its
    × (text ≡ head_text words heads told ++ its)

-- the text of logs, one after the other
abbrev pub PrintsLogs : Words → Bool → List Told → List Values → Seen → List ℕ → Seen → Type 0
PrintsLogs words heads [] items seen text new = (text ≡ []) × (new ≡ seen)
PrintsLogs words heads (told ∷ more) items seen text new = (one : List ℕ) × (rest : List ℕ) × (mid : Seen)
    × (text ≡ one ++ rest) × PrintsLog words heads told items seen one mid
    × PrintsLogs words heads more items mid rest new

-- the text of the first of them, and a front of that of the next one
abbrev pub PrintsSome : Words → Bool → List Told → List Values → Seen → List ℕ → Type 0
PrintsSome words heads [] items seen text = text ≡ []
PrintsSome words heads (told ∷ more) items seen text =
    HasFront words heads told items seen text
    ⊎ ((one : List ℕ) × (rest : List ℕ) × (mid : Seen) × (text ≡ one ++ rest)
    × PrintsLog words heads told items seen one mid × PrintsSome words heads more items mid rest)

-- the text of the logs of an archive that are shown, behind what was seen of them
abbrev pub PrintsPart : Words → Trees → Known → Seen → List ℕ → Seen → Type 0
PrintsPart words trees known seen text new =
    let all = shown_logs known words.choice in
    PrintsLogs words (has_heads words.choice (length all)) all (trees 5) seen text new

-- a front of it, or nothing
abbrev pub PrintsFront : Words → Trees → Seen → List ℕ → Type 0
PrintsFront words trees seen text = (text ≡ []) ⊎ ((known : Known) × IsKnown trees known
    × PrintsSome words (has_heads words.choice (length (shown_logs known words.choice)))
    (shown_logs known words.choice) (trees 5) seen text)
