-- What is said by the status of `kept` and `check`. Read `ZeroPrintsEach`, `ZeroIsWhole` and `OneIsNone`.
use Rattle.std.specs.Prelude.{◌≡◌, ◌⊎◌, ◌++◌, ◌||◌, ◌&&◌, not, nat_lt, ℕ, Bool, true, false, List, [], ◌∷◌, length}
use Rattle.std.specs.Prelude.{Option, None, Some, Ok}
use Rattle.std.specs.Io.KnownBytes.{Appends, Keeps}
use Rattle.sqlite.specs.Effect.{Database}
use Rattle.bac_archive.specs.Archive.{IsArchive}
use Rattle.bac_archive.specs.Known.{IsKnown}
use Rattle.bac_archive.specs.Schema.{no_schema}
use Rattle.bac_archive.specs.declared.known.Known.{Known}
use Rattle.bac_check.specs.Counted.{CountsPart, IsEmpty}
use Rattle.bac_check.specs.Lines.{check_text, has_all}
use Rattle.bac_check.specs.declared.counts.Counts.{Counts}
use Rattle.bac_files.specs.Parts.{Listing, PartRules, Reading}
use Rattle.bac_files.specs.declared.not_opened.NotOpened.TheVariants.{Empty}
use Rattle.bac_kept.specs.Csv.{has_names, names_text}
use Rattle.bac_kept.specs.Parts.{PrintsPart}
use Rattle.bac_kept.specs.Seen.{newest_in}
use Rattle.bac_kept.specs.Shown.{shown_logs}
use Rattle.bac_kept.specs.declared.seen.Seen.{Seen}
use Rattle.bac_kept.specs.declared.words.Words.{Words}
use Rattle.bac_parts.specs.Visits.{IsAsFound}
use Rattle.bac_print.specs.Output.{Held}
use Rattle.bac_reading.specs.Checking.{RunsCheck}
use Rattle.bac_reading.specs.Listing.{is_folder, newest_of, parts_of}
use Rattle.bac_reading.specs.Program.{RunsKept}
use Rattle.bac_reading.specs.Report.{chooses_all}
use Rattle.bac_reading.specs.Scene.{Scene}
use Rattle.bac_reading.specs.Taking.{IsClean}
use Rattle.bac_reading.specs.declared.program.Asked.{Asked}

-- ---- parts

-- what is found in a part is an archive, and this is done with it; or that is the newest part of a folder, it has
-- nothing, and nothing is done
abbrev pub IsTaken : {X : Type 0} → (Database → X → X → Type 0) → Option (List ℕ) → List ℕ → Database → X → X → Type 0
IsTaken does newest path db old new =
    (IsArchive db × does db old new) ⊎ ((newest ≡ Some path) × (db.schema ≡ no_schema) × (new ≡ old))

module _ {P X : Type 0} (rules : PartRules P) (does : Database → X → X → Type 0) where
  -- So it is of the part at this path, which is left as it is found, if the disk gave back what was written; or the
  -- newest part of a folder isn't opened, since its file has nothing.
  abbrev pub OnePart : Option (List ℕ) → List ℕ → (p : P) → (old : X) → (q : P) → (new : X) → Type 0
  OnePart newest path p old q new =
      ((found : Reading) × rules.holds p path found q × IsAsFound found
      × (IsClean found → IsTaken does newest path found.found old new))
      ⊎ ((newest ≡ Some path) × rules.bars p path Empty q × (new ≡ old))

  -- the same of the parts at these paths, one after the other
  abbrev pub EachPart : Option (List ℕ) → List (List ℕ) → (p : P) → (old : X) → (q : P) → (new : X) → Type 0
  EachPart newest [] p old q new = (q ≡ p) × (new ≡ old)
  EachPart newest (path ∷ more) p old q new = (mid : P) × (then : X)
      × OnePart newest path p old mid then × EachPart newest more mid then q new

-- ---- `kept`

-- What was printed so far: the newest item of each log; whether the row of names is to be written yet; whether a log
-- was chosen; and what the output has.
pub record SoFar : Type 0 where
  pub seen : Seen
  pub names : Bool
  pub any : Bool
  pub output : Held

-- nothing yet, but of a folder the row of names
pub record IsFirst (words : Words) (folder : Bool) (before : Held) (first : SoFar) : Type 0 where
  pub seen : (log : ℕ) → newest_in first.seen log ≡ None
  pub names : first.names ≡ (has_names words.form && not folder)
  pub any : first.any ≡ false
  pub output : Appends before first.output (names_text (has_names words.form && folder))

-- Of the logs that a database has those that are chosen are printed, in order: of each the line that names it, and a
-- line, a row of CSV, or a line of JSON, for each of its items that wasn't printed of a part before; and nothing else.
pub record PrintsItsRows (words : Words) (db : Database) (old new : SoFar) : Type 0 where
  pub known : Known
  pub told : IsKnown db.trees known
  pub text : List ℕ
  pub is : PrintsPart words db.trees known old.seen text new.seen
  pub printed : Appends old.output new.output (names_text old.names ++ text)
  pub any : new.any ≡ (old.any || nat_lt 0 (length (shown_logs known words.choice)))
  pub names : new.names ≡ false

module _ {P : Type 0} (rules : PartRules P) where
  -- The parts at these paths are archives, but the newest of a folder, which may have nothing, and are printed one
  -- after the other. If not all logs are chosen, one is that is there.
  abbrev pub PrintsEach : Words → (folder : Bool) → List (List ℕ) → (before after : Held) → (p q : P) → Type 0
  PrintsEach words folder paths before after p q =
      (first last : SoFar) × IsFirst words folder before first
      × EachPart rules (PrintsItsRows words) (newest_of 1 folder paths) paths p first q last × Keeps last.output after
      × ((chooses_all words.choice ≡ true) ⊎ (last.any ≡ true))

  -- So it is where `kept` ends with 0, not by the newest records.
  abbrev pub ZeroPrintsEach : Type 0
  ZeroPrintsEach = (asked : Asked) (listing : Listing) (old new : Scene P)
      → RunsKept rules asked listing old (Ok 0) new → asked.last ≡ false
      → (paths : List (List ℕ)) × (parts_of asked.file.now listing ≡ Ok paths)
      × PrintsEach asked.words (is_folder listing) paths old.output new.output old.parts new.parts

  -- It never ends with 1: that is left for wrong words.
  abbrev pub OneIsNone : Type 0
  OneIsNone = (asked : Asked) (listing : Listing) (old new : Scene P) → RunsKept rules asked listing old (Ok 1) new → ⊥

-- ---- `check`

-- the rows of an archive are counted behind those that were, and go on where these end
abbrev pub CountsOn : Database → Counts → Counts → Type 0
CountsOn db old new = CountsPart db.trees old new true

module _ {P : Type 0} (rules : PartRules P) where
  -- The parts at these paths are archives, but the newest of several, which may have nothing; each goes on where the
  -- one before it ends. Their rows are counted, no number is missing, and what is counted is printed.
  abbrev pub CountsEach : Option (List ℕ) → List (List ℕ) → (before after : Held) → (p q : P) → Type 0
  CountsEach newest paths before after p q = (none all : Counts) × IsEmpty none
      × EachPart rules CountsOn newest paths p none q all
      × (has_all all ≡ true) × Appends before after (check_text all)

  -- So it is where `check` ends with 0.
  abbrev pub ZeroIsWhole : Type 0
  ZeroIsWhole = (name : List ℕ) (listing : Listing) (old new : Scene P) → RunsCheck rules name listing old (Ok 0) new
      → (paths : List (List ℕ)) × (parts_of name listing ≡ Ok paths)
      × CountsEach (newest_of 2 (is_folder listing) paths) paths old.output new.output old.parts new.parts
