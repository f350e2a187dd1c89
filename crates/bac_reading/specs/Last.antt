-- The newest record of each log is looked for in the parts of an archive, from the newest back. Read `FindsLasts`.
use Rattle.std.specs.Prelude.{◌≡◌, ◌⊎◌, ◌&&◌, nat_lt, ℕ, Bool, true, false, List, [], length, Option, None, Some}
use Rattle.std.specs.Prelude.{Result, Ok, Err}
use Rattle.std.specs.Io.KnownBytes.{Appends}
use Rattle.std.specs.List.{list_any}
use Rattle.sqlite.specs.declared.error.Error.{Error}
use Rattle.sqlite_trees.specs.Tree.{Trees}
use Rattle.bac_archive.specs.Archive.{IsArchive}
use Rattle.bac_archive.specs.Known.{IsKnown}
use Rattle.bac_files.specs.Parts.{PartRules, Reading}
use Rattle.bac_kept.specs.LastRows.{PrintsLasts}
use Rattle.bac_kept.specs.Lasts.{HasLookedFor, LooksForEach, is_sought, last_logs}
use Rattle.bac_kept.specs.Shown.{shown_logs}
use Rattle.bac_kept.specs.declared.lasts.Lasts.{Lasts}
use Rattle.bac_kept.specs.declared.words.Words.{Words}
use Rattle.bac_parts.specs.Visits.{Came, IsAsFound, ReadsBack, VisitRules, at_visit, visit_rules}
use Rattle.bac_parts.specs.declared.fault.FileFault.TheVariants.{Database}
use Rattle.bac_print.specs.Output.{AppendsPart, Held}
use Rattle.bac_reading.specs.Listing.{newest_of}
use Rattle.bac_reading.specs.Report.{Closes, Ends, IsBlank, Settles, came_to, goes_on}
use Rattle.bac_reading.specs.Scene.{Scene}
use Rattle.bac_reading.specs.Taking.{IsClean, IsNotTaken, Read}
use Rattle.bac_reading.specs.declared.fault.Fault.{Fault}
use Rattle.bac_reading.specs.declared.fault.Fault.TheVariants as fault
use Rattle.bac_reading.specs.declared.fault.Stop.{Stop}
use Rattle.bac_reading.specs.declared.fault.Stop.TheVariants as stop
use Rattle.bac_reading.specs.declared.fault.Trouble.TheVariants.{File}
use Rattle.bac_reading.specs.declared.last.Seeker.{Seeker}
use Rattle.bac_reading.specs.declared.program.Asked.{Asked}

-- ---- a part

-- with which records it is looked on: those that were found before; in the first archive with none, of its logs
abbrev pub Begins : Trees → Option Lasts → Lasts → Type 0
Begins trees None begun = IsKnown trees begun.known × (begun.found.items ≡ [])
Begins trees (Some lasts) begun = begun ≡ lasts

-- in an archive the newest records are looked for that weren't found yet; and it is noted whether one still isn't
pub record SeeksFound (old : Seeker) (found : Reading) (new : Seeker) : Type 0 where
  pub archive : IsArchive found.found
  pub begun : Lasts
  pub begins : Begins found.found.trees old.lasts begun
  pub lasts : Lasts
  pub now : new.lasts ≡ Some lasts
  pub known : lasts.known ≡ begun.known
  pub looks : LooksForEach (found.found.trees 5) (last_logs begun.known old.words.choice) begun.found.items
      lasts.found.items
  pub seeks : new.seeks ≡ list_any (is_sought lasts.found.items) (last_logs lasts.known old.words.choice)

-- only those of the first logs were, or of none
abbrev pub SeeksLess : Seeker → Reading → Seeker → Type 0
SeeksLess old found new = IsArchive found.found × ((new.lasts ≡ old.lasts)
    ⊎ ((begun : Lasts) × Begins found.found.trees old.lasts begun × (lasts : Lasts) × (new.lasts ≡ Some lasts)
    × (lasts.known ≡ begun.known)
    × HasLookedFor (found.found.trees 5) (last_logs begun.known old.words.choice) begun.found.items
    lasts.found.items))

-- why not all is looked for: memory is wanting, or the database failed
abbrev pub FailsToLook : Stop → Type 0
FailsToLook why = (why ≡ stop.Fault fault.Memory) ⊎ ((error : Error) × (why ≡ stop.Trouble (File (Database error))))

-- what came of an archive that was looked into: all was looked for, or not
abbrev pub SeeksTaken : Read → Seeker → Reading → Seeker → Type 0
SeeksTaken (Ok none) old found new = IsClean found → SeeksFound old found new
SeeksTaken (Err why) old found new =
    (new.seeks ≡ old.seeks) × (IsClean found → FailsToLook why × SeeksLess old found new)

-- what came of a part: it isn't taken as an archive, and nothing is noted; or it is one, and was looked into
abbrev pub SeeksBy : Read → Seeker → Reading → Seeker → Type 0
SeeksBy read old found new = (IsNotTaken read found × (new.lasts ≡ old.lasts) × (new.seeks ≡ old.seeks))
    ⊎ SeeksTaken read old found new

-- so a part was looked into, which is left as it was; nothing is printed
abbrev pub SeeksIt : Seeker → Reading → Held → Held → Seeker → Type 0
SeeksIt old found before after new = (new.words ≡ old.words) × (new.report ≡ old.report) × IsAsFound found
    × SeeksBy new.came old found new × (after ≡ before)

-- what came of it is taken
abbrev pub EndsSearch : Seeker → List ℕ → Came → Seeker → Type 0
EndsSearch old path came new = Ends path (came_to old.came came) old.report new.report
    × (new ≡ record old { report = new.report })

-- one more is read, as long as a record isn't found, unless the tool ends before that
abbrev pub is_seeking : Seeker → Bool
is_seeking seeker = seeker.seeks && goes_on seeker.report

-- ---- all parts

-- nothing was looked for yet
pub record IsUnsought (words : Words) (folder : Bool) (paths : List (List ℕ)) (begun : Seeker) : Type 0 where
  pub words_are : begun.words ≡ words
  pub lasts : begun.lasts ≡ None
  pub seeks : begun.seeks ≡ true
  pub blank : IsBlank (newest_of 1 folder paths) begun.report

-- What was found goes out, of some log that is chosen or of none; or memory was wanting for it, or the output refused
-- it in its midst. Where no part was read there is nothing.
abbrev pub PrintsOf : Words → Option Lasts → Result Bool Fault → Held → Held → Type 0
PrintsOf words None result before after = (result ≡ Ok false) × (after ≡ before)
PrintsOf words (Some lasts) (Ok any) before after =
    (any ≡ nat_lt 0 (length (shown_logs lasts.known words.choice)))
    × ((text : List ℕ) × PrintsLasts words lasts text × Appends before after text)
PrintsOf words (Some lasts) (Err fault.Memory) before after = after ≡ before
PrintsOf words (Some lasts) (Err fault.Write) before after =
    (text : List ℕ) × PrintsLasts words lasts text × AppendsPart before after text

-- so it does, unless the tool has ended before; that no log was chosen is told
abbrev pub FinishesSearch : List ℕ → Seeker → Seeker → Held → Held → Type 0
FinishesSearch name old new before after =
    ((goes_on old.report ≡ false) × (new ≡ old) × (after ≡ before))
    ⊎ ((goes_on old.report ≡ true) × ((printed : Result Bool Fault)
    × PrintsOf old.words old.lasts printed before after
    × Settles name old.words.choice printed old.report new.report))

module _ {P : Type 0} (rules : PartRules P) where
  -- what a seeker reads, and what it makes of it
  abbrev pub seeking : VisitRules P Seeker
  seeking = visit_rules rules.holds rules.bars SeeksIt is_seeking EndsSearch

  -- the parts at these paths are looked into from the newest back, as long as the record of a log isn't found, and then
  -- what was found is printed
  pub record FindsLasts (asked : Asked) (folder : Bool) (paths : List (List ℕ)) (old : Scene P)
      (result : Result ℕ Fault) (new : Scene P) : Type 0 where
    pub begun : Seeker
    pub unsought : IsUnsought asked.words folder paths begun
    pub place : ℕ
    pub read : Seeker
    pub output : Held
    pub reads : ReadsBack seeking paths place (at_visit old.parts begun old.output) (at_visit new.parts read output)
    pub last : Seeker
    pub finishes : FinishesSearch asked.file.now read last output new.output
    pub closes : Closes last.report old.errors new.errors result
