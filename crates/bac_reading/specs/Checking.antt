-- What `bac check` does. Read `RunsCheck`.
use Rattle.std.specs.Prelude.{◌≡◌, ◌⊎◌, ℕ, Bool, true, false, List, Some, Result, Ok, Err}
use Rattle.std.specs.Io.KnownBytes.{Appends}
use Rattle.sqlite_value.specs.Order.{Row as Values}
use Rattle.bac_archive.specs.Archive.{IsArchive}
use Rattle.bac_check.specs.Counted.{CountsPart, IsEmpty}
use Rattle.bac_check.specs.Lines.{check_text, has_all}
use Rattle.bac_check.specs.Uncounts.{HasBackward, HasOverlap}
use Rattle.bac_check.specs.declared.checking.Ending.TheVariants.{Apart, Missing}
use Rattle.bac_check.specs.declared.tally.Uncounted.{Uncounted}
use Rattle.bac_check.specs.declared.tally.Uncounted.TheVariants as uncounted
use Rattle.bac_files.specs.Parts.{Listing, PartRules, Reading}
use Rattle.bac_parts.specs.Visits.{Came, IsAsFound, ReadsOn, VisitRules, at_visit, visit_rules}
use Rattle.bac_print.specs.Output.{AppendsPart, Held}
use Rattle.bac_reading.specs.Fault.{of_uncounted}
use Rattle.bac_reading.specs.Listing.{is_folder, newest_of, parts_of}
use Rattle.bac_reading.specs.Scene.{ReadsNone, Scene}
use Rattle.bac_reading.specs.Report.{Closes, Ends, IsBlank, Tells, came_to, goes_on}
use Rattle.bac_reading.specs.Taking.{IsClean, IsNotTaken, Read}
use Rattle.bac_reading.specs.declared.checking.Checker.{Checker}
use Rattle.bac_reading.specs.declared.fault.Fault.{Fault}
use Rattle.bac_reading.specs.declared.fault.Fault.TheVariants as fault
use Rattle.bac_reading.specs.declared.fault.Stop.TheVariants as stop
use Rattle.bac_reading.specs.declared.fault.Trouble.{Trouble}
use Rattle.bac_reading.specs.declared.fault.Trouble.TheVariants.{Check}

-- ---- a part

-- what items have that aren't counted for this; of memory and of a database's error nothing is said
abbrev pub HasCause : List Values → Uncounted → Type 0
HasCause items (uncounted.Overlap epoch before over) = HasOverlap items epoch before over
HasCause items (uncounted.Backward epoch over) = HasBackward items epoch over
HasCause items uncounted.Memory = Unit {0}
HasCause items (uncounted.Database error) = Unit {0}

-- What is wrong with an archive whose rows were counted, or weren't: it doesn't go on where the part before it ends; or
-- nothing of it is counted, for a cause.
abbrev pub CountsNot : Checker → Reading → Trouble → Checker → Type 0
CountsNot old found trouble new = IsArchive found.found
    × (((trouble ≡ Check Apart) × CountsPart found.found.trees old.counts new.counts false)
    ⊎ ((why : Uncounted) × (trouble ≡ of_uncounted why) × HasCause (found.found.trees 5) why
    × (new.counts ≡ old.counts)))

-- what came of an archive whose rows were counted: they are, and it goes on where the part before ends; or they aren't
abbrev pub CountsTaken : Read → Checker → Reading → Checker → Type 0
CountsTaken (Ok none) old found new =
    IsClean found → IsArchive found.found × CountsPart found.found.trees old.counts new.counts true
CountsTaken (Err (stop.Trouble trouble)) old found new = IsClean found → CountsNot old found trouble new
CountsTaken (Err (stop.Fault fault)) old found new = ⊥

-- what came of a part: it isn't taken as an archive, and nothing is counted; or it is one, and is counted
abbrev pub CountsBy : Read → Checker → Reading → Checker → Type 0
CountsBy read old found new =
    (IsNotTaken read found × (new.counts ≡ old.counts)) ⊎ CountsTaken read old found new

-- so the rows of a part were counted, which is left as it was; nothing is printed
abbrev pub CountsIt : Checker → Reading → Held → Held → Checker → Type 0
CountsIt old found before after new = (new.report ≡ old.report) × IsAsFound found
    × CountsBy new.came old found new × (after ≡ before)

-- what came of it is taken
abbrev pub EndsCount : Checker → List ℕ → Came → Checker → Type 0
EndsCount old path came new = Ends path (came_to old.came came) old.report new.report
    × (new ≡ record old { report = new.report })

-- one more is read, unless the tool ends before that
abbrev pub is_counting : Checker → Bool
is_counting checker = goes_on checker.report

-- ---- all parts

-- nothing is counted yet; the newest part may have nothing, where others are before it
pub record IsUncheckedYet (folder : Bool) (paths : List (List ℕ)) (begun : Checker) : Type 0 where
  pub empty : IsEmpty begun.counts
  pub blank : IsBlank (newest_of 2 folder paths) begun.report

-- What was counted goes out, and that numbers are missing is told; or memory was wanting for it, or the output refused
-- it in its midst. Nothing goes out where the tool has ended before.
abbrev pub FinishesCheck : List ℕ → Checker → Checker → Held → Held → Type 0
FinishesCheck name old new before after =
    ((goes_on old.report ≡ false) × (new ≡ old) × (after ≡ before))
    ⊎ ((goes_on old.report ≡ true)
    × (((has_all old.counts ≡ true) × (new ≡ old) × Appends before after (check_text old.counts))
    ⊎ (((has_all old.counts ≡ false) × Tells name (Check Missing) old.report new.report
    × Appends before after (check_text old.counts))
    ⊎ (((new.report ≡ record old.report { fault = Some fault.Memory }) × (after ≡ before))
    ⊎ ((new.report ≡ record old.report { fault = Some fault.Write })
    × AppendsPart before after (check_text old.counts))))))

module _ {P : Type 0} (rules : PartRules P) where
  -- what a checker reads, and what it makes of it
  abbrev pub counting : VisitRules P Checker
  counting = visit_rules rules.holds rules.bars CountsIt is_counting EndsCount

  -- the rows of the parts at these paths are counted on from the first one, and what was counted is printed
  pub record ChecksArchive (name : List ℕ) (folder : Bool) (paths : List (List ℕ)) (old : Scene P)
      (result : Result ℕ Fault) (new : Scene P) : Type 0 where
    pub begun : Checker
    pub unchecked : IsUncheckedYet folder paths begun
    pub count : ℕ
    pub read : Checker
    pub output : Held
    pub reads : ReadsOn counting paths count (at_visit old.parts begun old.output) (at_visit new.parts read output)
    pub last : Checker
    pub finishes : FinishesCheck name read last output new.output
    pub closes : Closes last.report old.errors new.errors result

  -- the archive of this name has no parts, or they are checked
  abbrev pub RunsCheck : List ℕ → Listing → Scene P → Result ℕ Fault → Scene P → Type 0
  RunsCheck name listing old result new = ReadsNone name listing old result new
      ⊎ ((paths : List (List ℕ)) × (parts_of name listing ≡ Ok paths)
      × ChecksArchive name (is_folder listing) paths old result new)
