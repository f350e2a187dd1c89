-- What is told of the files of an archive that are read.
use Rattle.std.specs.Prelude.{◌≡◌, ◌≢◌, ◌⊎◌, ◌==◌, ◌&&◌, not, ℕ, max, Bool, true, false, List, [], ◌++◌}
use Rattle.std.specs.Prelude.{Option, None, Some, is_none, option_copied, Result, Ok, Err}
use Rattle.std.specs.Str.{bytes_eq}
use Rattle.bac_files.specs.declared.not_opened.NotOpened.TheVariants.{Empty}
use Rattle.bac_kept.specs.declared.words.Choice.{Choice}
use Rattle.bac_kept.specs.declared.words.Choice.TheVariants as choice
use Rattle.bac_parts.specs.Visits.{Came}
use Rattle.bac_parts.specs.declared.fault.FileFault.TheVariants.{Database, Unopened}
use Rattle.bac_print.specs.Output.{AppendsPart, Held}
use Rattle.bac_reading.specs.Fault.{AreTroubleLines, trouble_status}
use Rattle.bac_reading.specs.Taking.{Read}
use Rattle.bac_reading.specs.declared.fault.Fault.{Fault}
use Rattle.bac_reading.specs.declared.fault.Fault.TheVariants.{Memory}
use Rattle.bac_reading.specs.declared.fault.Stop.TheVariants as stop
use Rattle.bac_reading.specs.declared.fault.Trouble.{Trouble}
use Rattle.bac_reading.specs.declared.fault.Trouble.TheVariants.{File, NoLog}
use Rattle.bac_reading.specs.declared.report.Report.{Report}

-- nothing is told yet, and that is the newest part of a folder
pub record IsBlank (newest : Option (List ℕ)) (report : Report) : Type 0 where
  pub newest_is : option_copied report.newest ≡ newest
  pub text : report.text.items ≡ []
  pub status : report.status ≡ 0
  pub fault : report.fault ≡ None

-- nothing ends the tool
abbrev pub goes_on : Report → Bool
goes_on report = is_none report.fault

-- a part is the newest of a folder
abbrev pub is_newest : Report → List ℕ → Bool
is_newest report path = elim report.newest [ None ↦ false | Some newest ↦ bytes_eq newest.now path ]

-- it isn't told of the newest part that there is nothing in it: a run was ended that began it
abbrev pub is_spared : Report → List ℕ → Trouble → Bool
is_spared report path (File (Unopened Empty)) = is_newest report path
is_spared report path other = false

-- what is wrong with the file of this path is told behind what was told before, and the status is the greatest; or
-- memory is wanting for it, and that ends the tool
abbrev pub Tells : List ℕ → Trouble → Report → Report → Type 0
Tells path trouble old new =
    ((lines : List ℕ) × AreTroubleLines trouble path lines × (new.text.items ≡ old.text.items ++ lines)
    × (new.status ≡ max old.status (trouble_status trouble)) × (new.fault ≡ old.fault) × (new.newest ≡ old.newest))
    ⊎ ((new.text.items ≡ old.text.items) × (new.status ≡ old.status) × (new.fault ≡ Some Memory)
    × (new.newest ≡ old.newest))

-- what came of a part: what came of its read, unless it isn't opened, or can't be closed behind a read that went well
abbrev pub came_to : Read → Came → Read
came_to read (Ok (Ok none)) = read
came_to (Ok none) (Ok (Err error)) = Err (stop.Trouble (File (Database error)))
came_to (Err why) (Ok (Err error)) = Err why
came_to read (Err why) = Err (stop.Trouble (File (Unopened why)))

-- what came of the part at this path is taken: what is wrong with it is told, and a fault ends the tool
abbrev pub Ends : List ℕ → Read → Report → Report → Type 0
Ends path (Ok none) old new = new ≡ old
Ends path (Err (stop.Trouble trouble)) old new =
    ((is_spared old path trouble ≡ true) × (new ≡ old))
    ⊎ ((is_spared old path trouble ≡ false) × Tells path trouble old new)
Ends path (Err (stop.Fault fault)) old new = new ≡ record old { fault = Some fault }

-- each log is chosen
abbrev pub chooses_all : Choice → Bool
chooses_all choice.All = true
chooses_all (choice.Device place) = false
chooses_all (choice.Log place instance) = false

-- All parts are read, and what was printed, of some log or of none, is out, or it isn't. Where nothing else is told, it
-- is told of the archive of this name that no log was chosen.
abbrev pub Settles : List ℕ → Choice → Result Bool Fault → Report → Report → Type 0
Settles name chosen (Ok any) old new =
    ((((old.status == 0) && (not any && not (chooses_all chosen))) ≡ true) × Tells name NoLog old new)
    ⊎ ((((old.status == 0) && (not any && not (chooses_all chosen))) ≡ false) × (new ≡ old))
Settles name chosen (Err fault) old new = new ≡ record old { fault = Some fault }

-- how a tool ends
abbrev pub ended : Report → Result ℕ Fault
ended report = elim report.fault [ None ↦ Ok report.status | Some fault ↦ Err fault ]

-- What is told goes to the errors, which may refuse it in its midst; where nothing is, nothing does.
abbrev pub Closes : Report → Held → Held → Result ℕ Fault → Type 0
Closes report before after result = (result ≡ ended report)
    × (((report.status ≡ 0) × (after ≡ before))
    ⊎ ((report.status ≢ 0) × AppendsPart before after report.text.items))
