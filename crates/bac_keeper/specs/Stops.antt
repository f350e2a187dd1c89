-- `bac keep --stop` at the place of its archive. Read `StopsTool` from the end.
use Rattle.std.specs.Prelude.{◌≡◌, ◌⊎◌, ℕ, false, List, map, IfErr, IfOk, IfSome, IsSome, IsTrue, Result, Ok, Err}
use Rattle.std.specs.Io.KnownBytes.{Appends}
use Rattle.std.specs.String.{string_bytes}
use Rattle.sqlite_disk.specs.declared.Disk as disk
use Rattle.sqlite_disk.specs.declared.start.Start as start
use Rattle.sqlite_wal.specs.Recovery.{Image}
use Rattle.sqlite.specs.Effect.{Database}
use Rattle.sqlite.specs.State.{HasCleanDisk, Survives}
use Rattle.sqlite.specs.declared.error.Error.{Error}
use Rattle.bac_drive.specs.Happens.{StaysSettled}
use Rattle.bac_files.specs.Files.{FileOf, IsDoneTo, IsUnused}
use Rattle.bac_files.specs.Parts.{IsPlaced}
use Rattle.bac_files.specs.declared.disk_files.DiskFiles.{DiskFiles}
use Rattle.bac_files.specs.declared.folder.Place.{Place}
use Rattle.bac_files.specs.declared.not_opened.NotOpened.{NotOpened}
use Rattle.bac_keep_command_line.specs.Devices.{named_as}
use Rattle.bac_keep_command_line.specs.Orders.{stop_in}
use Rattle.bac_keeping.specs.Stopping.{IsStopped, MayHaveStopped, StopsNothing}
use Rattle.bac_keeping.specs.declared.stopping.StopHalt.{StopHalt}
use Rattle.bac_keeping.specs.declared.stopping.Stopped.{Stopped}
use Rattle.bac_parts.specs.Works.{Passage, Works, left_state, opened_state}
use Rattle.bac_parts.specs.declared.fault.FileFault.TheVariants as file
use Rattle.bac_parts.specs.declared.works.Done.{Done}
use Rattle.bac_plan.specs.declared.named.Named.{Named}
use Rattle.bac_print.specs.Output.{AppendsPart, Held}
use Rattle.bac_command_line.specs.declared.job.Keep.{Keep}
use Rattle.bac_keeper.specs.Ends.{EndsHalted}
use Rattle.bac_keeper.specs.Halts.{stop_halt}
use Rattle.bac_keeper.specs.Lines.{stopped_lines}
use Rattle.bac_keeper.specs.Places.{AreUntouched, PlacesNone, RefusesWords}
use Rattle.bac_keeper.specs.declared.fault.Fault.{Fault}
use Rattle.bac_keeper.specs.declared.fault.Fault.TheVariants.{Memory, Write}
use Rattle.bac_keeper.specs.declared.halts.Halt.{Halt}
use Rattle.bac_keeper.specs.declared.halts.Halt.TheVariants.{File}

-- what was there, or it with what words name stopped
abbrev pub IsLeftStopped : List Named → (found left : Database) → Type 0
IsLeftStopped named found left = (left.trees ≡ found.trees) ⊎ MayHaveStopped named found left.trees

-- What words name is stopped in an open database, or nothing is; and what a kill leaves until then, and what is
-- committed, where no error shut the database.
pub record StopsBy (named : List Named) (over : Passage) (came : Result Stopped StopHalt) : Type 0 where
  pub all : HasCleanDisk (left_state over)
      → IfOk came (λ stopped. IsStopped named stopped (opened_state over).now (left_state over).now)
  pub neither : HasCleanDisk (left_state over) → IfErr came (StopsNothing over.ghosts named over.old over.new)
  pub settled : StaysSettled (opened_state over) (left_state over) came
  pub crash : Survives (opened_state over) (left_state over) (MayHaveStopped named (opened_state over).now)
  pub left : HasCleanDisk (left_state over) → IsTrue (opened_state over).is_open
      → (opened_state over).committed ≡ (opened_state over).now → IsTrue (left_state over).is_open
      → IsLeftStopped named (opened_state over).now (left_state over).committed

-- what was stopped, and its file was closed; or why not
abbrev pub stop_came : Result Stopped StopHalt → Result (Unit {0}) Error → Result Stopped Halt
stop_came (Err why) closed = Err (stop_halt why)
stop_came (Ok stopped) (Err error) = Err (File (file.Database error))
stop_came (Ok stopped) (Ok none) = Ok stopped

-- the same of a file that may not be opened
abbrev pub stop_done : Result (Done (Result Stopped StopHalt)) NotOpened → Result Stopped Halt
stop_done (Err why) = Err (File (file.Unopened why))
stop_done (Ok done) = stop_came done.came done.closed

-- Lines go to the output, and the exit status is 0; or memory was wanting for them, or the output refused them.
abbrev pub EndsPrinted : (lines : List ℕ) → (old new : Held) → Result ℕ Fault → Type 0
EndsPrinted lines old new (Ok status) = (status ≡ 0) × Appends old new lines
EndsPrinted lines old new (Err why) =
    ((why ≡ Memory) × (new ≡ old)) ⊎ ((why ≡ Write) × AppendsPart old new lines)

-- the texts that the output and the errors have
pub record Texts : Type 0 where
  pub output : Held
  pub errors : Held

-- those that have these
abbrev pub texts : (output errors : Held) → Texts
texts output errors = record { output = output; errors = errors }

-- What was stopped is printed, a line for each row; or the tool halts, and nothing is printed.
abbrev pub EndsStop : Result Stopped Halt → (path : List ℕ) → (old new : Texts) → Result ℕ Fault → Type 0
EndsStop (Ok stopped) path old new result =
    EndsPrinted (stopped_lines stopped) old.output new.output result × (new.errors ≡ old.errors)
EndsStop (Err halt) path old new result =
    EndsHalted halt path old.errors new.errors result × (new.output ≡ old.output)

module _ {F : Type 0} {s : start.Ghosts F} (g : disk.Ghosts (FileOf s)) (image : Image) where
  -- What words name is stopped in the database in the file at a place, which is opened for it, and closed then. The
  -- closed files hold it stopped; whatever comes of it, they hold that, or what they held.
  pub record StopsPlaced (place : Place) (named : List Named) (old new : DiskFiles F s) (before after : Texts)
      (result : Result ℕ Fault) : Type 0 where
    pub done : Result (Done (Result Stopped StopHalt)) NotOpened
    pub works : Works g image (λ over none still came. StopsBy named over came) (string_bytes place.path) old new
        (tt {0}) (tt {0}) done
    pub kept : IfOk (stop_done done) (λ stopped. IsSome new.closed
        × IfSome new.closed (IsDoneTo g image (IsStopped named stopped)))
    pub left : IsUnused old → IfSome new.closed (IsDoneTo g image (IsLeftStopped named))
    pub ends : EndsStop (stop_done done) (string_bytes place.path) before after result

  -- the place of the archive can't be told, and nothing else is done; or what is named is stopped there
  abbrev pub StopsNamed : (file : List ℕ) → List Named → (old new : DiskFiles F s) → (before after : Texts) →
      Result ℕ Fault → Type 0
  StopsNamed file named old new before after result =
      (PlacesNone file false old new before.errors after.errors result × (after.output ≡ before.output))
      ⊎ ((place : Place) × IsPlaced file place × (files : DiskFiles F s) × AreUntouched old files
      × StopsPlaced place named files new before after result)

  -- The words are refused, and nothing is done; or what they name is stopped.
  abbrev pub StopsTool : Keep → (old new : DiskFiles F s) → (before after : Texts) → Result ℕ Fault → Type 0
  StopsTool keep old new before after result =
      (RefusesWords (stop_in keep) result × (new ≡ old) × (after ≡ before))
      ⊎ ((named : List Named) × (stop_in keep ≡ Ok (map named_as named))
      × StopsNamed keep.file named old new before after result)
