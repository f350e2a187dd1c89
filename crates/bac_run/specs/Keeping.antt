-- What `bac keep` does with its words. Read from the end.
use Rattle.std.specs.Prelude.{◌≡◌, ℕ, Bool, true, false, List, Option, None, Some, Result, Ok, Err}
use Rattle.sqlite_disk.specs.declared.Disk as disk
use Rattle.sqlite_disk.specs.declared.start.Start as start
use Rattle.sqlite_wal.specs.Recovery.{Image}
use Rattle.bac_batch.specs.Batch.{Batched}
use Rattle.bac_drive.specs.Happens.{Acts}
use Rattle.bac_files.specs.Files.{FileOf}
use Rattle.bac_files.specs.declared.disk_files.DiskFiles.{DiskFiles}
use Rattle.bac_socket_notes.specs.Notes.{nothing}
use Rattle.bac_keeper.specs.Runs.{RunsTool}
use Rattle.bac_keeper.specs.Stops.{StopsTool, Texts}
use Rattle.bac_keeper.specs.declared.fault.Fault.{Fault as KeepFault}
use Rattle.bac_ports.specs.Sockets.{SocketRules}
use Rattle.bac_print.specs.Output.{Held}
use Rattle.bac_run.specs.Faults.{keep_ending}
use Rattle.bac_run.specs.Setup.{HasFiles, Setup, hands_of, texts_of}
use Rattle.bac_site_poller.specs.Site.{SiteState}
use Rattle.bac_tools.specs.Finding.{IsListWithin}
use Rattle.bac_tools.specs.Run.{Ends, IsTold}
use Rattle.bac_tools.specs.declared.fault.Fault.{Fault}
use Rattle.bac_tools.specs.declared.fault.Fault.TheVariants.{Clock, List as ListOf}
use Rattle.bac_wire.specs.Stamp.{CivilTime}
use Rattle.bac_command_line.specs.Devices.{devices_of}
use Rattle.bac_command_line.specs.Jobs.{reads_input, with_groups}
use Rattle.bac_command_line.specs.declared.group.Group.{Group}
use Rattle.bac_command_line.specs.declared.job.Keep.{Keep}
use Rattle.bac_command_line.specs.declared.listing.ListFault.{ListFault}

module _ {F : Type 0} {s : start.Ghosts F} (f : disk.Ghosts (FileOf s)) (file : Image) where
  -- What the words name is stopped in the files, and then its fault is told: on these texts.
  abbrev pub StopsTold : Keep → (files left : DiskFiles F s) → (old : Texts) → ℕ → (new : Texts) → Type 0
  StopsTold asked files left old status new = (result : Result ℕ KeepFault) × (said : Held)
      × StopsTool f file asked files left old (record new { errors = said }) result
      × Ends nothing (keep_ending result) said new.errors status

module _ {S C Q F G : Type 0} {s : start.Ghosts F} {t : start.Ghosts G} where
  -- with `--stop` no socket is opened, the time of day isn't looked at, and no part before is touched
  abbrev pub OnlyStops : (old new : Setup S C Q s t) → Type 0
  OnlyStops old new = (new.streams.sockets ≡ old.streams.sockets) × (new.streams.clock ≡ old.streams.clock)
      × (new.parts ≡ old.parts)

  -- a fault is told, nothing is printed, and no socket or file is touched
  abbrev pub TellsAlone : Fault → (old : Setup S C Q s t) → ℕ → (new : Setup S C Q s t) → Type 0
  TellsAlone fault old status new = IsTold fault old.streams.errors new.streams.errors status
      × (new.streams.output ≡ old.streams.output) × (new.streams.sockets ≡ old.streams.sockets)
      × HasFiles old new

module _ {S P C W Q F G : Type 0} {s : start.Ghosts F} {t : start.Ghosts G} (rules : SocketRules S P)
    (acts : Acts (Batched SiteState) P W) (f : disk.Ghosts (FileOf s)) (file : Image) (g : disk.Ghosts (FileOf t))
    (part : Image) (waits : W) where
  -- From this moment on, a run goes over the sockets and the files, and then its fault is told. Nobody sees the clock
  -- again by which it waits. If no time was told, that is the fault.
  abbrev pub RunsFrom : Option CivilTime → Keep → (old : Setup S C Q s t) → ℕ → (new : Setup S C Q s t) → Type 0
  RunsFrom None asked old status new = TellsAlone Clock old status new
  RunsFrom (Some begun) asked old status new = (waited : W) × (result : Result ℕ KeepFault) × (said : Held)
      × RunsTool rules acts f file g part asked begun (hands_of waits old.streams.errors old)
      (hands_of waited said new) result
      × Ends nothing (keep_ending result) said new.streams.errors status

  module _ (tells : C → Option CivilTime → C → Type 0) where
    -- what the words name is stopped; or the time of day is looked at once, and a run begins then
    abbrev pub KeepsBy : (stops : Bool) → Keep → (old : Setup S C Q s t) → ℕ → (new : Setup S C Q s t) → Type 0
    KeepsBy true asked old status new =
        StopsTold f file asked old.files new.files (texts_of old) status (texts_of new) × OnlyStops old new
    KeepsBy false asked old status new = (moment : Option CivilTime)
        × tells old.streams.clock moment new.streams.clock × RunsFrom moment asked old status new

    -- as the words say
    abbrev pub Keeps : Keep → (old : Setup S C Q s t) → ℕ → (new : Setup S C Q s t) → Type 0
    Keeps asked old status new = KeepsBy asked.stop asked old status new

    -- so it is of devices that were listed; without a list it is told why, and nothing else is done
    abbrev pub KeepsDevices : Keep → Result (List Group) ListFault → (old : Setup S C Q s t) → ℕ →
        (new : Setup S C Q s t) → Type 0
    KeepsDevices asked (Ok groups) old status new = Keeps (with_groups asked groups) old status new
    KeepsDevices asked (Err fault) old status new =
        TellsAlone (ListOf fault) old status new × (new.streams.clock ≡ old.streams.clock)

    -- of the devices of the words, for which the input isn't read, or of those that it lists, to whose end it is read
    abbrev pub KeepsOf : (lists : Bool) → Keep → (old : Setup S C Q s t) → ℕ → (new : Setup S C Q s t) → Type 0
    KeepsOf false asked old status new = Keeps asked old status new × (new.streams.input ≡ old.streams.input)
    KeepsOf true asked old status new = (list : Result (List Group) ListFault)
        × IsListWithin devices_of 1048576 old.streams.input new.streams.input list
        × KeepsDevices asked list old status new

    -- of those that the words mean
    abbrev pub KeepsAsked : Keep → (old : Setup S C Q s t) → ℕ → (new : Setup S C Q s t) → Type 0
    KeepsAsked asked old status new =
        KeepsOf (reads_input asked) asked old status new × (new.folders ≡ old.folders)
