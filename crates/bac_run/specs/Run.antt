-- What the program does with its words, from what it works on before to what that is then. Read from the end.
use Rattle.std.specs.Prelude.{◌⊎◌, ℕ, Bool, List, Option}
use Rattle.sqlite_disk.specs.declared.Disk as disk
use Rattle.sqlite_disk.specs.declared.start.Start as start
use Rattle.sqlite_wal.specs.Recovery.{Image}
use Rattle.clap.specs.Words.{Text}
use Rattle.bac_batch.specs.Batch.{Batched}
use Rattle.bac_drive.specs.Happens.{Acts}
use Rattle.bac_files.specs.Files.{FileOf}
use Rattle.bac_files.specs.Parts.{PartRules}
use Rattle.bac_socket_notes.specs.declared.notes.Passed.{Passed}
use Rattle.bac_ports.specs.Sockets.{SocketRules}
use Rattle.bac_run.specs.Keeping.{KeepsAsked}
use Rattle.bac_run.specs.Reading.{ChecksQuietly, PrintsKept}
use Rattle.bac_run.specs.Setup.{DoesQuietly, IsOffFiles, OnlyReads, Setup, scene_of, with_sockets}
use Rattle.bac_site_poller.specs.Site.{SiteState}
use Rattle.bac_tools.specs.Run.{AskFor, OnlyTells, Runs}
use Rattle.bac_tools.specs.declared.fault.Fault.TheVariants.{Memory}
use Rattle.bac_wire.specs.Stamp.{CivilTime}
use Rattle.bac_command_line.specs.Jobs.{is_traced}
use Rattle.bac_command_line.specs.declared.job.Job.{Job}
use Rattle.bac_command_line.specs.declared.job.Job.TheVariants as job
use Rattle.bac_command_line.specs.declared.job.Keep.{Keep}

-- the words ask for `keep`
abbrev pub AskToKeep : List Text → Type 0
AskToKeep words = (asked : Keep) × AskFor words (job.Keep asked)

module _ {S P C W Q F G : Type 0} {s : start.Ghosts F} {t : start.Ghosts G} (rules : SocketRules S P)
    (acts : Acts (Batched SiteState) P W) (f : disk.Ghosts (FileOf s)) (file : Image) (g : disk.Ghosts (FileOf t))
    (part : Image) (folders : PartRules Q) (passes : S → Passed) (tells : C → Option CivilTime → C → Type 0)
    (waits : W) where
  -- The tool of a job. `keep` works on files; `kept` and `check` read parts, and open no socket. Each other one leaves
  -- the files alone.
  abbrev pub DoesAll : Job → (old : Setup S C Q s t) → ℕ → (new : Setup S C Q s t) → Type 0
  DoesAll (job.Keep asked) old status new =
      DoesQuietly asked.quiet (KeepsAsked rules acts f file g part waits tells asked) old status new
  DoesAll (job.Kept asked) old status new =
      PrintsKept folders asked (scene_of old) status (scene_of new) × OnlyReads old new
  DoesAll (job.Check asked) old status new =
      ChecksQuietly folders asked (scene_of old) status (scene_of new) × OnlyReads old new
  DoesAll other old status new = Runs rules passes tells other old.streams status new.streams × IsOffFiles old new

  -- The sockets are switched on to tell each datagram, or off, as the words say; the tool does its work over these.
  abbrev pub DoesTold : (S → Bool → S → Type 0) → Job → (old : Setup S C Q s t) → ℕ → (new : Setup S C Q s t) → Type 0
  DoesTold traces asked old status new = (sockets : S) × traces old.streams.sockets (is_traced asked) sockets
      × DoesAll asked (with_sockets sockets old) status new

  -- What the words ask for is done; or nothing is, as there is no memory for the words.
  abbrev pub RunsAll : (S → Bool → S → Type 0) → Job → (old : Setup S C Q s t) → ℕ → (new : Setup S C Q s t) → Type 0
  RunsAll traces asked old status new =
      (OnlyTells Memory old.streams status new.streams × IsOffFiles old new) ⊎ DoesTold traces asked old status new
