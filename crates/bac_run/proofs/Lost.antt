-- The program loses nothing of an archive, whatever comes of its words.
use Rattle.std.proofs.Common.{◌≡◌, ◌∙◌, ℕ, Bool, true, false, List, Option, None, Some, Result, Ok, Err, ap}
use Rattle.sqlite_disk.specs.declared.Disk as disk
use Rattle.sqlite_disk.specs.declared.start.Start as start
use Rattle.sqlite_wal.specs.Recovery.{Image}
use Rattle.bac_batch.specs.Batch.{Batched}
use Rattle.bac_drive.specs.Happens.{Acts}
use Rattle.bac_files.specs.Files.{FileOf}
use Rattle.bac_files.specs.Parts.{PartRules}
use Rattle.bac_files.specs.declared.disk_files.DiskFiles.{DiskFiles}
use Rattle.bac_socket_notes.specs.declared.notes.Passed.{Passed}
use Rattle.bac_historian.specs.Files.{KeepsPart}
use Rattle.bac_historian.specs.Laws.{LosesNothingAt}
use Rattle.bac_keeper.specs.Laws.{StopLosesNothing, ToolLosesNothing}
use Rattle.bac_parts.proofs.FileLemmas.{none_closed}
use Rattle.bac_ports.specs.Sockets.{SocketRules}
use Rattle.bac_run.specs.Keeping.{KeepsBy, KeepsDevices, KeepsOf}
use Rattle.bac_run.specs.Run.{DoesAll, DoesTold}
use Rattle.bac_run.specs.Setup.{Setup, with_output}
use Rattle.bac_site_poller.specs.Site.{SiteState}
use Rattle.bac_wire.specs.Stamp.{CivilTime}
use Rattle.bac_command_line.specs.Jobs.{reads_input}
use Rattle.bac_command_line.specs.declared.group.Group.{Group}
use Rattle.bac_command_line.specs.declared.job.Job.{Job}
use Rattle.bac_command_line.specs.declared.job.Job.TheVariants as job
use Rattle.bac_command_line.specs.declared.job.Keep.{Keep}
use Rattle.bac_command_line.specs.declared.listing.ListFault.{ListFault}

module _ {F : Type 0} {s : start.Ghosts F} (f : disk.Ghosts (FileOf s)) (file : Image) (old new : DiskFiles F s) (same : new ≡ old) where
  -- files that are as they were
  pub same_loses : LosesNothingAt f file old new
  same_loses unused = none_closed new.closed _ (ap (λ (x : DiskFiles F s). x.closed) same ∙ unused)

  pub same_part : KeepsPart f file old new
  same_part unused = none_closed new.closed _ (ap (λ (x : DiskFiles F s). x.closed) same ∙ unused)

module _ {S P C W Q F G : Type 0} {s : start.Ghosts F} {t : start.Ghosts G} (rules : SocketRules S P) (acts : Acts (Batched SiteState) P W) (f : disk.Ghosts (FileOf s)) (file : Image) (g : disk.Ghosts (FileOf t)) (part : Image)
    (folders : PartRules Q) (passes : S → Passed) (tells : C → Option CivilTime → C → Type 0) (waits : W) (run_loses : ToolLosesNothing rules acts f file g part) (stop_loses : StopLosesNothing f file)
    (old new : Setup S C Q s t) (status : ℕ) where
  by_loses : (stops : Bool) (asked : Keep) → KeepsBy rules acts f file g part waits tells stops asked old status new → LosesNothingAt f file old.files new.files
  by_loses true asked stops = stop_loses asked old.files new.files _ _ stops.0.0 stops.0.2
  by_loses false asked (None, told, alone) = same_loses f file old.files new.files alone.3.0
  by_loses false asked (Some begun, told, runs) = run_loses asked begun _ _ runs.1 runs.3

  devices_lose : (asked : Keep) (list : Result (List Group) ListFault) → KeepsDevices rules acts f file g part waits tells asked list old status new → LosesNothingAt f file old.files new.files
  devices_lose asked (Ok groups) keeps = by_loses asked.stop _ keeps
  devices_lose asked (Err fault) alone = same_loses f file old.files new.files alone.0.3.0

  of_loses : (lists : Bool) (asked : Keep) → KeepsOf rules acts f file g part waits tells lists asked old status new → LosesNothingAt f file old.files new.files
  of_loses false asked keeps = by_loses asked.stop asked keeps.0
  of_loses true asked keeps = devices_lose asked keeps.0 keeps.2

module _ {S P C W Q F G : Type 0} {s : start.Ghosts F} {t : start.Ghosts G} (rules : SocketRules S P) (acts : Acts (Batched SiteState) P W) (f : disk.Ghosts (FileOf s)) (file : Image) (g : disk.Ghosts (FileOf t)) (part : Image)
    (folders : PartRules Q) (passes : S → Passed) (tells : C → Option CivilTime → C → Type 0) (waits : W) (run_loses : ToolLosesNothing rules acts f file g part) (stop_loses : StopLosesNothing f file)
    (old new : Setup S C Q s t) (status : ℕ) where
  all_loses : (asked : Job) → DoesAll rules acts f file g part folders passes tells waits asked old status new → LosesNothingAt f file old.files new.files
  all_loses job.Replay did = same_loses f file old.files new.files did.1.0.0
  all_loses (job.Wi words) did = same_loses f file old.files new.files did.1.0.0
  all_loses (job.Rp words) did = same_loses f file old.files new.files did.1.0.0
  all_loses (job.Wp words) did = same_loses f file old.files new.files did.1.0.0
  all_loses (job.Log words) did = same_loses f file old.files new.files did.1.0.0
  all_loses (job.Logs words) did = same_loses f file old.files new.files did.1.0.0
  all_loses (job.Serve words) did = same_loses f file old.files new.files did.1.0.0
  all_loses (job.Keep words) did =
      of_loses rules acts f file g part folders passes tells waits run_loses stop_loses (with_output did.0 old) (with_output did.1 new) status (reads_input words) words did.3.0
  all_loses (job.Kept words) did = same_loses f file old.files new.files did.1.1.0
  all_loses (job.Check words) did = same_loses f file old.files new.files did.1.1.0

module _ {S P C W Q F G : Type 0} {s : start.Ghosts F} {t : start.Ghosts G} (rules : SocketRules S P) (acts : Acts (Batched SiteState) P W) (f : disk.Ghosts (FileOf s)) (file : Image) (g : disk.Ghosts (FileOf t)) (part : Image)
    (folders : PartRules Q) (passes : S → Passed) (tells : C → Option CivilTime → C → Type 0) (waits : W) (run_loses : ToolLosesNothing rules acts f file g part) (stop_loses : StopLosesNothing f file) where
  -- what the tool of a job leaves
  pub told_loses : (traces : S → Bool → S → Type 0) (asked : Job) (old new : Setup S C Q s t) (status : ℕ) → DoesTold rules acts f file g part folders passes tells waits traces asked old status new
      → LosesNothingAt f file old.files new.files
  told_loses traces asked old new status did = all_loses rules acts f file g part folders passes tells waits run_loses stop_loses _ new status asked did.2
