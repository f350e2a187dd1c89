-- Laws of the tool. Read `ToolLosesNothing` and `StopLosesNothing`.
use Rattle.std.specs.Prelude.{ℕ, Result}
use Rattle.sqlite_disk.specs.declared.Disk as disk
use Rattle.sqlite_disk.specs.declared.start.Start as start
use Rattle.sqlite_wal.specs.Recovery.{Image}
use Rattle.bac_batch.specs.Batch.{Batched}
use Rattle.bac_drive.specs.Happens.{Acts}
use Rattle.bac_files.specs.Files.{FileOf}
use Rattle.bac_files.specs.declared.disk_files.DiskFiles.{DiskFiles}
use Rattle.bac_historian.specs.Laws.{LosesNothingAt}
use Rattle.bac_ports.specs.Sockets.{SocketRules}
use Rattle.bac_site_poller.specs.Site.{SiteState}
use Rattle.bac_wire.specs.Stamp.{CivilTime}
use Rattle.bac_command_line.specs.declared.job.Keep.{Keep}
use Rattle.bac_keeper.specs.Machine.{Hands}
use Rattle.bac_keeper.specs.Runs.{RunsTool}
use Rattle.bac_keeper.specs.Stops.{StopsTool, Texts}
use Rattle.bac_keeper.specs.declared.fault.Fault.{Fault}

-- Whatever comes of `bac keep`, nothing is lost of an archive that its files held, and another database is left as it
-- was.
abbrev pub ToolLosesNothing : {S P C F G : Type 0} {s : start.Ghosts F} {t : start.Ghosts G} → SocketRules S P →
    Acts (Batched SiteState) P C → disk.Ghosts (FileOf s) → Image → disk.Ghosts (FileOf t) → Image → Type 0
ToolLosesNothing {S = S} {C = C} {s = s} {t = t} rules acts f file g part =
    (keep : Keep) (begun : CivilTime) (old new : Hands S C s t) (result : Result ℕ Fault)
    → RunsTool rules acts f file g part keep begun old new result → LosesNothingAt f file old.files new.files

-- So it is of `bac keep --stop`.
abbrev pub StopLosesNothing : {F : Type 0} {s : start.Ghosts F} → disk.Ghosts (FileOf s) → Image → Type 0
StopLosesNothing {F = F} {s = s} g image =
    (keep : Keep) (old new : DiskFiles F s) (before after : Texts) (result : Result ℕ Fault)
    → StopsTool g image keep old new before after result → LosesNothingAt g image old new
