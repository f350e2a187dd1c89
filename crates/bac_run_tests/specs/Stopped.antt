-- What a run of `bac keep --stop` means that ended with 0.
use Rattle.std.specs.Prelude.{◌≡◌, List, map, IfSome, IsSome, Ok}
use Rattle.std.specs.Io.KnownBytes.{Appends}
use Rattle.sqlite_disk.specs.declared.Disk as disk
use Rattle.sqlite_disk.specs.declared.start.Start as start
use Rattle.sqlite_wal.specs.Recovery.{Image}
use Rattle.bac_files.specs.Files.{FileOf, IsDoneTo}
use Rattle.bac_files.specs.declared.disk_files.DiskFiles.{DiskFiles}
use Rattle.bac_keep_command_line.specs.Devices.{named_as}
use Rattle.bac_keep_command_line.specs.Orders.{stop_in}
use Rattle.bac_keeper.specs.Lines.{stopped_lines}
use Rattle.bac_keeping.specs.Stopping.{IsStopped}
use Rattle.bac_keeping.specs.declared.stopping.Stopped.{Stopped}
use Rattle.bac_plan.specs.declared.named.Named.{Named}
use Rattle.bac_print.specs.Output.{Held}
use Rattle.bac_command_line.specs.declared.job.Keep.{Keep}

-- What the words name was on record, and closed files hold the archive in which it is stopped; each row of that has its
-- line.
pub record IsAllStopped {F : Type 0} {s : start.Ghosts F} (f : disk.Ghosts (FileOf s)) (file : Image) (asked : Keep)
    (left : DiskFiles F s) (before after : Held) : Type 0 where
  pub named : List Named
  pub by_words : stop_in asked ≡ Ok (map named_as named)
  pub stopped : Stopped
  pub is_closed : IsSome left.closed
  pub does : IfSome left.closed (IsDoneTo f file (IsStopped named stopped))
  pub lines : Appends before after (stopped_lines stopped)
