use Rattle.std.proofs.Common.{sym}
use Rattle.sqlite_wal.specs.Files.{image_at}
use Rattle.bac_files.proofs.FileGhosts.{file_ghosts}
use Rattle.bac_keeper.proofs.Stopped.{left_stopped, stopped_at}
use Rattle.bac_keeper.proofs.stopping.stop_placed.Goals as goal

pub returns : goal.returns
returns g c =
    let disk = file_ghosts g.row.F g.F.Start g.F.Start-dict g.F.Destruct-dict in
    let done = c.work_in-done.result in
    let works = c.work_in-done.ensures in
    record {
      done = done;
      works = rw (sym c.as_str-path.ensures.value) works;
      kept = stopped_at disk (image_at g.F.Start) c.args.named.items c.as_str-path.result.now c.args.files.now c.work_in-done.new.files done works;
      left = left_stopped disk (image_at g.F.Start) c.args.named.items c.as_str-path.result.now c.args.files.now c.work_in-done.new.files done works;
      ends = rw (sym c.as_str-path.ensures.value, sym c.stop_done.ensures) c.end_stop.ensures;
    }
