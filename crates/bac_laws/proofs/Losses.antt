-- What isn't lost, by what `run` leaves.
use Rattle.std.specs.Prelude.{pos, ◌+◌, ◌*◌}
use Rattle.sqlite_disk.specs.declared.Disk as disk
use Rattle.sqlite_disk.specs.declared.start.Start as start
use Rattle.sqlite_wal.specs.Files.{image_at}
use Rattle.sqlite.specs.Effect.{Database}
use Rattle.bac_files.specs.Files.{FileOf}
use Rattle.bac_files.specs.declared.disk_files.DiskFiles.{DiskFiles}
use Rattle.bac_historian.specs.Laws.{LosesNothing, LosesNothingAt}
use Rattle.bac_laws.specs.Lost.{LosesNone, LosesNoneIn}
use Rattle.bac_parts.proofs.FileLemmas.{done_so}

loses_none : (found left : Database) → LosesNothing found left.trees → LosesNone found left
loses_none found left is = record {
  items = λ has log epoch number columns there. (is.0 has).rows.items _ there;
  epochs = λ has log epoch there. (is.0 has).rows.ids there.0 (pos (log * 32768 + epoch)) there.1 there.2;
  beginnings = λ has own log epoch columns known there. (is.0 has).rows.beginnings own _ there known;
  logs = λ has id there. (is.0 has).logs id there;
  devices = λ has id there. (is.0 has).devices id there;
  others = is.1;
}

pub leaves_all : {F : Type 0} {s : start.Ghosts F} (g : disk.Ghosts (FileOf s)) (files left : DiskFiles F s)
    → LosesNothingAt g (image_at s) files left → LosesNoneIn g files left
leaves_all {s = s} g files left is = λ unused.
    done_so g (image_at s) (λ found after. LosesNothing found after.trees) LosesNone loses_none left.closed (is unused)
