use Rattle.sqlite_wal.specs.Files.{image_at}
use Rattle.bac_files.proofs.FileGhosts.{file_ghosts}
use Rattle.bac_keeper.proofs.Left.{stop_loses}
use Rattle.bac_keeper.proofs.laws.stop_loses_nothing.Goals as goal

pub returns : goal.returns
returns g c = λ keep old new before after result stops.
    stop_loses (file_ghosts g.row.F g.F.Start g.F.Start-dict g.F.Destruct-dict) (image_at g.F.Start) c.puts_keep_ids.ensures c.stop_loses_nothing.ensures keep old new before after result stops
