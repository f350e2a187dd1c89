use Rattle.sqlite_wal.specs.Files.{image_at}
use Rattle.bac_files.proofs.FileGhosts.{file_ghosts}
use Rattle.bac_parts.proofs.FileLemmas.{done_so}
use Rattle.bac_historian.specs.Room.{in_room}
use Rattle.bac_historian.proofs.laws.keep_loses_nothing.Goals as goal

pub returns : goal.returns
returns g c unused =
    done_so (file_ghosts g.row.F g.F.Start g.F.Start-dict g.F.Destruct-dict) (image_at g.F.Start) _ _
    (λ found left it. c.kill_loses_nothing.ensures c.args.run.now c.args.place.now.before c.keep_file.new.parts (in_room g.W.Write.contents g.V.Write.contents c.args.room.now) found left.trees it)
    c.keep_file.new.files.closed (c.keep_file.ensures.left unused)
