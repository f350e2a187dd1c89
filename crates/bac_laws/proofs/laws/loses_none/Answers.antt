use Rattle.bac_files.proofs.FileGhosts.{file_ghosts}
use Rattle.bac_laws.proofs.Losses.{leaves_all}
use Rattle.bac_laws.proofs.laws.loses_none.Goals as goal

pub returns : goal.returns
returns g c =
    let disk = file_ghosts g.row.F g.F.Start g.F.Start-dict g.F.Destruct-dict in
    leaves_all disk c.args.machine.now.files c.run.new.machine.files c.run.ensures.stays
