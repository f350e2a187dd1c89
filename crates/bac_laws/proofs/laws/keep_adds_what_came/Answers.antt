use Rattle.sqlite_wal.specs.Files.{image_at}
use Rattle.bac_command_line.specs.declared.job.Job.TheVariants as job
use Rattle.bac_files.proofs.FileGhosts.{file_ghosts}
use Rattle.bac_laws.proofs.Adds.{keep_asked_adds}
use Rattle.bac_ports.specs.Sockets.{socket_rules}
use Rattle.bac_run.specs.Setup.{setup}
use Rattle.bac_laws.proofs.laws.keep_adds_what_came.Goals as goal

pub returns : goal.returns
returns g c said ask runs honest =
    let disk = file_ghosts g.row.F g.F.Start g.F.Start-dict g.F.Destruct-dict in
    let before = file_ghosts g.row.G g.G.Start g.G.Start-dict g.G.Destruct-dict in
    let rules = socket_rules g.S.Sockets.opens g.S.Sockets.closes g.S.Socket.Port.sends g.S.Socket.Port.receives g.S.Socket.Port.receives_within in
    let folders = Rattle.bac_files.specs.Parts.part_rules g.Q.Parts.lists g.Q.Parts.holds g.Q.Parts.bars in
    let old = setup g.I.Read.remaining g.O.Write.contents g.E.Write.contents c.args.machine.now c.args.console.now in
    let new = setup g.I.Read.remaining g.O.Write.contents g.E.Write.contents c.run.new.machine c.run.new.console in
    keep_asked_adds rules g.S.Tracing.traces g.W.Clock.reads c.puts_are_one.ensures.join disk before (image_at g.G.Start) c.args.waits g.C.Clock.tells folders g.S.Heeds.passes
    said old c.run.result new runs (c.run.ensures.done (job.Keep said) ask) honest
