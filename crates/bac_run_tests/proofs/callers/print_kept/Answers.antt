use Rattle.sqlite_wal.specs.Files.{image_at}
use Rattle.bac_files.proofs.FileGhosts.{file_ghosts}
use Rattle.bac_files.specs.Parts.{part_rules}
use Rattle.bac_ports.specs.Sockets.{socket_rules}
use Rattle.bac_run.specs.Setup.{setup}
use Rattle.bac_run_tests.proofs.Jobs.{kept_apart, kept_untold}
use Rattle.bac_site_poller.specs.SiteLaws.{site_acts}
use Rattle.bac_command_line.specs.declared.job.Job.TheVariants as job
use Rattle.bac_run_tests.proofs.callers.print_kept.Goals as goal

pub returns-clause-apart : goal.returns-clause-apart
returns-clause-apart g c asked ask =
    let disk = file_ghosts g.row.F g.F.Start g.F.Start-dict g.F.Destruct-dict in
    let part = file_ghosts g.row.G g.G.Start g.G.Start-dict g.G.Destruct-dict in
    let rules = socket_rules g.S.Sockets.opens g.S.Sockets.closes g.S.Socket.Port.sends g.S.Socket.Port.receives g.S.Socket.Port.receives_within in
    let acts = site_acts g.S.Socket.Port.sends g.S.Socket.Port.receives_within g.W.Clock.reads in
    let folders = part_rules g.Q.Parts.lists g.Q.Parts.holds g.Q.Parts.bars in
    let old = setup g.I.Read.remaining g.O.Write.contents g.E.Write.contents c.args.machine.now c.args.console.now in
    let new = setup g.I.Read.remaining g.O.Write.contents g.E.Write.contents c.run.new.machine c.run.new.console in
    kept_apart rules acts disk (image_at g.F.Start) part (image_at g.G.Start) folders g.S.Heeds.passes g.C.Clock.tells c.args.waits g.S.Tracing.traces
    old new c.run.result asked (c.run.ensures.done (job.Kept asked) ask)

pub returns-clause-quiet : goal.returns-clause-quiet
returns-clause-quiet g c asked ask zero =
    let disk = file_ghosts g.row.F g.F.Start g.F.Start-dict g.F.Destruct-dict in
    let part = file_ghosts g.row.G g.G.Start g.G.Start-dict g.G.Destruct-dict in
    let rules = socket_rules g.S.Sockets.opens g.S.Sockets.closes g.S.Socket.Port.sends g.S.Socket.Port.receives g.S.Socket.Port.receives_within in
    let acts = site_acts g.S.Socket.Port.sends g.S.Socket.Port.receives_within g.W.Clock.reads in
    let folders = part_rules g.Q.Parts.lists g.Q.Parts.holds g.Q.Parts.bars in
    let old = setup g.I.Read.remaining g.O.Write.contents g.E.Write.contents c.args.machine.now c.args.console.now in
    let new = setup g.I.Read.remaining g.O.Write.contents g.E.Write.contents c.run.new.machine c.run.new.console in
    kept_untold rules acts disk (image_at g.F.Start) part (image_at g.G.Start) folders g.S.Heeds.passes g.C.Clock.tells c.args.waits g.S.Tracing.traces
    old new c.run.result asked zero (c.run.ensures.done (job.Kept asked) ask)
