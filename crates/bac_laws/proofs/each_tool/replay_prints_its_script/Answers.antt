use Rattle.sqlite_wal.specs.Files.{image_at}
use Rattle.bac_files.proofs.FileGhosts.{file_ghosts}
use Rattle.bac_files.specs.Parts.{part_rules}
use Rattle.bac_laws.proofs.Played.{replay_leaves, replay_ran}
use Rattle.bac_ports.specs.Sockets.{socket_rules}
use Rattle.bac_run.specs.Setup.{setup}
use Rattle.bac_site_poller.specs.SiteLaws.{site_acts}
use Rattle.bac_command_line.specs.declared.job.Job.TheVariants as job
use Rattle.bac_laws.proofs.each_tool.replay_prints_its_script.Goals as goal

pub returns-clause-prints : goal.returns-clause-prints
returns-clause-prints g c ask script has =
    let disk = file_ghosts g.row.F g.F.Start g.F.Start-dict g.F.Destruct-dict in
    let before = file_ghosts g.row.G g.G.Start g.G.Start-dict g.G.Destruct-dict in
    let rules = socket_rules g.S.Sockets.opens g.S.Sockets.closes g.S.Socket.Port.sends g.S.Socket.Port.receives g.S.Socket.Port.receives_within in
    let acts = site_acts g.S.Socket.Port.sends g.S.Socket.Port.receives_within g.W.Clock.reads in
    let folders = part_rules g.Q.Parts.lists g.Q.Parts.holds g.Q.Parts.bars in
    let old = setup g.I.Read.remaining g.O.Write.contents g.E.Write.contents c.args.machine.now c.args.console.now in
    let new = setup g.I.Read.remaining g.O.Write.contents g.E.Write.contents c.run.new.machine c.run.new.console in
    replay_ran rules acts disk (image_at g.F.Start) before (image_at g.G.Start) folders g.S.Heeds.passes g.C.Clock.tells c.args.waits g.S.Tracing.traces
    script old c.run.result new (c.run.ensures.done job.Replay ask) has

pub returns-clause-leaves : goal.returns-clause-leaves
returns-clause-leaves g c ask =
    let disk = file_ghosts g.row.F g.F.Start g.F.Start-dict g.F.Destruct-dict in
    let before = file_ghosts g.row.G g.G.Start g.G.Start-dict g.G.Destruct-dict in
    let rules = socket_rules g.S.Sockets.opens g.S.Sockets.closes g.S.Socket.Port.sends g.S.Socket.Port.receives g.S.Socket.Port.receives_within in
    let acts = site_acts g.S.Socket.Port.sends g.S.Socket.Port.receives_within g.W.Clock.reads in
    let folders = part_rules g.Q.Parts.lists g.Q.Parts.holds g.Q.Parts.bars in
    let old = setup g.I.Read.remaining g.O.Write.contents g.E.Write.contents c.args.machine.now c.args.console.now in
    let new = setup g.I.Read.remaining g.O.Write.contents g.E.Write.contents c.run.new.machine c.run.new.console in
    replay_leaves rules acts disk (image_at g.F.Start) before (image_at g.G.Start) folders g.S.Heeds.passes g.C.Clock.tells c.args.waits g.S.Tracing.traces
    old c.run.result new (c.run.ensures.done job.Replay ask)
