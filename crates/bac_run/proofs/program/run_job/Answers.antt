use Rattle.std.proofs.Common.{refl}
use Rattle.sqlite_wal.specs.Files.{image_at}
use Rattle.bac_files.proofs.FileGhosts.{file_ghosts}
use Rattle.bac_files.specs.Parts.{part_rules}
use Rattle.bac_ports.specs.Sockets.{socket_rules}
use Rattle.bac_run.proofs.Lost.{same_part}
use Rattle.bac_run.proofs.Ran.{other_done}
use Rattle.bac_run.specs.Setup.{setup}
use Rattle.bac_site_poller.specs.SiteLaws.{site_acts}
use Rattle.bac_tools.specs.Streams.{streams}
use Rattle.bac_run.proofs.program.run_job.Goals as goal

pub returns-in_default-clause-ran : goal.returns-in_default-clause-ran
returns-in_default-clause-ran g c =
    let disk = file_ghosts g.row.F g.F.Start g.F.Start-dict g.F.Destruct-dict in
    let part = file_ghosts g.row.G g.G.Start g.G.Start-dict g.G.Destruct-dict in
    let rules = socket_rules g.S.Sockets.opens g.S.Sockets.closes g.S.Socket.Port.sends g.S.Socket.Port.receives g.S.Socket.Port.receives_within in
    let acts = site_acts g.S.Socket.Port.sends g.S.Socket.Port.receives_within g.W.Clock.reads in
    let old = setup g.I.Read.remaining g.O.Write.contents g.E.Write.contents c.args.machine.now c.args.console.now in
    let new = record old { streams = streams (g.I.Read.remaining c.run_read.new.input) (g.O.Write.contents c.run_read.new.output) (g.E.Write.contents c.run_read.new.errors) c.run_read.new.sockets c.run_read.new.clock } in
    other_done rules acts disk (image_at g.F.Start) part (image_at g.G.Start) (part_rules g.Q.Parts.lists g.Q.Parts.holds g.Q.Parts.bars) g.S.Heeds.passes g.C.Clock.tells c.args.waits old new c.run_read.result c.args.job
    c.in_default.not-Keep c.in_default.not-Kept c.in_default.not-Check c.run_read.ensures ((refl, refl), refl)

pub returns-in_default-clause-part : goal.returns-in_default-clause-part
returns-in_default-clause-part g c =
    same_part (file_ghosts g.row.G g.G.Start g.G.Start-dict g.G.Destruct-dict) (image_at g.G.Start) c.args.machine.now.parts c.args.machine.now.parts refl
