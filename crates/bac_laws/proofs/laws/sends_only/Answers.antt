use Rattle.std.specs.Prelude.{map}
use Rattle.std.specs.String.{string_bytes}
use Rattle.sqlite_wal.specs.Files.{image_at}
use Rattle.bac_files.proofs.FileGhosts.{file_ghosts}
use Rattle.bac_files.specs.Parts.{part_rules}
use Rattle.bac_laws.proofs.Quiet.{no_job}
use Rattle.bac_laws.proofs.Sent.{sends_only}
use Rattle.bac_ports.specs.Sockets.{socket_rules}
use Rattle.bac_run.specs.Setup.{setup}
use Rattle.bac_laws.proofs.laws.sends_only.Goals as goal

pub returns-clause-sends : goal.returns-clause-sends
returns-clause-sends g c asked ask bound =
    let disk = file_ghosts g.row.F g.F.Start g.F.Start-dict g.F.Destruct-dict in
    let before = file_ghosts g.row.G g.G.Start g.G.Start-dict g.G.Destruct-dict in
    let rules = socket_rules g.S.Sockets.opens g.S.Sockets.closes g.S.Socket.Port.sends g.S.Socket.Port.receives g.S.Socket.Port.receives_within in
    let folders = part_rules g.Q.Parts.lists g.Q.Parts.holds g.Q.Parts.bars in
    let old = setup g.I.Read.remaining g.O.Write.contents g.E.Write.contents c.args.machine.now c.args.console.now in
    let new = setup g.I.Read.remaining g.O.Write.contents g.E.Write.contents c.run.new.machine c.run.new.console in
    sends_only rules disk (image_at g.F.Start) before (image_at g.G.Start) folders g.S.Heeds.passes g.C.Clock.tells c.args.waits g.W.Clock.reads g.S.Tracing.traces
    asked bound old c.run.result new (c.run.ensures.done asked ask)

pub returns-clause-silent : goal.returns-clause-silent
returns-clause-silent g c none =
    let old = setup g.I.Read.remaining g.O.Write.contents g.E.Write.contents c.args.machine.now c.args.console.now in
    let new = setup g.I.Read.remaining g.O.Write.contents g.E.Write.contents c.run.new.machine c.run.new.console in
    no_job (map string_bytes c.args.words.now) none old.streams new.streams c.run.result (λ word is. (c.run.ensures.bad_value word is).1) (λ clear. (c.run.ensures.explained clear).1)
