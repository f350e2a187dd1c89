use Rattle.bac_ports.specs.Sockets.{socket_rules}
use Rattle.bac_tools.specs.Streams.{streams}
use Rattle.bac_tools_tests.proofs.Logged.{printed_in_order}
use Rattle.bac_tools_tests.proofs.Plain.{of_plain}
use Rattle.bac_tools_tests.proofs.run_callers.printed_in_order.Goals as goal

pub returns : goal.returns
returns g c = λ said plain asks.
    let rules = (socket_rules g.S.Sockets.opens g.S.Sockets.closes g.S.Socket.Port.sends g.S.Socket.Port.receives g.S.Socket.Port.receives_within) in
    let old = streams (g.I.Read.remaining c.args.input.now) (g.O.Write.contents c.args.output.now) (g.E.Write.contents c.args.errors.now) c.args.sockets.now c.args.clock.now in
    let new = streams (g.I.Read.remaining c.run.new.input) (g.O.Write.contents c.run.new.output) (g.E.Write.contents c.run.new.errors) c.run.new.sockets c.run.new.clock in
    printed_in_order rules g.S.Heeds.passes g.C.Clock.tells said.asked said.instance said.steps said.count said.from said.trace old new c.run.result
    (of_plain rules g.S.Heeds.passes g.C.Clock.tells said old new c.run.result plain (c.run.ensures.done _ asks))
