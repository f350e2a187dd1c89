use Rattle.bac_ports.specs.Sockets.{socket_rules}
use Rattle.bac_tools.specs.Streams.{streams}
use Rattle.bac_tools_tests.proofs.Plain.{of_plain}
use Rattle.bac_tools_tests.proofs.Silence.{no_log, no_rp, no_wp}
use Rattle.bac_tools_tests.proofs.silence_callers.nothing_made_up.Goals as goal

pub returns-clause-rp : goal.returns-clause-rp
returns-clause-rp g c = λ said asks silent.
    let rules = (socket_rules g.S.Sockets.opens g.S.Sockets.closes g.S.Socket.Port.sends g.S.Socket.Port.receives g.S.Socket.Port.receives_within) in
    let old = streams (g.I.Read.remaining c.args.input.now) (g.O.Write.contents c.args.output.now) (g.E.Write.contents c.args.errors.now) c.args.sockets.now c.args.clock.now in
    let new = streams (g.I.Read.remaining c.run.new.input) (g.O.Write.contents c.run.new.output) (g.E.Write.contents c.run.new.errors) c.run.new.sockets c.run.new.clock in
    no_rp rules g.S.Heeds.passes g.C.Clock.tells said old new c.run.result (c.run.ensures.done _ asks) silent

pub returns-clause-wp : goal.returns-clause-wp
returns-clause-wp g c = λ said asks silent.
    let rules = (socket_rules g.S.Sockets.opens g.S.Sockets.closes g.S.Socket.Port.sends g.S.Socket.Port.receives g.S.Socket.Port.receives_within) in
    let old = streams (g.I.Read.remaining c.args.input.now) (g.O.Write.contents c.args.output.now) (g.E.Write.contents c.args.errors.now) c.args.sockets.now c.args.clock.now in
    let new = streams (g.I.Read.remaining c.run.new.input) (g.O.Write.contents c.run.new.output) (g.E.Write.contents c.run.new.errors) c.run.new.sockets c.run.new.clock in
    no_wp rules g.S.Heeds.passes g.C.Clock.tells said old new c.run.result (c.run.ensures.done _ asks) silent

pub returns-clause-log : goal.returns-clause-log
returns-clause-log g c = λ said plain asks silent.
    let rules = (socket_rules g.S.Sockets.opens g.S.Sockets.closes g.S.Socket.Port.sends g.S.Socket.Port.receives g.S.Socket.Port.receives_within) in
    let old = streams (g.I.Read.remaining c.args.input.now) (g.O.Write.contents c.args.output.now) (g.E.Write.contents c.args.errors.now) c.args.sockets.now c.args.clock.now in
    let new = streams (g.I.Read.remaining c.run.new.input) (g.O.Write.contents c.run.new.output) (g.E.Write.contents c.run.new.errors) c.run.new.sockets c.run.new.clock in
    no_log rules g.S.Heeds.passes g.C.Clock.tells said.asked said.instance said.steps said.count said.from said.trace old new c.run.result
    (of_plain rules g.S.Heeds.passes g.C.Clock.tells said old new c.run.result plain (c.run.ensures.done _ asks)) silent
