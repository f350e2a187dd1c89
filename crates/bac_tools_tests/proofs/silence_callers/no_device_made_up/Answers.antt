use Rattle.std.proofs.Common.{subst}
use Rattle.bac_ports.specs.Sockets.{socket_rules}
use Rattle.bac_tools.specs.Streams.{streams}
use Rattle.bac_tools.specs.Run.{Runs}
use Rattle.bac_tools_tests.proofs.Unfound.{no_wi}
use Rattle.bac_command_line.specs.declared.job.Job.TheVariants.{Wi}
use Rattle.bac_command_line.specs.declared.job.Stations.{Stations}
use Rattle.bac_tools_tests.proofs.silence_callers.no_device_made_up.Goals as goal

pub returns : goal.returns
returns g c = λ said addresses are asks silent still.
    let rules = (socket_rules g.S.Sockets.opens g.S.Sockets.closes g.S.Socket.Port.sends g.S.Socket.Port.receives g.S.Socket.Port.receives_within) in
    let old = streams (g.I.Read.remaining c.args.input.now) (g.O.Write.contents c.args.output.now) (g.E.Write.contents c.args.errors.now) c.args.sockets.now c.args.clock.now in
    let new = streams (g.I.Read.remaining c.run.new.input) (g.O.Write.contents c.run.new.output) (g.E.Write.contents c.run.new.errors) c.run.new.sockets c.run.new.clock in
    no_wi rules g.S.Heeds.passes g.C.Clock.tells said addresses old new c.run.result
    (subst (λ (s : Stations). Runs rules g.S.Heeds.passes g.C.Clock.tells (Wi (record said { stations = s })) old c.run.result new) are (c.run.ensures.done _ asks))
    silent still
