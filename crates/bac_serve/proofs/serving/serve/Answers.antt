use Rattle.std.proofs.Common.{rules}
use Rattle.bac_serve.specs.Serving.{server}
use Rattle.bac_serve.proofs.Turns.{serves_once}
use Rattle.bac_serve.proofs.serving.serve.Goals as goal

pub returns-in_err-serve_next : goal.returns-in_err-serve_next
returns-in_err-serve_next g c =
    c.loop-served.invariant _ _ (serves_once g.P.Port.sends g.P.Port.receives g.C.Clock.tells c.args.count c.loop-served.served
    (server c.loop-served.port c.loop-served.device c.loop-served.clock)
    (server c.serve_next.new.port c.serve_next.new.device c.serve_next.new.clock)
    (server c.serve_next.new.port c.serve_next.new.device c.serve_next.new.clock)
    c.serve_next.result _ c.loop-served-test.true c.serve_next.ensures
    (rw c.in_err-serve_next.was (search rules)))

pub loop-served-preserved : goal.loop-served-preserved
loop-served-preserved g c = λ result new rest.
    c.loop-served.invariant _ _ (serves_once g.P.Port.sends g.P.Port.receives g.C.Clock.tells c.args.count c.loop-served.served
    (server c.loop-served.port c.loop-served.device c.loop-served.clock)
    (server c.serve_next.new.port c.serve_next.new.device c.serve_next.new.clock) new
    c.serve_next.result result c.loop-served-test.true c.serve_next.ensures
    (rw c.in_ok-serve_next.was rest))
