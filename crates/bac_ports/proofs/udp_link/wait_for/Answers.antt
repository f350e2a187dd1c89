use Rattle.std.proofs.Common.{refl}
use Rattle.bac_ports.proofs.Turns.{one_more}
use Rattle.bac_ports.proofs.udp_link.wait_for.Goals as goal

pub returns-in-Some : goal.returns-in-Some
returns-in-Some g c =
    c.loop-tried.invariant _ _ (one_more g.P.Port.receives c.args.peer c.args.request.now c.args.limit c.loop-tried.tried
    c.loop-tried.port c.receive.new.self c.receive.new.self c.receive.result _ c.loop-tried-test.true c.receive.ensures
    (rw (c.in-Ok.is, ← c.fitting.ensures, c.in-Some.is) (refl, refl)))

pub returns-in-Err : goal.returns-in-Err
returns-in-Err g c =
    c.loop-tried.invariant _ _ (one_more g.P.Port.receives c.args.peer c.args.request.now c.args.limit c.loop-tried.tried
    c.loop-tried.port c.receive.new.self c.receive.new.self c.receive.result _ c.loop-tried-test.true c.receive.ensures
    (rw c.in-Err.is (tt, refl)))

pub loop-tried-preserved : goal.loop-tried-preserved
loop-tried-preserved g c = λ result new rest.
    c.loop-tried.invariant _ _ (one_more g.P.Port.receives c.args.peer c.args.request.now c.args.limit c.loop-tried.tried
    c.loop-tried.port c.receive.new.self new c.receive.result result c.loop-tried-test.true c.receive.ensures
    (rw (c.in-Ok.is, ← c.fitting.ensures, c.in_default.is) rest))
