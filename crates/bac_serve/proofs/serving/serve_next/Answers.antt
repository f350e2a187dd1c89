use Rattle.std.proofs.Common.{refl}
use Rattle.bac_serve.specs.Serving.{server}
use Rattle.bac_serve.proofs.Turns.{waits_once}
use Rattle.bac_serve.proofs.serving.serve_next.Goals as goal

pub returns-in-Ok : goal.returns-in-Ok
returns-in-Ok g c =
    c.loop-waited.invariant _ _ (waits_once g.P.Port.sends g.P.Port.receives g.C.Clock.tells c.args.waits c.loop-waited.waited
    (server c.loop-waited.port c.loop-waited.device c.loop-waited.clock)
    (server c.answer.new.port c.answer.new.device c.answer.new.clock) c.receive.new.self
    c.receive.result _ c.loop-waited-test.true c.receive.ensures
    (rw c.in-Ok.is (refl, (c.answer.result, c.answer.ensures))))

pub returns-in-Err-Failed : goal.returns-in-Err-Failed
returns-in-Err-Failed g c =
    c.loop-waited.invariant _ _ (waits_once g.P.Port.sends g.P.Port.receives g.C.Clock.tells c.args.waits c.loop-waited.waited
    (server c.loop-waited.port c.loop-waited.device c.loop-waited.clock)
    (server c.receive.new.self c.loop-waited.device c.loop-waited.clock) c.receive.new.self
    c.receive.result _ c.loop-waited-test.true c.receive.ensures
    (rw (c.in-Err-Failed.is, c.in-Err-Failed.field-0-is) (refl, (refl, refl, refl))))

pub loop-waited-preserved : goal.loop-waited-preserved
loop-waited-preserved g c = λ result new rest.
    c.loop-waited.invariant _ _ (waits_once g.P.Port.sends g.P.Port.receives g.C.Clock.tells c.args.waits c.loop-waited.waited
    (server c.loop-waited.port c.loop-waited.device c.loop-waited.clock) new c.receive.new.self
    c.receive.result result c.loop-waited-test.true c.receive.ensures
    (rw (c.in-Err-Timeout.is, c.in-Err-Timeout.field-0-is) (c.tick.ensures.0, c.tick.new.clock, c.tick.ensures.1, rw (← c.tick.ensures.2) rest)))
