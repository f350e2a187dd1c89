use Rattle.std.proofs.Common.{◌≡◌, ◌-◌, ◌≤◌, ◌<◌, length, refl, rules, arith}
use Rattle.bac_query.specs.Hearing.{ReceivesBy, port_rules, standing}
use Rattle.bac_query.proofs.Turns.{hears_all, hears_no_more, hears_once}
use Rattle.bac_query.proofs.finding.hear.Goals as goal

pub returns-then-len-least : goal.returns-then-len-least
returns-then-len-least g c =
    let few : length c.loop-received.seeking.pending.items < c.args.least = search rules in
    c.loop-received.invariant _ _ _ (hears_no_more (ReceivesBy (port_rules g.P.Port.sends g.P.Port.receives g.P.Port.receives_within) c.args.wait)
    c.args.least c.args.limit c.loop-received.received _ _ _ _ _ c.loop-received-test.true few (refl, refl, refl))

pub returns-in_err-take-in-Ok : goal.returns-in_err-take-in-Ok
returns-in_err-take-in-Ok g c =
    let some : c.args.least ≤ length c.loop-received.seeking.pending.items = search rules in
    c.loop-received.invariant _ _ _ (hears_once (ReceivesBy (port_rules g.P.Port.sends g.P.Port.receives g.P.Port.receives_within) c.args.wait)
    c.args.least c.args.limit c.loop-received.received _ c.receive_by.new.port _ _ _ c.receive_by.result _ c.loop-received-test.true some c.receive_by.ensures
    (rw c.in-Ok.is (
      c.take.result,
      standing (g.W.Write.contents c.take.new.out) c.take.new.seeking,
      c.take.ensures,
      rw c.in_err-take-in-Ok.was (search rules),
    )))

pub returns-in-Err-Timeout : goal.returns-in-Err-Timeout
returns-in-Err-Timeout g c =
    let some : c.args.least ≤ length c.loop-received.seeking.pending.items = search rules in
    c.loop-received.invariant _ _ _ (hears_once (ReceivesBy (port_rules g.P.Port.sends g.P.Port.receives g.P.Port.receives_within) c.args.wait)
    c.args.least c.args.limit c.loop-received.received _ c.receive_by.new.port _ _ _ c.receive_by.result _ c.loop-received-test.true some c.receive_by.ensures
    (rw (c.in-Err-Timeout.is, c.in-Err-Timeout.field-0-is) (refl, refl, refl)))

pub returns-in-Err-Failed : goal.returns-in-Err-Failed
returns-in-Err-Failed g c =
    let some : c.args.least ≤ length c.loop-received.seeking.pending.items = search rules in
    c.loop-received.invariant _ _ _ (hears_once (ReceivesBy (port_rules g.P.Port.sends g.P.Port.receives g.P.Port.receives_within) c.args.wait)
    c.args.least c.args.limit c.loop-received.received _ c.receive_by.new.port _ _ _ c.receive_by.result _ c.loop-received-test.true some c.receive_by.ensures
    (rw (c.in-Err-Failed.is, c.in-Err-Failed.field-0-is) (refl, refl, refl)))

pub loop-received-preserved : goal.loop-received-preserved
loop-received-preserved g c = λ result after new rest.
    let some : c.args.least ≤ length c.loop-received.seeking.pending.items = search rules in
    c.loop-received.invariant _ _ _ (hears_once (ReceivesBy (port_rules g.P.Port.sends g.P.Port.receives g.P.Port.receives_within) c.args.wait)
    c.args.least c.args.limit c.loop-received.received _ c.receive_by.new.port _ _ _ c.receive_by.result _ c.loop-received-test.true some c.receive_by.ensures
    (rw c.in-Ok.is (
      c.take.result,
      standing (g.W.Write.contents c.take.new.out) c.take.new.seeking,
      c.take.ensures,
      rw c.in_ok-take-in-Ok.was rest,
    )))

pub returns : goal.returns
returns g c =
    let none : c.args.limit - c.loop-received.received ≡ 0 = omega (arith, c.loop-received-test.false) in
    c.loop-received.invariant _ _ _
    (hears_all (ReceivesBy (port_rules g.P.Port.sends g.P.Port.receives g.P.Port.receives_within) c.args.wait) c.args.least _ c.loop-received.port _ none)
