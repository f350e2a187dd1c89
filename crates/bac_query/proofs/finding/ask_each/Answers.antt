use Rattle.std.proofs.Common.{rules}
use Rattle.bac_query.specs.Hearing.{port_rules, standing}
use Rattle.bac_query.proofs.Turns.{asks_once}
use Rattle.bac_query.proofs.finding.ask_each.Goals as goal

pub returns-in_err-left : goal.returns-in_err-left
returns-in_err-left g c =
    c.loop-address.invariant _ _ _ (asks_once (port_rules g.P.Port.sends g.P.Port.receives g.P.Port.receives_within) c.args.octets.now c.args.addresses.now
    c.loop-address.address-index _ c.loop-address.left _ c.send-sent.new.self c.settle.new.port _ c.send-sent.result _ (standing (g.W.Write.contents c.settle.new.out) c.settle.new.seeking) _
    c.settle.result _ c.loop-address-test.true c.send-sent.ensures (rw (c.ask.ensures.pending, c.ask.ensures.taken, c.ask.ensures.refused) at c.settle.ensures) (rw c.in_err-left.was (search rules)))

pub loop-address-preserved : goal.loop-address-preserved
loop-address-preserved g c = λ result after new rest.
    c.loop-address.invariant _ _ _ (asks_once (port_rules g.P.Port.sends g.P.Port.receives g.P.Port.receives_within) c.args.octets.now c.args.addresses.now
    c.loop-address.address-index _ c.loop-address.left _ c.send-sent.new.self c.settle.new.port _ c.send-sent.result _ (standing (g.W.Write.contents c.settle.new.out) c.settle.new.seeking) _
    c.settle.result _ c.loop-address-test.true c.send-sent.ensures (rw (c.ask.ensures.pending, c.ask.ensures.taken, c.ask.ensures.refused) at c.settle.ensures) (rw c.in_ok-left.was rest))
