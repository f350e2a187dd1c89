use Rattle.std.proofs.Common.{sym, ◌∙◌}
use borrow.Author.Count.{below_more}
use Rattle.bac_site_poller.specs.Site.{MayAct}
use Rattle.bac_site_poller.proofs.Places.{may_act, none_acts, waits}
use Rattle.bac_site_poller.proofs.seat.acting.Goals as goal

pub loop-place-preserved : goal.loop-place-preserved
loop-place-preserved c =
    below_more (λ k. MayAct c.args.seats.now k → ⊥) c.loop-place.place c.loop-place.invariant
    (waits c.args.seats.now c.loop-place.place c.index-seats-place.result c.loop-place-test.true c.index-seats-place.is (sym c.is_waiting.ensures ∙ c.if-not-is_waiting.false))

pub returns-then-not-is_waiting-clause-some : goal.returns-then-not-is_waiting-clause-some
returns-then-not-is_waiting-clause-some c =
    may_act c.args.seats.now c.loop-place.place c.index-seats-place.result c.loop-place-test.true c.index-seats-place.is (sym c.is_waiting.ensures ∙ c.if-not-is_waiting.true)

pub returns-clause-none : goal.returns-clause-none
returns-clause-none c = none_acts c.args.seats.now c.loop-place.place c.loop-place-test.false c.loop-place.invariant
