use Rattle.std.proofs.Common.{ℕ, sym, ap, subst, ◌∙◌}
use Rattle.bac_wire.specs.Primitive.{Id}
use Rattle.bac_link.specs.Delivery.{DeliversTo}
use Rattle.bac_link.specs.Laws.{after_answers}
use Rattle.bac_walk.specs.Place.{WalkPlace}
use Rattle.bac_client_tests.proofs.walk_callers.records_from.Goals as goal

pub returns : goal.returns
returns g c = λ r M H k low ours here window above below.
    let is = (c.in-Some.ensures {u = tt}).some in
    let log = ap (λ (w : WalkPlace). w.log) is in
    let K : Id → Type 0 = λ n. g.L.LogLink.is_ours c.args.link.now n r M H in
    let a = c.collect.ensures.ours r M H k low (subst K (sym log) ours) (ap (λ (w : WalkPlace). w.next) is ∙ here) window (λ old. (above, below)) in
    let P : ℕ → Type 0 = λ n. DeliversTo H n c.collect.result.items.items a.2 M a.1 in
    let Q : Id → Type 0 = λ n. g.L.LogLink.is_ours c.collect.new.link n r (after_answers a.1 M) H in
    (a.1, a.2, c.collect.ensures.next ∙ a.4, subst P (a.3 (ap (λ (w : WalkPlace). w.fresh) is)) a.5, subst Q log a.6)
