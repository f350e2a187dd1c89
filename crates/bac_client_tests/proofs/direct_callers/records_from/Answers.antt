use Rattle.std.proofs.Common.{◌≡◌, ℕ, refl, sym, ap, subst, ◌∙◌}
use Rattle.bac_wire.specs.Primitive.{Id}
use Rattle.bac_objects.specs.Sampling.{log_id}
use Rattle.bac_link.specs.Delivery.{DeliversTo}
use Rattle.bac_walk.specs.Place.{WalkPlace}
use Rattle.bac_memory_link.specs.Ahead.{IsAhead, history_ahead, moments_ahead, placed_all}
use Rattle.bac_client_tests.proofs.direct_callers.records_from.Goals as goal

pub returns-clause-delivers : goal.returns-clause-delivers
returns-clause-delivers c = λ rounds k low there here window above below.
    let n = c.args.log.instance in
    let d = c.args.device.now in
    let events = c.args.events.now in
    let r = d.reply_size in
    let M = placed_all rounds (moments_ahead d n events) in
    let H = history_ahead rounds d n events in
    let is = (c.in-Some.ensures {u = tt}).some in
    let kind = ((c.in-Some.ensures {u = tt}).is_some.0 refl).1 in
    let id : c.args.log ≡ log_id n = ap (λ k. let i : Id = record { kind = k; instance = n } in i) kind in
    let log = ap (λ (w : WalkPlace). w.log) is in
    let K : Id → Type 0 = λ i. IsAhead c.new-link.result.device.now c.new-link.result.events.now i r M H in
    let ahead = c.new-link.ensures.ours n rounds there in
    let a = c.collect.ensures.ours r M H k low (subst K (sym (log ∙ id)) (rounds, ahead)) (ap (λ (w : WalkPlace). w.next) is ∙ here) window (λ old. (above, below)) in
    let P : ℕ → Type 0 = λ j. DeliversTo H j c.collect.result.items.items a.2 M a.1 in
    (a.1, a.2, c.collect.ensures.next ∙ a.4, subst P (a.3 (ap (λ (w : WalkPlace). w.fresh) is)) a.5)
