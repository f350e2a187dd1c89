use Rattle.std.proofs.Common.{◌≡◌, ℕ, ◌+◌, ◌<◌, ◌≤◌, List, [], ◌∷◌, refl, sym, ap, subst, arith}
use Rattle.bac_wire.specs.Primitive.{Id}
use Rattle.bac_log.specs.TrendLog.{empty_log, sequence_number}
use Rattle.bac_objects.specs.State.{State}
use Rattle.bac_link.specs.Delivery.{DeliversTo, Moment}
use Rattle.bac_memory_link.specs.Ahead.{IsThere, history_ahead, moments_ahead, placed_all}
use Rattle.bac_memory_link.specs.declared.event.LinkEvent.{LinkEvent}
use Rattle.bac_memory_link.specs.declared.event.LinkEvent.TheVariants.{Sample, Handle, Answer, Lose}
use Rattle.bac_client_tests.proofs.Day.{day_is}
use Rattle.bac_link.specs.Moments.{AreInWindow}
use Rattle.bac_client_tests.specs.Day.{day, day_moments, plant}
use Rattle.bac_client_tests.proofs.direct_callers.records_of_a_day.Goals as goal

abbrev day_with : List ℕ → List LinkEvent
day_with octets =
    Sample 1 ∷ Sample 1 ∷ Answer
    ∷ Sample 1 ∷ Sample 1 ∷ Lose ∷ Sample 1 ∷ Sample 1 ∷ Answer
    ∷ Sample 1 ∷ Handle octets ∷ []

pub returns : goal.returns
returns c =
    let items = c.in_ok-outcome.outcome.items.items in
    let next = c.in_ok-outcome.outcome.next in
    let d : State = plant c.args.device.now c.args.name c.args.source in
    let P : State → Id → List ℕ → Type 0 = λ d id octets. (rounds k low : ℕ) → IsThere d id.instance → 1 ≡ sequence_number k →
    AreInWindow low (placed_all rounds (moments_ahead d id.instance (day_with octets))) → low ≤ k → k < low + 2147483648 →
    (count : ℕ) × (t : ℕ) × (next ≡ sequence_number t) × DeliversTo (history_ahead rounds d id.instance (day_with octets)) k items t (placed_all rounds (moments_ahead d id.instance (day_with octets))) count in
    let a : P c.in-Ok.built c.in_ok-log.log c.in_ok-purge.purge = c.in_ok-outcome.ensures.delivers in
    let b = subst (λ (x : State). P x c.in_ok-log.log c.in_ok-purge.purge) (c.in-Ok.ensures.built).1 a in
    let e = subst (λ (x : Id). P d x c.in_ok-purge.purge) (c.in_ok-log.ensures.some).0 b in
    let g = subst (λ (x : List ℕ). P d (record { kind = 20; instance = 1 }) x) (c.in_ok-purge.ensures.some).0 e in
    let same : placed_all 0 (moments_ahead d 1 day) ≡ day_moments = ap (λ (M : List Moment). placed_all 0 M) (day_is c.args.device.now c.args.name c.args.source) in
    let W : List Moment → Type 0 = λ M. AreInWindow 1 M in
    let window : AreInWindow 1 day_moments =
    (record { oldest = omega arith; newest = omega arith }, (record { oldest = omega arith; newest = omega arith }, (record { oldest = omega arith; newest = omega arith }, tt))) in
    let f = g 0 1 1 (empty_log 3 0, refl) refl (subst W (sym same) window) (omega arith) (omega arith) in
    (f.0, f.1, f.2, subst (λ (M : List Moment). DeliversTo (history_ahead 0 d 1 day) 1 items f.1 M f.0) same f.3)
