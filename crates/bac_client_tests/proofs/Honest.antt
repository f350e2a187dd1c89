-- What came over a link that is honest for a log.
use Rattle.std.proofs.Common.{◌≡◌, ℕ, ◌+◌, ◌<◌, ◌≤◌, Option, None, Result, List, length, subst}
use Rattle.bac_wire.specs.Primitive.{Id}
use Rattle.bac_apdu.specs.Npdu.{Place}
use Rattle.bac_log.specs.TrendLog.{sequence_number}
use Rattle.bac_link.specs.Delivery.{History, Moment, DeliversTo}
use Rattle.bac_link.specs.Path.{towards}
use Rattle.bac_link.specs.declared.item.Item.{Item}
use Rattle.bac_link.specs.declared.link.Lost.{Lost as Loss}
use Rattle.bac_link.specs.Moments.{NeverGoesBack}
use Rattle.bac_walk.specs.Came.{Came, Brought, reaching, walk_over}
use Rattle.bac_link.specs.Moments.{AreInWindow}
use Rattle.bac_walk.specs.Outcomes.{IsRunOf}
use Rattle.bac_walk.specs.Place.{WalkPlace, walk_at}
use Rattle.bac_link.specs.Honest.{IsHonestWhere, asked_log}
use Rattle.bac_walk.specs.Honest.{IsHonestEnd, HonestIsDelivered}
use Rattle.bac_walk.specs.declared.outcome.Ended.{Ended}
use Rattle.bac_walk.specs.declared.outcome.WalkFault.{WalkFault}
use Rattle.bac_walk.specs.declared.outcome.WalkFault.TheVariants.{Lost}
use Rattle.bac_walk.specs.declared.outcome.Why.{Why}
use Rattle.bac_walk.specs.declared.outcome.Why.TheVariants as why
use Rattle.bac_walk.proofs.Ends.{ended_as, is_loss}

pub honest_run : {S : Type 0} (asks : S → List ℕ → Result (List ℕ) Loss → S → Type 0) (stands : S → List Moment → Type 0) (old new : S) (way : Option Place) (retries : ℕ) (w after : WalkPlace)
    (steps n : ℕ) (came : List Came) (items : List Item) (ended : Ended) (reason : Why) (log : Id) (number : ℕ) (H : History) (M : List Moment) (low k : ℕ) →
    way ≡ None → w ≡ walk_at log number → HonestIsDelivered asks stands → IsHonestWhere asks (asked_log (towards None) log 100) H low stands → stands old M → IsRunOf reason steps n ended →
    Brought (reaching asks (towards way) retries) (walk_over old w) n came items ended (walk_over new after) → number ≡ sequence_number k → (0 < length M) × NeverGoesBack M → AreInWindow low M → low ≤ k → k < low + 2147483648 →
    ((count : ℕ) × (t : ℕ) × (after.next ≡ sequence_number t) × DeliversTo H k items t M count) × ((e : WalkFault) → reason ≡ why.Fault e → e ≡ Lost)
honest_run {S = S} asks stands old new way retries w after steps n came items ended reason log number H M low k near from law honest stood run ran here moments window above below =
    let P : Option Place → WalkPlace → Type 0 = λ y v. Brought (reaching asks (towards y) retries) (walk_over old v) n came items ended (walk_over new after) in
    let B : Option Place → Type 0 = λ y. P y (walk_at log number) in
    let b : P None (walk_at log number) = subst B near (subst (P way) from ran) in
    let d = law (towards None) retries old new (walk_at log number) after n came items ended H M low k honest stood b here moments.0 moments.1 window (λ f. (above, below)) in
    let D : ℕ → Type 0 = λ x. DeliversTo H x items d.0.1 M (length came) in (
      (length came, d.0.1, d.0.3, subst D d.0.2 d.0.5),
      λ e is. is_loss e (subst IsHonestEnd (ended_as reason steps n ended e run is) d.3),
    )
