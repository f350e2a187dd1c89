-- Where a walk over a log that doesn't change has brought all.
use Rattle.std.proofs.Common.{◌≡◌, ℕ, ◌+◌, ◌<◌, max, nat_lt, Bool, true, false, [], refl, arith}
use Rattle.std.proofs.lemmas.Bool.{lt-ltb, ltb-true, ltb-false}
use Rattle.bac_link.specs.Delivery.{History, Moment}
use Rattle.bac_link.specs.Moments.{IsInWindow}
use Rattle.bac_walk.specs.Near.{IsNear}
use Rattle.bac_walk.specs.Outcomes.{IsRunOf}
use Rattle.bac_walk.specs.Rests.{Rested, rest_all}
use Rattle.bac_walk.specs.declared.outcome.Ended.TheVariants.{CaughtUp}
use Rattle.bac_walk.specs.declared.outcome.Why.{Why}
use Rattle.bac_walk.specs.declared.outcome.Why.TheVariants as why

pub after_all : (H : History) (m : Moment) (k low : ℕ) (b : Bool) → nat_lt m.newest (max k m.oldest) ≡ b → IsNear k m → IsInWindow low m →
    (t : ℕ) × ((rest_all H m k).next ≡ t) × (m.newest < max t m.oldest) × IsNear t m
after_all H m k low true e near window = (k, rw e refl, ltb-true m.newest (max k m.oldest) e, near)
after_all H m k low false e near window = (
  m.newest + 1,
  rw e refl,
  omega arith,
  record { above = omega (arith, ltb-false m.newest (max k m.oldest) e); below = omega (arith, window.oldest, window.newest) },
)

pub caught_up : (H : History) (m : Moment) (t : ℕ) → m.newest < max t m.oldest →
    rest_all H m t ≡ (let r : Rested = record { items = []; next = t; ended = CaughtUp } in r)
caught_up H m t lt = rw (lt-ltb m.newest (max t m.oldest) lt) refl

pub is_up : (w : Why) (steps : ℕ) → IsRunOf w steps steps CaughtUp → w ≡ why.CaughtUp
is_up why.CaughtUp steps run = refl
is_up why.StepLimit steps run = absurd (let e = run.1 in cc)
is_up (why.Fault f) steps run = absurd (let e = run.1 in cc)
is_up why.Memory steps run = absurd (omega (arith, run.0))
