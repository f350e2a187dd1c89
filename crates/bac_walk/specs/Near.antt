-- How near a walk is to its log. Numbers come round, so they tell ordinals apart within half of the count only.
use Rattle.std.specs.Prelude.{◌≡◌, ℕ, Bool, false, ◌+◌, ◌<◌, ◌≤◌, List, length}
use Rattle.bac_link.specs.declared.item.Item.{Item}
use Rattle.bac_link.specs.Delivery.{History, Moment, DeliversTo, now, later}
use Rattle.bac_link.specs.Laws.{after_answers}
use Rattle.bac_link.specs.Moments.{AreServed, AreInWindow}
use Rattle.bac_walk.specs.declared.outcome.Ended.TheVariants.{StepLimit}
use Rattle.bac_walk.specs.Collects.{batches, Collected, our_log, started_at, losses_of, yield}
use Rattle.bac_walk.specs.Turns.{NoneOfAsked}

-- an ordinal is less than half of the count away from the oldest entry held
pub record IsNear (s : ℕ) (m : Moment) : Type 0 where
  pub above : m.oldest < s + 2147483648
  pub below : s < m.oldest + 2147483648

-- a walk at ordinal s that asks for so many is near at each answer of its next step: at the second if a second question
-- is asked
abbrev pub IsNearStep : (count s : ℕ) → List Moment → Type 0
IsNearStep count s M = IsNear s (now M) × (NoneOfAsked count s (now M) → IsNear s (now (later M)))

-- Wherever fewer than so many steps may bring a walk that is at ordinal s, it is near at each answer of the next one. A
-- walk from the oldest entry may be anywhere until its first batch.
abbrev pub StaysNear : (r count : ℕ) → History → List Moment → Bool → ℕ → ℕ → Type 0
StaysNear r count H M fresh s steps = (i retries old new t : ℕ) (items : List Item) (answers : List (List Item)) →
    i < steps →
    Collected (our_log r M H) (started_at count fresh s) i (losses_of retries old new) (yield items StepLimit)
    t answers →
    (batches answers ≡ 0 → fresh ≡ false) →
    IsNearStep count t (after_answers (length answers) M)

-- and so does the ordinal where the walk begins, unless that is the oldest entry
abbrev pub WindowsAreNear : Type 0
WindowsAreNear =
    (r count : ℕ) (H : History) (M : List Moment) (low s steps : ℕ) (fresh : Bool) → AreServed r M H →
    AreInWindow low M → (fresh ≡ false → (low ≤ s) × (s < low + 2147483648)) → StaysNear r count H M fresh s steps

-- what is delivered at moments in a window, from an ordinal in it on, ends in it, and so do the moments that are left
abbrev pub StaysInWindow : Type 0
StaysInWindow =
    (H : History) (M : List Moment) (low s t count : ℕ) (items : List Item) → 0 < length M → AreInWindow low M →
    low ≤ s → s < low + 2147483648 → DeliversTo H s items t M count →
    (low ≤ t) × (t < low + 2147483648) × AreInWindow low (after_answers count M)
