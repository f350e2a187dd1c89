-- The moments of one log never go back; and each number has an ordinal near a moment.
use Rattle.std.proofs.Common.{ℕ, ◌+◌, ◌-◌, ◌≤◌, List, [], ◌∷◌, sym, subst, arith}
use Rattle.bac_link.specs.Delivery.{History, Moment}
use Rattle.bac_link.specs.Moments.{AreMoments}
use Rattle.bac_log.specs.TrendLog.{sequence_number}
use Rattle.bac_link.specs.Moments.{NeverGoesBack}
use Rattle.bac_link.specs.Ordinals.{distance}
use Rattle.bac_walk.specs.Honest.{MomentsNeverGoBack, NumbersHaveOrdinals}
use Rattle.bac_walk.proofs.Held.{Follows-all, Rises, Sound}

back : (H : History) (capacity : ℕ) (start : Moment) (M : List Moment) → capacity ≤ 65535 → Sound H start → AreMoments capacity start M → NeverGoesBack M
back H capacity start [] few sound moments = tt
back H capacity start (m ∷ []) few sound moments = tt
back H capacity start (m ∷ n ∷ M) few sound moments =
    let P : Moment → Type 0 = λ k. Sound H k in
    let m_sound : Sound H m = subst P (sym moments.0.1) (Follows-all H capacity start moments.0.0 few sound).sound in
    let R : Moment → Type 0 = λ k. Rises m k in
    let rises : Rises m n = subst R (sym moments.1.0.1) (Follows-all H capacity m moments.1.0.0 few m_sound).rises in
    (rises.oldest, rises.newest, back H capacity m (n ∷ M) few m_sound moments.1)

pub never_back : MomentsNeverGoBack
never_back = λ r M H served. (served.some, back H served.capacity served.start M served.ranged.1 served.begins served.moments)

pub near_ordinals : NumbersHaveOrdinals
near_ordinals = λ n m some most room.
    let low = m.oldest - 2147483647 in
    let s = low + distance (sequence_number low) n in
    (s, omega (arith, some, most, room), record { above = omega (arith, room); below = omega (arith, room) })
