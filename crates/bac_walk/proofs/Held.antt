-- Facts of the moments of one log.
use Rattle.std.proofs.Common.{ℕ, ◌+◌, ◌≤◌, List, [], ◌∷◌, length, sym, subst, arith}
use Rattle.bac_link.specs.Moments.{AreMoments, AreServed, IsMoment, Change, Append, Purge, changed, changed_all}
use Rattle.bac_link.specs.Delivery.{History, Moment, now, later}

-- a later moment of one log
pub record Rises (m n : Moment) : Type 0 where
  pub oldest : m.oldest ≤ n.oldest
  pub newest : m.newest ≤ n.newest

-- what holds of each moment of a log
abbrev pub Sound : History → Moment → Type 0
Sound H m = IsMoment H.logged m

pub record Follows (H : History) (m n : Moment) : Type 0 where
  pub sound : Sound H n
  pub rises : Rises m n

same : (H : History) (m : Moment) → Sound H m → Follows H m m
same H m s = record { sound = s; rises = record { oldest = omega arith; newest = omega arith } }

Follows-changed : (H : History) (capacity : ℕ) (m : Moment) (c : Change) → capacity ≤ 65535 → Sound H m → Follows H m (changed capacity m c)
Follows-changed H capacity m Append few s = record {
  sound = record { above = omega (arith, s.above); close = omega (arith, s.close); few = omega (arith, s.few) };
  rises = record { oldest = omega arith; newest = omega arith };
}
Follows-changed H capacity m Purge few s = record {
  sound = record { above = omega (arith, s.above, s.close); close = omega arith; few = omega arith };
  rises = record { oldest = omega (arith, s.close); newest = omega arith };
}

pub Follows-all : (H : History) (capacity : ℕ) (m : Moment) (cs : List Change) → capacity ≤ 65535 → Sound H m → Follows H m (changed_all capacity m cs)
Follows-all H capacity m [] few s = same H m s
Follows-all H capacity m (c ∷ cs) few s =
    let one = Follows-changed H capacity m c few s in
    let rest = Follows-all H capacity (changed capacity m c) cs few one.sound in
    record {
      sound = rest.sound;
      rises = record { oldest = omega (arith, one.rises.oldest, rest.rises.oldest); newest = omega (arith, one.rises.newest, rest.rises.newest) };
    }

pub Sound-now : (r : ℕ) (M : List Moment) (H : History) → AreServed r M H → Sound H (now M)
Sound-now r [] H s = absurd (omega (arith, s.some))
Sound-now r (m ∷ M) H s =
    let P : Moment → Type 0 = λ n. Sound H n in
    subst P (sym s.moments.0.1) (Follows-all H s.capacity s.start s.moments.0.0 s.ranged.1 s.begins).sound

pub In-now : (r : ℕ) (M : List Moment) (H : History) → AreServed r M H → (now M).newest ≤ H.logged + length H.entries
In-now r [] H s = absurd (omega (arith, s.some))
In-now r (m ∷ M) H s = s.entries.0

pub Rises-later : (r : ℕ) (M : List Moment) (H : History) → AreServed r M H → Rises (now M) (now (later M))
Rises-later r [] H s = absurd (omega (arith, s.some))
Rises-later r (m ∷ []) H s = record { oldest = omega arith; newest = omega arith }
Rises-later r (m ∷ n ∷ M) H s =
    let P : Moment → Type 0 = λ k. Rises m k in
    subst P (sym s.moments.1.0.1) (Follows-all H s.capacity m s.moments.1.0.0 s.ranged.1 (Sound-now r (m ∷ n ∷ M) H s)).rises

-- so are all moments to come
abbrev pub AllSound : History → List Moment → Type 0
AllSound H [] = Unit {0}
AllSound H (m ∷ M) = Sound H m × AllSound H M

each_sound : (H : History) (capacity : ℕ) (m : Moment) (M : List Moment) → capacity ≤ 65535 → Sound H m → AreMoments capacity m M → AllSound H M
each_sound H capacity m [] few s are = tt
each_sound H capacity m (n ∷ M) few s are =
    let P : Moment → Type 0 = λ k. Sound H k in
    let here = subst P (sym are.0.1) (Follows-all H capacity m are.0.0 few s).sound in
    (here, each_sound H capacity n M few here are.1)

pub all_sound : (r : ℕ) (M : List Moment) (H : History) → AreServed r M H → AllSound H M
all_sound r M H s = each_sound H s.capacity s.start M s.ranged.1 s.begins s.moments
