-- Moments are ordered by their parts as by their ticks.
use Rattle.std.proofs.Common.{◌≡◌, ℕ, ◌+◌, ◌<◌, ◌≤◌, inl, inr, ap, sym, ◌∙◌, arith, pos, ◌<ℤ◌}
use Rattle.std.proofs.lemmas.Bool.{cases_order}
use Rattle.std.specs.declared.cmp.Ordering.{Ordering}
use Rattle.std.specs.declared.cmp.Ordering.TheVariants.{Less, Equal, Greater}
use Rattle.std.specs.Ordering.{nat_cmp, ordering_then}
use Rattle.std.specs.Cmp.{nat_cmp_is}
use Rattle.jiff_core.specs.Calendar.{IsCivilDate, day_count}
use Rattle.jiff_core.proofs.CalendarLemmas.{day_count-lt_year, day_count-lt_month, day_count-day}
use Rattle.jiff_core.proofs.SignedLemmas.{signed_arith}
use Rattle.bac_wire.specs.Stamp.{CivilTime, IsCivilTime, day_number, ticks_of, moment_order}
use Rattle.bac_wire.proofs.Calendar.{day_count-day_number}

less : (a b : ℕ) → a < b → nat_cmp a b ≡ Less
less a b h = sym (nat_cmp_is a b Less h)

equal : (a b : ℕ) → a ≡ b → nat_cmp a b ≡ Equal
equal a b h = sym (nat_cmp_is a b Equal h)

greater : (a b : ℕ) → b < a → nat_cmp a b ≡ Greater
greater a b h = sym (nat_cmp_is a b Greater h)

-- one part decides, or the rest does
step : (a b x y : ℕ) (rest : Ordering) → (a < b → x < y) → (b < a → y < x) → (a ≡ b → nat_cmp x y ≡ rest) → nat_cmp x y ≡ ordering_then (nat_cmp a b) rest
step a b x y rest below above same =
    elim (cases_order a b) [
      | inl e ↦ rw (equal a b e) (same e)
      | inr other ↦
          elim other [
            | inl lt ↦ rw (less a b lt) (less x y (below lt))
            | inr gt ↦ rw (greater a b gt) (greater x y (above gt))
          ]
    ]

same_gap : (a b x y : ℕ) → a + y ≡ b + x → nat_cmp x y ≡ nat_cmp a b
same_gap a b x y e =
    elim (cases_order a b) [
      | inl same ↦ equal x y (omega arith) ∙ sym (equal a b same)
      | inr other ↦
          elim other [
            | inl lt ↦ less x y (omega arith) ∙ sym (less a b lt)
            | inr gt ↦ greater x y (omega arith) ∙ sym (greater a b gt)
          ]
    ]

civil : (m : CivilTime) → IsCivilTime m → IsCivilDate (pos m.year) m.month m.day
civil m is = (is.date.0, (omega (arith, signed_arith, is.date), omega (arith, signed_arith, is.date)), (omega (arith, signed_arith, is.date), omega (arith, signed_arith, is.date)))

by_year : (m n : CivilTime) → IsCivilTime m → IsCivilTime n → m.year < n.year → day_number m < day_number n
by_year m n is are lt =
    let first : 1 ≤ n.day = omega (arith, signed_arith, are.date) in
    let later : pos m.year <ℤ pos n.year = omega (arith, signed_arith) in
    omega (arith, day_count-day_number m is, day_count-day_number n are, day_count-lt_year (pos m.year) m.month m.day (pos n.year) n.month n.day (civil m is) first later)

by_month : (m n : CivilTime) → IsCivilTime m → IsCivilTime n → m.year ≡ n.year → m.month < n.month → day_number m < day_number n
by_month m n is are year lt =
    let first : 1 ≤ n.day = omega (arith, signed_arith, are.date) in
    omega (arith, day_count-day_number m is, day_count-day_number n are, ap (λ y. day_count (pos y) n.month n.day) year, day_count-lt_month (pos m.year) m.month m.day n.month n.day (civil m is) first lt)

by_day : (m n : CivilTime) → IsCivilTime m → IsCivilTime n → m.year ≡ n.year → m.month ≡ n.month → day_number m + n.day ≡ day_number n + m.day
by_day m n is are year month =
    let first : 1 ≤ n.day = omega (arith, signed_arith, are.date) in
    let begun : 1 ≤ m.day = omega (arith, signed_arith, is.date) in
    omega (arith, day_count-day_number m is, day_count-day_number n are, ap (λ y. day_count (pos y) n.month n.day) year, ap (λ k. day_count (pos m.year) k n.day) month, day_count-day (pos m.year) m.month m.day n.day begun first)

-- a moment's day decides, before its time
sooner : (m n : CivilTime) → IsCivilTime m → IsCivilTime n → day_number m < day_number n → ticks_of m < ticks_of n
sooner m n is are lt = omega (arith, is.hour, is.minute, is.second, is.hundredth)

pub ticks_order : (m n : CivilTime) → IsCivilTime m → IsCivilTime n → nat_cmp (ticks_of m) (ticks_of n) ≡ moment_order m n
ticks_order m n is are =
    step m.year n.year (ticks_of m) (ticks_of n) _ (λ lt. sooner m n is are (by_year m n is are lt)) (λ gt. sooner n m are is (by_year n m are is gt)) (λ year.
    step m.month n.month (ticks_of m) (ticks_of n) _ (λ lt. sooner m n is are (by_month m n is are year lt)) (λ gt. sooner n m are is (by_month n m are is (sym year) gt)) (λ month.
    let days = by_day m n is are year month in
    step m.day n.day (ticks_of m) (ticks_of n) _ (λ lt. sooner m n is are (omega arith)) (λ gt. sooner n m are is (omega arith)) (λ day.
    let same : day_number m ≡ day_number n = omega arith in
    step m.hour n.hour (ticks_of m) (ticks_of n) _ (λ lt. omega (arith, same, is.minute, is.second, is.hundredth, are.minute, are.second, are.hundredth)) (λ gt. omega (arith, same, is.minute, is.second, is.hundredth, are.minute, are.second, are.hundredth)) (λ hour.
    step m.minute n.minute (ticks_of m) (ticks_of n) _ (λ lt. omega (arith, same, is.second, is.hundredth)) (λ gt. omega (arith, same, are.second, are.hundredth)) (λ minute.
    step m.second n.second (ticks_of m) (ticks_of n) _ (λ lt. omega (arith, same, is.hundredth)) (λ gt. omega (arith, same, are.hundredth)) (λ second.
    same_gap m.hundredth n.hundredth (ticks_of m) (ticks_of n) (omega (arith, same))))))))
