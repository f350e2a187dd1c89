-- The days since 1990 against the day numbers of jiff_core, which begin in 1970.
use Rattle.std.proofs.Common.{◌≡◌, ℕ, zero, suc, ◌+◌, ◌-◌, ◌≤◌, ap, ◌∙◌, arith, ℤ, pos, neg_ℤ, ◌+ℤ◌, ◌-ℤ◌, ◌≤ℤ◌, ◌<◌, w32, to_z, of_z}
use Rattle.jiff_core.specs.Calendar.{days_in_year, day_count, days_from_civil, weekday_number}
use Rattle.jiff_core.proofs.CalendarLemmas.{day_count-epoch, days_from_civil-day_count, day_count-next_year, day_count-next_month, day_count-day, weekday_number-parts}
use Rattle.jiff_core.proofs.SignedLemmas.{back_small, signed_arith}
use Rattle.bac_wire.specs.declared.stamp.Date4.{Date4}
use Rattle.bac_wire.specs.Stamp.{date_of, CivilTime, IsCivilTime, days_of_years, days_of_months, day_number, weekday_of}

-- the days of the first n years from 1970 on
abbrev span : ℕ → ℕ
span zero = 0
span (suc n) = span n + days_in_year (pos (1970 + n))

year_on : (n next : ℕ) → next ≡ n + 1 → day_count (pos next) 1 1 ≡ day_count (pos n) 1 1 + days_in_year (pos n)
year_on n next e =
    let from : neg_ℤ (pos 10000) ≤ℤ pos n = omega (arith, signed_arith) in
    let step : pos next ≡ pos n +ℤ pos 1 = omega (arith, signed_arith) in
    day_count-next_year (pos n) (pos next) from step

years_from_1970 : (n : ℕ) → day_count (pos (1970 + n)) 1 1 ≡ 4371953 + span n
years_from_1970 zero = day_count-epoch
years_from_1970 (suc n) = omega (arith, year_on (1970 + n) (1970 + suc n) (omega arith), years_from_1970 n)

years_from_1990 : (n : ℕ) → day_count (pos (1990 + n)) 1 1 ≡ 4379258 + days_of_years n
unfolding days_of_years
years_from_1990 zero = years_from_1970 20
years_from_1990 (suc n) = omega (arith, year_on (1990 + n) (1990 + suc n) (omega arith), years_from_1990 n)

same : (n : ℕ) → suc n ≡ n + 1
same n = omega arith

months : (y n : ℕ) → day_count (pos y) (n + 1) 1 ≡ day_count (pos y) 1 1 + days_of_months y n
unfolding days_of_months
months y zero = omega arith
months y (suc n) = omega (arith, day_count-next_month (pos y) (suc n) (omega arith), months y n, ap (λ k. day_count (pos y) k 1) (same n))

-- the day count of a moment's day
pub day_count-day_number : (m : CivilTime) → IsCivilTime m → day_count (pos m.year) m.month m.day ≡ 4379258 + day_number m
day_count-day_number m is =
    let year : 1990 + (m.year - 1990) ≡ m.year = omega (arith, is.from) in
    let some : 1 ≤ m.month = omega (arith, signed_arith, is.date) in
    let first : 1 ≤ m.day = omega (arith, signed_arith, is.date) in
    let month : m.month - 1 + 1 ≡ m.month = omega arith in
    omega (arith, ap (λ y. day_count (pos y) 1 1) year, years_from_1990 (m.year - 1990), months m.year (m.month - 1), ap (λ k. day_count (pos m.year) k 1) month, day_count-day (pos m.year) m.month m.day 1 first (omega arith))

-- 1990-01-01 was a Monday in jiff_core too
pub weekday_number-day_number : (m : CivilTime) → IsCivilTime m → weekday_number (days_from_civil (pos m.year) m.month m.day) + 1 ≡ weekday_of m
weekday_number-day_number m is =
    omega (arith, weekday_number-parts (days_from_civil (pos m.year) m.month m.day), days_from_civil-day_count (pos m.year) m.month m.day, day_count-day_number m is)

pub weekday_is : (m : CivilTime) (y : ℤ) (k d : ℕ) → IsCivilTime m → y ≡ pos m.year → pos k ≡ pos m.month → pos d ≡ pos m.day → weekday_number (days_from_civil y k d) + 1 ≡ weekday_of m
weekday_is m y k d is year month day =
    let k_is : k ≡ m.month = omega (arith, signed_arith) in
    let d_is : d ≡ m.day = omega (arith, signed_arith) in
    rw year (rw k_is (rw d_is (weekday_number-day_number m is)))

pub days_is : (m : CivilTime) (y : ℤ) (k d : ℕ) → IsCivilTime m → y ≡ pos m.year → pos k ≡ pos m.month → pos d ≡ pos m.day → days_from_civil y k d ≡ pos (7305 + day_number m)
days_is m y k d is year month day =
    let k_is : k ≡ m.month = omega (arith, signed_arith) in
    let d_is : d ≡ m.day = omega (arith, signed_arith) in
    rw year (rw k_is (rw d_is (omega (arith, signed_arith, days_from_civil-day_count (pos m.year) m.month m.day, day_count-day_number m is))))

abbrev dated : CivilTime → ℕ → Date4
dated m w = record { year = m.year - 1900; month = m.month; day = m.day; weekday = w }

pub date_is : (m now : CivilTime) (w : ℕ) → m ≡ now → w ≡ weekday_of now → dated m w ≡ date_of now
date_is m now w same_moment same_day = ap (λ x. dated x w) same_moment ∙ ap (λ x. dated now x) same_day

-- what the code computes of jiff_core's day number
pub since_1990 : (r : ℤ) (n : ℕ) → r ≡ pos (7305 + n) → n < 3000000 → to_z w32 (of_z w32 (to_z w32 (of_z w32 r) -ℤ pos 7305)) ≡ pos n
since_1990 r n e lt =
    let a : to_z w32 (of_z w32 (pos (7305 + n))) ≡ pos (7305 + n) = back_small w32 (pos (7305 + n)) (omega arith) in
    let b : pos (7305 + n) -ℤ pos 7305 ≡ pos n = omega (arith, signed_arith) in
    let d : to_z w32 (of_z w32 (pos n)) ≡ pos n = back_small w32 (pos n) (omega arith) in
    rw e (rw a (rw b d))
