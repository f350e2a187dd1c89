-- The test of a moment decides whether it is one.
use Rattle.std.proofs.Common.{◌≡◌, ℕ, pos, ◌≤◌, Bool, true, false, cond, Option, None, Some, ◌&&◌, refl, ap, arith}
use Rattle.std.specs.Prelude.{nat_le, nat_lt}
use Rattle.std.specs.Option.{SomeIff}
use Rattle.std.proofs.lemmas.Bool.{and_parts, and_from, leb-true, ltb-true, le-leb, lt-ltb}
use Rattle.std.proofs.lemmas.Int.{ints}
use Rattle.jiff_core.specs.Calendar.{IsDate, days_in_month}
use Rattle.bac_wire.specs.Stamp.{CivilTime, IsCivilTime}
use Rattle.bac_script.specs.Script.Stamp.{is_day, is_time, is_moment, checked}

date-from : (year month day : ℕ) → year ≤ 2154 → is_day year month day ≡ true → IsDate (pos year) (pos month) (pos day)
date-from year month day far h =
    let last = days_in_month (pos year) month in
    let p = and_parts (nat_le 1 month) (nat_le month 12 && (nat_le 1 day && nat_le day last)) h in
    let q = and_parts (nat_le month 12) (nat_le 1 day && nat_le day last) p.1 in
    let r = and_parts (nat_le 1 day) (nat_le day last) q.1 in (
      (omega (arith, ints), omega (arith, ints)),
      (omega (arith, ints, leb-true 1 month p.0), omega (arith, ints, leb-true month 12 q.0)),
      (omega (arith, ints, leb-true 1 day r.0), omega (arith, ints, leb-true day last r.1)),
    )

day-from : (year month day : ℕ) → IsDate (pos year) (pos month) (pos day) → is_day year month day ≡ true
day-from year month day (is_year, (m, n), (d, e)) =
    let last = days_in_month (pos year) month in
    and_from (nat_le 1 month) (nat_le month 12 && (nat_le 1 day && nat_le day last)) (le-leb 1 month (omega (arith, ints, m)))
    (and_from (nat_le month 12) (nat_le 1 day && nat_le day last) (le-leb month 12 (omega (arith, ints, n)))
    (and_from (nat_le 1 day) (nat_le day last) (le-leb 1 day (omega (arith, ints, d))) (le-leb day last (omega (arith, ints, e)))))

moment-from : (m : CivilTime) → is_moment m ≡ true → IsCivilTime m
unfolding is_moment
moment-from m h =
    let day = is_day m.year m.month m.day in
    let time = is_time m.hour m.minute m.second m.hundredth in
    let p = and_parts (nat_le 1990 m.year) (nat_le m.year 2154 && (day && time)) h in
    let q = and_parts (nat_le m.year 2154) (day && time) p.1 in
    let r = and_parts day time q.1 in
    let s = and_parts (nat_lt m.hour 24) (nat_lt m.minute 60 && (nat_lt m.second 60 && nat_lt m.hundredth 100)) r.1 in
    let t = and_parts (nat_lt m.minute 60) (nat_lt m.second 60 && nat_lt m.hundredth 100) s.1 in
    let u = and_parts (nat_lt m.second 60) (nat_lt m.hundredth 100) t.1 in
    let to = leb-true m.year 2154 q.0 in
    record {
      from = leb-true 1990 m.year p.0;
      to = to;
      date = date-from m.year m.month m.day to r.0;
      hour = ltb-true m.hour 24 s.0;
      minute = ltb-true m.minute 60 t.0;
      second = ltb-true m.second 60 u.0;
      hundredth = ltb-true m.hundredth 100 u.1;
    }

test-from : (m : CivilTime) → IsCivilTime m → is_moment m ≡ true
unfolding is_moment
test-from m h =
    let day = is_day m.year m.month m.day in
    let time = is_time m.hour m.minute m.second m.hundredth in
    and_from (nat_le 1990 m.year) (nat_le m.year 2154 && (day && time)) (le-leb 1990 m.year h.from)
    (and_from (nat_le m.year 2154) (day && time) (le-leb m.year 2154 h.to)
    (and_from day time (day-from m.year m.month m.day h.date)
    (and_from (nat_lt m.hour 24) (nat_lt m.minute 60 && (nat_lt m.second 60 && nat_lt m.hundredth 100)) (lt-ltb m.hour 24 h.hour)
    (and_from (nat_lt m.minute 60) (nat_lt m.second 60 && nat_lt m.hundredth 100) (lt-ltb m.minute 60 h.minute)
    (and_from (nat_lt m.second 60) (nat_lt m.hundredth 100) (lt-ltb m.second 60 h.second) (lt-ltb m.hundredth 100 h.hundredth))))))

checked_by : (b : Bool) (m : CivilTime) (r : Option CivilTime) → SomeIff r (IsCivilTime m) m → (b ≡ true → IsCivilTime m) → (IsCivilTime m → b ≡ true) → r ≡ cond b (Some m) None
checked_by true m None never found again = absurd (never (found refl))
checked_by true m (Some x) (is, same) found again = ap Some same
checked_by false m None never found again = refl
checked_by false m (Some x) (is, same) found again = cc (again is)

pub is_checked : (m : CivilTime) (r : Option CivilTime) → SomeIff r (IsCivilTime m) m → r ≡ checked m
is_checked m r h = checked_by (is_moment m) m r h (moment-from m) (test-from m)
