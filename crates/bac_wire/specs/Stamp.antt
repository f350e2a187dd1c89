-- Dates, times and moments of the calendar (clauses 20.2.12 and 20.2.13).
use Rattle.std.specs.Prelude.{ℕ, zero, suc, pos, unsigned_abs, ◌+◌, ◌-◌, ◌*◌, ◌/◌, ◌%◌, ◌<◌, ◌≤◌, List, [], ◌∷◌}
use Rattle.std.specs.declared.cmp.Ordering.{Ordering}
use Rattle.std.specs.Ordering.{nat_cmp, ordering_then}
use Rattle.jiff_core.specs.declared.civil.datetime.DateTime.{DateTime}
use Rattle.jiff_core.specs.Calendar.{IsDate, days_in_month, days_in_year}
use Rattle.bac_wire.specs.declared.stamp.Date4.{Date4}
use Rattle.bac_wire.specs.declared.stamp.Time4.{Time4}

-- ---- octets

-- in the order of the standard
abbrev pub date_octets : Date4 → List ℕ
date_octets d = d.year ∷ d.month ∷ d.day ∷ d.weekday ∷ []

-- the same of a time: hour, minute, second and hundredths (clause 20.2.13)
abbrev pub time_octets : Time4 → List ℕ
time_octets t = t.hour ∷ t.minute ∷ t.second ∷ t.hundredth ∷ []

-- the first part in which they differ decides, and the weekday is no such part
abbrev pub order_of : Date4 → Time4 → Date4 → Time4 → Ordering
order_of date time date' time' =
    ordering_then (nat_cmp date.year date'.year)
    (ordering_then (nat_cmp date.month date'.month)
    (ordering_then (nat_cmp date.day date'.day)
    (ordering_then (nat_cmp time.hour time'.hour)
    (ordering_then (nat_cmp time.minute time'.minute)
    (ordering_then (nat_cmp time.second time'.second)
    (nat_cmp time.hundredth time'.hundredth))))))

-- ---- moments

-- the parts of a moment
pub record CivilTime : Type 0 where
  pub year : ℕ
  pub month : ℕ
  pub day : ℕ
  pub hour : ℕ
  pub minute : ℕ
  pub second : ℕ
  pub hundredth : ℕ

-- the moment of these parts, in their order
abbrev pub moment : ℕ → ℕ → ℕ → ℕ → ℕ → ℕ → ℕ → CivilTime
moment year month day hour minute second hundredth =
    record {
      year = year;
      month = month;
      day = day;
      hour = hour;
      minute = minute;
      second = second;
      hundredth = hundredth;
    }

-- the calendar has this day, in the years that a date can state, and a clock shows this time
pub record IsCivilTime (m : CivilTime) : Type 0 where
  pub from : 1990 ≤ m.year
  pub to : m.year ≤ 2154
  pub date : IsDate (pos m.year) (pos m.month) (pos m.day)
  pub hour : m.hour < 24
  pub minute : m.minute < 60
  pub second : m.second < 60
  pub hundredth : m.hundredth < 100

-- ---- the calendar

-- the days of the first n years from 1990 on
unfoldable pub days_of_years : ℕ → ℕ
days_of_years zero = 0
days_of_years (suc n) = days_of_years n + days_in_year (pos (1990 + n))

-- the days of the first n months of a year
unfoldable pub days_of_months : ℕ → ℕ → ℕ
days_of_months year zero = 0
days_of_months year (suc n) = days_of_months year n + days_in_month (pos year) (suc n)

-- the days since 1990-01-01
abbrev pub day_number : CivilTime → ℕ
day_number m = days_of_years (m.year - 1990) + days_of_months m.year (m.month - 1) + (m.day - 1)

-- Monday is 1 and Sunday 7, and 1990-01-01 was a Monday
abbrev pub weekday_of : CivilTime → ℕ
weekday_of m = 1 + day_number m % 7

-- the hundredths of a second since 1990-01-01T00:00:00.00
abbrev pub ticks_of : CivilTime → ℕ
ticks_of m = (((day_number m * 24 + m.hour) * 60 + m.minute) * 60 + m.second) * 100 + m.hundredth

-- the first part in which they differ decides
abbrev pub moment_order : CivilTime → CivilTime → Ordering
moment_order m n =
    ordering_then (nat_cmp m.year n.year)
    (ordering_then (nat_cmp m.month n.month)
    (ordering_then (nat_cmp m.day n.day)
    (ordering_then (nat_cmp m.hour n.hour)
    (ordering_then (nat_cmp m.minute n.minute)
    (ordering_then (nat_cmp m.second n.second)
    (nat_cmp m.hundredth n.hundredth))))))

-- the moment that a date and a time of the calendar show, cut to hundredths
abbrev pub moment_of : DateTime → CivilTime
moment_of civil =
    moment (unsigned_abs civil.date.year) civil.date.month civil.date.day civil.time.hour civil.time.minute
    civil.time.second (civil.time.subsec_nanosecond / 10_000_000)

-- ---- a moment's octets

-- its date: the year counted from 1900, and the true weekday (clause 20.2.12)
abbrev pub date_of : CivilTime → Date4
date_of m = record { year = m.year - 1900; month = m.month; day = m.day; weekday = weekday_of m }

-- its time (clause 20.2.13)
abbrev pub time_of : CivilTime → Time4
time_of m = record { hour = m.hour; minute = m.minute; second = m.second; hundredth = m.hundredth }
