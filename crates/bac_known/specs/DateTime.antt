-- Dates and times as values (BACnetDateTime, clause 21). An octet of 255 says that its part is unspecified; the weekday
-- is no such part: a row has none.
use Rattle.std.specs.Prelude.{ℕ, pos, ◌+◌, ◌*◌, ◌+ℤ◌, unsigned_abs, ◌&&◌, nat_le, nat_lt, Bool}
use Rattle.std.specs.Ordering.{is_eq}
use Rattle.jiff_core.specs.Calendar.{days_from_civil, days_in_month}
use Rattle.bac_wire.specs.Stamp.{order_of}
use Rattle.bac_wire.specs.declared.stamp.Date4.{Date4}
use Rattle.bac_wire.specs.declared.stamp.Time4.{Time4}
use Rattle.bac_log.specs.declared.entry.Entry.{Entry}
use Rattle.bac_known.specs.declared.date_time.DateTime.{DateTime}

-- of a record
abbrev pub dated : Entry → DateTime
dated entry = record { date = entry.date; time = entry.time }

-- no part is known
abbrev pub undated : DateTime
undated = record {
  date = record { year = 255; month = 255; day = 255; weekday = 255 };
  time = record { hour = 255; minute = 255; second = 255; hundredth = 255 };
}

-- part for part the same
abbrev pub is_same_time : DateTime → DateTime → Bool
is_same_time at other = is_eq (order_of at.date at.time other.date other.time)

-- the calendar has this date; years count from 1900
abbrev pub is_date : Date4 → Bool
is_date d =
    nat_lt d.year 255 && (nat_le 1 d.month && (nat_le d.month 12
    && (nat_le 1 d.day && nat_le d.day (days_in_month (pos (1900 + d.year)) d.month))))

-- a clock shows this time
abbrev pub is_time : Time4 → Bool
is_time t = nat_lt t.hour 24 && (nat_lt t.minute 60 && (nat_lt t.second 60 && nat_lt t.hundredth 100))

-- a moment: each part is known
abbrev pub is_moment : DateTime → Bool
is_moment at = is_date at.date && is_time at.time

-- the days since 1900-01-01, by the day number of the calendar, which is 0 on 1970-01-01
abbrev pub day_of : Date4 → ℕ
day_of d = unsigned_abs (days_from_civil (pos (1900 + d.year)) d.month d.day +ℤ pos 25567)

-- the hundredths of a second since then
abbrev pub ticks_of : DateTime → ℕ
ticks_of at =
    (((day_of at.date * 24 + at.time.hour) * 60 + at.time.minute) * 60 + at.time.second) * 100 + at.time.hundredth

-- whether a moment lies before another
abbrev pub is_before : DateTime → DateTime → Bool
is_before at other = is_moment at && (is_moment other && nat_lt (ticks_of at) (ticks_of other))
