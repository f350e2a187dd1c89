-- Whether an hour is the one before another. Moments are texts as `2026-11-30T07:16:23.00`.
use Rattle.std.specs.Prelude.{ℕ, pos, ◌+◌, ◌-◌, ◌*◌, ◌==◌, ◌&&◌, nat_lt, Bool, false, if◌then◌else◌, List}
use Rattle.std.specs.Prelude.{Option, None, Some, slice_index}
use Rattle.std.specs.Char.{is_ascii_digit}
use Rattle.jiff_core.specs.Calendar.{days_in_month}
use Rattle.bac_wire.specs.OptionChain.{◌>>=◌}
use Rattle.bac_kept.specs.declared.hours.Hour.{Hour}

-- the number that two digits say, if they stand at this place of a text
abbrev pub pair_at : List ℕ → (place : ℕ) → Option ℕ
pair_at text place =
    let tens = slice_index text place in
    let ones = slice_index text (place + 1) in
    if is_ascii_digit tens && is_ascii_digit ones then Some (10 * (tens - 48) + (ones - 48)) else None

-- The hour in which a moment lies, by the digits of its text: YYYY-MM-DDTHH. None, where one of them is no digit.
unfoldable pub hour_of : List ℕ → Option Hour
hour_of text = do
  century ← pair_at text 0
  year ← pair_at text 2
  month ← pair_at text 5
  day ← pair_at text 8
  hour ← pair_at text 11
  Some (record { year = 100 * century + year; month = month; day = day; hour = hour })

-- an hour is one of this day
abbrev pub is_of_day : Hour → (year month day : ℕ) → Bool
is_of_day h year month day = h.year == year && (h.month == month && h.day == day)

-- an hour is one of the day after another's: the next of its month, or the first of the next month, or year
abbrev pub is_of_day_after : Hour → Hour → Bool
is_of_day_after next h =
    if nat_lt h.day (days_in_month (pos h.year) h.month) then is_of_day next h.year h.month (h.day + 1)
    else (if nat_lt h.month 12 then is_of_day next h.year (h.month + 1) 1 else is_of_day next (h.year + 1) 1 1)

-- an hour comes right after another: behind hour 23 hour 0 of the day after, and else the next one of the day
abbrev pub is_right_after : Hour → Hour → Bool
is_right_after next h =
    if h.hour == 23 then is_of_day_after next h && (next.hour == 0)
    else is_of_day next h.year h.month h.day && (next.hour == h.hour + 1)

-- the same of hours that may not be told
abbrev pub is_told_after : Option Hour → Option Hour → Bool
is_told_after (Some next) (Some h) = is_right_after next h
is_told_after next h = false

-- a moment's hour is the one before another's
abbrev pub is_next_hour : List ℕ → List ℕ → Bool
is_next_hour moment other = is_told_after (hour_of other) (hour_of moment)
