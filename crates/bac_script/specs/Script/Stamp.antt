-- A moment in a script: YYYY-MM-DDTHH:MM:SS.hh
use Rattle.std.specs.Prelude.{ℕ, pos, ◌+◌, ◌-◌, ◌*◌, ◌==◌, ◌&&◌, nat_le, nat_lt, Bool, if◌then◌else◌, List, [], ◌∷◌}
use Rattle.std.specs.Prelude.{Option, None, Some}
use Rattle.std.specs.Char.{is_ascii_digit}
use Rattle.jiff_core.specs.Calendar.{days_in_month}
use Rattle.bac_wire.specs.OptionChain.{◌>>=◌}
use Rattle.bac_wire.specs.Stamp.{CivilTime, moment}

-- what a decimal digit says
abbrev pub digit_in : ℕ → Option ℕ
digit_in c = if is_ascii_digit c then Some (c - 48) else None

-- two digits
unfoldable pub pair_at : List ℕ → Option (ℕ × List ℕ)
pair_at (a ∷ b ∷ rest) = do
  tens ← digit_in a
  ones ← digit_in b
  Some (10 * tens + ones, rest)
pair_at short = None

-- four digits
unfoldable pub year_at : List ℕ → Option (ℕ × List ℕ)
year_at text = do
  century ← pair_at text
  year ← pair_at century.1
  Some (100 * century.0 + year.0, year.1)

-- this character and two digits
unfoldable pub part_at : ℕ → List ℕ → Option (ℕ × List ℕ)
part_at mark [] = None
part_at mark (c ∷ rest) = if c == mark then pair_at rest else None

-- the parts of a moment in their order, and the rest
unfoldable pub moment_at : List ℕ → Option (CivilTime × List ℕ)
moment_at text = do
  year ← year_at text
  month ← part_at 45 year.1
  day ← part_at 45 month.1
  hour ← part_at 84 day.1
  minute ← part_at 58 hour.1
  second ← part_at 58 minute.1
  hundredth ← part_at 46 second.1
  Some (moment year.0 month.0 day.0 hour.0 minute.0 second.0 hundredth.0, hundredth.1)

-- nothing is left
abbrev pub end_at : List ℕ → Option (Unit {0})
end_at [] = Some tt
end_at (b ∷ rest) = None

-- the calendar has this day
abbrev pub is_day : ℕ → ℕ → ℕ → Bool
is_day year month day =
    nat_le 1 month && (nat_le month 12 && (nat_le 1 day && nat_le day (days_in_month (pos year) month)))

-- a clock shows this time
abbrev pub is_time : ℕ → ℕ → ℕ → ℕ → Bool
is_time hour minute second hundredth =
    nat_lt hour 24 && (nat_lt minute 60 && (nat_lt second 60 && nat_lt hundredth 100))

-- a day of the years 1990 to 2154, and a time
unfoldable pub is_moment : CivilTime → Bool
is_moment m =
    nat_le 1990 m.year
    && (nat_le m.year 2154 && (is_day m.year m.month m.day && is_time m.hour m.minute m.second m.hundredth))

-- the parts of a moment, if they are one
abbrev pub checked : CivilTime → Option CivilTime
checked m = if is_moment m then Some m else None

-- a moment, and nothing after it
unfoldable pub stamp_in : List ℕ → Option CivilTime
stamp_in word = do
  read ← moment_at word
  end ← end_at read.1
  checked read.0
