-- Texts of dates and times (clauses 20.2.12 and 20.2.13), of their octets. An unspecified part is a star.
use Rattle.std.specs.Prelude.{ℕ, ◌+◌, ◌==◌, if◌then◌else◌, List, [], ◌∷◌, ◌++◌, decimal}
use Rattle.bac_print.specs.Numbers.{two_digits}

-- 255 says that a part is unspecified; years count from 1900
abbrev pub year_text : ℕ → List ℕ
year_text year = if year == 255 then 42 ∷ [] else decimal (1900 + year)

-- month, day, hour, minute, second or hundredths, in two digits
abbrev pub part_text : ℕ → List ℕ
part_text part = if part == 255 then 42 ∷ [] else two_digits part

-- the weekday, 1 for Monday to 7 for Sunday
abbrev pub weekday_text : ℕ → List ℕ
weekday_text weekday = if weekday == 255 then 42 ∷ [] else decimal weekday

-- YYYY-MM-DD
unfoldable pub day_text : List ℕ → List ℕ
day_text (year ∷ month ∷ day ∷ weekday ∷ []) = year_text year ++ (45 ∷ (part_text month ++ (45 ∷ part_text day)))
day_text other = []

-- YYYY-MM-DD,W
unfoldable pub date_text : List ℕ → List ℕ
date_text (year ∷ month ∷ day ∷ weekday ∷ []) =
    day_text (year ∷ month ∷ day ∷ weekday ∷ []) ++ (44 ∷ weekday_text weekday)
date_text other = []

-- HH:MM:SS.hh
unfoldable pub time_text : List ℕ → List ℕ
time_text (hour ∷ minute ∷ second ∷ hundredth ∷ []) =
    part_text hour ++ (58 ∷ (part_text minute ++ (58 ∷ (part_text second ++ (46 ∷ part_text hundredth)))))
time_text other = []
