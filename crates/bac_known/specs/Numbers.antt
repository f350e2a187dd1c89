-- Numbers of records, and of those that come together.
use Rattle.std.specs.Prelude.{ℕ, ◌-◌, ◌==◌, nat_lt, if◌then◌else◌, List, length, Option, None, Some, slice_get}
use Rattle.bac_walk.specs.declared.batch.Numbered.{Numbered}

-- the number before this one: the last that there is before 1
abbrev pub number_before : ℕ → ℕ
number_before number = if number == 1 then 4294967295 else number - 1

-- the first of these records, if there is one
abbrev pub first_in : List Numbered → Option Numbered
first_in records = slice_get records 0

-- the last of them
abbrev pub last_in : List Numbered → Option Numbered
last_in records = slice_get records (length records - 1)

-- the number of a record, or that one if there is none
abbrev pub number_or : ℕ → Option Numbered → ℕ
number_or number None = number
number_or number (Some held) = held.number

-- the number of the first of them; 0, which is none, if there is none
abbrev pub first_number : List Numbered → ℕ
first_number records = number_or 0 (first_in records)

-- the record so many before the last of these, if there is one
abbrev pub before_last : List Numbered → ℕ → Option Numbered
before_last records back =
    if nat_lt back (length records) then slice_get records (length records - 1 - back) else None
