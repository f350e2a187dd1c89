-- How dates and times are written: in rows, and in a device's word.
use Rattle.std.specs.Prelude.{◌≡◌, ℕ, ◌<◌, ◌==◌, ◌&&◌, ◌⊎◌, Bool, if◌then◌else◌}
use Rattle.std.specs.Prelude.{List, ◌∷◌, ◌++◌, length, Option, None, Some}
use Rattle.std.specs.Borrow.{Bor}
use Rattle.std.specs.List.{slice_index}
use Rattle.bac_wire.specs.Stamp.{date_octets, time_octets}
use Rattle.bac_wire.specs.declared.stamp.Date4.{Date4}
use Rattle.bac_wire.specs.declared.stamp.Time4.{Time4}
use Rattle.bac_print.specs.Moments.{day_text, time_text}
use Rattle.bac_known.specs.DateTime.{undated}
use Rattle.bac_known.specs.declared.date_time.DateTime.{DateTime}

-- ---- texts of rows

-- `YYYY-MM-DDTHH:MM:SS.hh`
abbrev pub stamp_text : Date4 → Time4 → List ℕ
stamp_text date time = day_text (date_octets date) ++ (84 ∷ time_text (time_octets time))

-- a date of octets
abbrev pub IsDate4 : Date4 → Type 0
IsDate4 d = (d.year < 256) × (d.month < 256) × (d.day < 256)

-- a time of octets
abbrev pub IsTime4 : Time4 → Type 0
IsTime4 t = (t.hour < 256) × (t.minute < 256) × (t.second < 256) × (t.hundredth < 256)

-- a date is read from its text, without its weekday
abbrev pub IsDateBack : List ℕ → Option Date4 → Type 0
IsDateBack text read =
    (d : Date4) → IsDate4 d → text ≡ day_text (date_octets d) → read ≡ Some (record d { weekday = 255 })

-- a time is
abbrev pub IsTimeBack : List ℕ → Option Time4 → Type 0
IsTimeBack text read = (t : Time4) → IsTime4 t → text ≡ time_text (time_octets t) → read ≡ Some t

-- a date and time is
abbrev pub IsReadBack : List ℕ → Option DateTime → Type 0
IsReadBack text read =
    (d : Date4) → (t : Time4) → IsDate4 d → IsTime4 t → text ≡ stamp_text d t →
    read ≡ Some (record { date = record d { weekday = 255 }; time = t })

-- what lies between two parts: a dash, a T, a colon or a point
abbrev pub IsSeparator : ℕ → Type 0
IsSeparator c = (c ≡ 45) ⊎ ((c ≡ 84) ⊎ ((c ≡ 58) ⊎ (c ≡ 46)))

-- a part is read, and what lies behind its separator is left
abbrev pub IsPartRead : Option (ℕ × Bor (List ℕ)) → (part : ℕ) → (rest : List ℕ) → Type 0
IsPartRead None part rest = ⊥
IsPartRead (Some read) part rest = (read.0 ≡ part) × (read.1.now ≡ rest)

-- ---- time stamps

-- a time stamp of the choice dateTime (BACnetTimeStamp, clause 21): an opening tag 2, a Date, a Time, a closing tag 2
abbrev pub is_date_time : List ℕ → Bool
is_date_time v =
    (length v == 12) && (slice_index v 0 == 46) && (slice_index v 1 == 164) && (slice_index v 6 == 180)
    && (slice_index v 11 == 47)

-- its date and time
abbrev pub date_time_in : List ℕ → DateTime
date_time_in v = record {
  date = record {
    year = slice_index v 2;
    month = slice_index v 3;
    day = slice_index v 4;
    weekday = slice_index v 5;
  };
  time = record {
    hour = slice_index v 7;
    minute = slice_index v 8;
    second = slice_index v 9;
    hundredth = slice_index v 10;
  };
}

-- those of a time stamp: undated, if it is of another choice
abbrev pub stamped : List ℕ → DateTime
stamped v = if is_date_time v then date_time_in v else undated
