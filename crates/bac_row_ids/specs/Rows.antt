-- What the row of a record has.
use Rattle.std.specs.Prelude.{from_bits, ℕ, ◌+◌, ◌*◌, pos, if◌then◌else◌, List, ◌∷◌, ◌++◌, Option, None, Some}
use Rattle.std.specs.Int.{w32, from_be_bytes}
use Rattle.std.specs.Float.Ieee as Ieee
use Rattle.std.specs.Float.Ieee.{Float, binary32, binary64}
use Rattle.bac_wire.specs.Stamp.{date_octets, time_octets}
use Rattle.bac_log.specs.declared.entry.Entry.{Entry}
use Rattle.bac_log.specs.declared.entry.Datum.{Datum}
use Rattle.bac_log.specs.declared.entry.Datum.TheVariants.{Boolean, Real4, Enumerated, Unsigned, Signed}
use Rattle.bac_print.specs.Moments.{day_text, time_text}
use Rattle.bac_row_ids.specs.declared.place.Place.{Place}

-- A log has 32768 eras, one for each epoch: this is that of a log and epoch. In an era each number comes once at most.
abbrev pub era : Place → ℕ
era place = place.log * 32768 + place.epoch

-- the id of the row of a number: the log, the epoch, the number
abbrev pub key : ℕ → ℕ → ℕ
key era number = era * 4294967296 + number

-- the number that a datum is, the nearest of those that a double has
abbrev pub value_of : Datum → Option Float
value_of (Boolean flag) = Some (Ieee.of_int binary64 (pos (if flag then 1 else 0)))
value_of (Real4 octets) = Some (from_bits binary32 (from_be_bytes w32 octets))
value_of (Enumerated n) = Some (Ieee.of_int binary64 (pos n))
value_of (Unsigned n) = Some (Ieee.of_int binary64 (pos n))
value_of (Signed z) = Some (Ieee.of_int binary64 z)
value_of _ = None

-- the date and time of a record, as `log` prints them
abbrev pub stamp_text : Entry → List ℕ
stamp_text entry = day_text (date_octets entry.date) ++ (84 ∷ time_text (time_octets entry.time))
