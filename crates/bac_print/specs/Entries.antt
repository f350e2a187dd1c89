-- Texts of the records of a trend log (BACnetLogRecord, clause 21).
use Rattle.std.specs.Prelude.{ℕ, List, [], ◌∷◌, ◌++◌, codes, decimal, take, Option, None, Some}
use Rattle.std.specs.Int.{w32, to_be_bytes}
use Rattle.std.specs.Fmt.{signed_decimal}
use Rattle.bac_wire.specs.Number.{bits_of}
use Rattle.bac_wire.specs.Stamp.{date_octets, time_octets}
use Rattle.bac_log.specs.declared.entry.Datum.{Datum}
use Rattle.bac_log.specs.declared.entry.Datum.TheVariants.{LogStatus, Boolean, Real4, Enumerated, Unsigned, Signed}
use Rattle.bac_log.specs.declared.entry.Datum.TheVariants.{Bits, LongBits, Null, Failure, TimeChange, Any}
use Rattle.bac_log.specs.declared.entry.Entry.{Entry}
use Rattle.bac_print.specs.Numbers.{bit_digits, called, called_hex, called_two, counted}
use Rattle.bac_print.specs.Moments.{day_text, time_text}
use Rattle.bac_print.specs.Values.{boolean_text}

-- the first so many bits of octets, as digits
abbrev pub first_bits : ℕ → List ℕ → List ℕ
first_bits count octets = bit_digits (take count (bits_of octets))

-- what was logged, by its kind
unfoldable pub datum_text : Datum → List ℕ
datum_text (LogStatus bits) = called (codes "status") (first_bits 3 (bits ∷ []))
datum_text (Boolean flag) = boolean_text flag
datum_text (Real4 octets) = called_hex (codes "real") octets
datum_text (Enumerated n) = called (codes "enum") (decimal n)
datum_text (Unsigned n) = decimal n
datum_text (Signed z) = signed_decimal z
datum_text (Bits count bits) = called (codes "bits") (first_bits count (to_be_bytes w32 bits))
datum_text (LongBits count) = counted (codes "bits") count
datum_text Null = codes "null"
datum_text (Failure class code) = called_two (codes "failure") class code
datum_text (TimeChange octets) = called_hex (codes "time-change") octets
datum_text (Any octets) = counted (codes "any") octets

-- four digits, or - if a record has no status flags
unfoldable pub flags_text : Option ℕ → List ℕ
flags_text None = 45 ∷ []
flags_text (Some flags) = first_bits 4 (flags ∷ [])

-- STAMP DATUM FLAGS
unfoldable pub entry_text : Entry → List ℕ
entry_text entry =
    day_text (date_octets entry.date)
    ++ (84 ∷ (time_text (time_octets entry.time) ++ (32 ∷ (datum_text entry.datum ++ (32 ∷ flags_text entry.flags)))))

-- NUMBER and the record, a line
unfoldable pub record_line : ℕ → Entry → List ℕ
record_line number entry = decimal number ++ (32 ∷ (entry_text entry ++ 10 ∷ []))

-- gap FIRST LAST, both of them missing, a line
unfoldable pub gap_line : ℕ → ℕ → List ℕ
gap_line first last = codes "gap " ++ (decimal first ++ (32 ∷ (decimal last ++ 10 ∷ [])))
