-- The numbers that values are, and the texts of numbers.
use Rattle.std.specs.Prelude.{◌≡◌, from_bits, ℕ, pos, Bool, true, false, if◌then◌else◌, List, ◌++◌, Option, None, Some}
use Rattle.std.specs.Prelude.{Result, Ok, Err}
use Rattle.std.specs.Int.{w32, w64, from_be_bytes}
use Rattle.std.specs.Float.{float_is_finite}
use Rattle.std.specs.Float.Ieee as Ieee
use Rattle.std.specs.Float.Ieee.{Float, Format, binary32, binary64}
use Rattle.ryu.specs.Parse.{parse_float}
use Rattle.ryu.specs.Plain.{IsPlainNumber}
use Rattle.bac_log.specs.declared.entry.Datum.{Datum}
use Rattle.bac_log.specs.declared.entry.Datum.TheVariants.{Boolean, Real4, Enumerated, Unsigned, Signed}

-- the number that a datum is, the nearest of those that a double has
abbrev pub value_of : Datum → Option Float
value_of (Boolean flag) = Some (Ieee.of_int binary64 (pos (if flag then 1 else 0)))
value_of (Real4 octets) = Some (from_bits binary32 (from_be_bytes w32 octets))
value_of (Enumerated n) = Some (Ieee.of_int binary64 (pos n))
value_of (Unsigned n) = Some (Ieee.of_int binary64 (pos n))
value_of (Signed z) = Some (Ieee.of_int binary64 z)
value_of _ = None

-- the number that a REAL is, by its octets (clause 20.2.6)
abbrev pub real_of : List ℕ → Float
real_of octets = from_bits binary32 (from_be_bytes w32 octets)

-- the number that a Double is (clause 20.2.7)
abbrev pub double_of : List ℕ → Float
double_of octets = from_bits binary64 (from_be_bytes w64 octets)

-- a decimal number that reads back as this one
abbrev pub IsDecimalOf : Format → Float → List ℕ → Type 0
IsDecimalOf format value text = (parse_float format text ≡ Some value) × IsPlainNumber text

-- such a text was appended of a finite number, and of any other nothing
abbrev pub AppendsNumber : {E : Type 0} → Format → Float → List ℕ → Result Bool E → List ℕ → Type 0
AppendsNumber format value old (Ok true) new =
    (float_is_finite value ≡ true) × ((text : List ℕ) × IsDecimalOf format value text × (new ≡ old ++ text))
AppendsNumber format value old (Ok false) new = (float_is_finite value ≡ false) × (new ≡ old)
AppendsNumber format value old (Err error) new = Unit {0}
