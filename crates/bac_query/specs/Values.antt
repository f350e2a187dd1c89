-- What is printed of the values of a property (clause 15.5, property value).
use Rattle.std.specs.Prelude.{◌≡◌, ℕ, Bool, true, false, ◌⊎◌, List, [], ◌∷◌, ◌++◌, codes, Result, Ok, Err}
use Rattle.hex.specs.Hex.{encode_lower}
use Rattle.std.specs.Float.{float_is_finite}
use Rattle.std.specs.Float.Ieee.{Float, Format, binary32, binary64}
use Rattle.bac_wire.specs.Primitive.{Primitive, Real, Double}
use Rattle.bac_wire.specs.Spelling.{Spells}
use Rattle.bac_print.specs.Values.{value_text}
use Rattle.bac_query.specs.declared.reals.Reals.{Reals}
use Rattle.bac_query.specs.declared.reals.Reals.TheVariants.{Octets, Numbers}
use Rattle.bac_values.specs.Numbers.{IsDecimalOf, double_of, real_of}

-- the octets are the encodings of these values after their application tags, one after the other
abbrev pub AreValues : List ℕ → List Primitive → Type 0
AreValues octets [] = octets ≡ []
AreValues octets (value ∷ values) =
    (text : List ℕ) × (rest : List ℕ) × Spells text value × (octets ≡ text ++ rest) × AreValues rest values

-- a finite number is shown by a decimal number that reads back as it, and what is none as it is elsewhere
abbrev pub IsNumberOr : Format → Float → List ℕ → List ℕ → Type 0
IsNumberOr format number other text =
    (float_is_finite number ≡ true → IsDecimalOf format number text)
    × (float_is_finite number ≡ false → text ≡ other)

-- the text of a value where a REAL and a Double are shown as numbers
abbrev pub IsNumberText : Primitive → List ℕ → Type 0
IsNumberText (Real octets) text = IsNumberOr binary32 (real_of octets) (value_text (Real octets)) text
IsNumberText (Double octets) text = IsNumberOr binary64 (double_of octets) (value_text (Double octets)) text
IsNumberText value text = text ≡ value_text value

-- the text of a value
abbrev pub IsText : Reals → Primitive → List ℕ → Type 0
IsText Octets value text = text ≡ value_text value
IsText Numbers value text = IsNumberText value text

-- a line for each
abbrev pub value_lines : List Primitive → List ℕ
value_lines [] = []
value_lines (value ∷ values) = (value_text value ++ 10 ∷ []) ++ value_lines values

-- a line for each where a REAL and a Double are shown as numbers
abbrev pub AreNumberLines : List Primitive → List ℕ → Type 0
AreNumberLines [] lines = lines ≡ []
AreNumberLines (value ∷ values) lines =
    (text : List ℕ) × (rest : List ℕ) × (lines ≡ (text ++ 10 ∷ []) ++ rest)
    × IsNumberText value text × AreNumberLines values rest

-- the lines of values
abbrev pub AreLines : Reals → List Primitive → List ℕ → Type 0
AreLines Octets values lines = lines ≡ value_lines values
AreLines Numbers values lines = AreNumberLines values lines

-- the octets as they are, a line
abbrev pub raw_line : List ℕ → List ℕ
raw_line octets = codes "raw(" ++ (encode_lower octets ++ (41 ∷ 10 ∷ []))

-- the lines of the values, or the octets as they are if they aren't values alone
abbrev pub IsShown : Reals → List ℕ → List ℕ → Type 0
IsShown reals octets text =
    ((values : List Primitive) × AreValues octets values × AreLines reals values text)
    ⊎ (((values : List Primitive) → AreValues octets values → ⊥) × (text ≡ raw_line octets))

-- lines that were appended, of all the values or of some at the front; nothing is known if memory ran out
abbrev pub ShowsLines : {E : Type 0} → Reals → List ℕ → List ℕ → List ℕ → Result Bool E → Type 0
ShowsLines reals octets old new (Ok true) =
    (values : List Primitive) × AreValues octets values
    × ((lines : List ℕ) × AreLines reals values lines × (new ≡ old ++ lines))
ShowsLines reals octets old new (Ok false) =
    ((values : List Primitive) → AreValues octets values → ⊥) × ((lines : List ℕ) × (new ≡ old ++ lines))
ShowsLines reals octets old new (Err error) = Unit {0}
