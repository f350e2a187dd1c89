-- Reading parameters from left to right: the first check that fails is the
-- reason, and at which parameter reading stops.
use Rattle.std.specs.Prelude.{◌≡◌, ◌⊎◌, ℕ, zero, suc, ◌+◌, ◌-◌, ◌≤◌, Bool, true, false, List, [], ◌∷◌, ◌++◌, length}
use Rattle.std.specs.Prelude.{take, Result, Ok, Err, if◌then◌else◌}
use Rattle.bac_wire.specs.Primitive.{Primitive}
use Rattle.bac_wire.specs.Level.{close_at}
use Rattle.bac_wire.specs.Chain.{◌>>=◌}
use Rattle.bac_wire.specs.Reading.{context_at, mark_at, contents_as, value_at}
use Rattle.bac_apdu.specs.declared.reason.Reason.{Reason}
use Rattle.bac_apdu.specs.declared.reason.Reason.TheVariants.{InvalidTag, OutOfRange, TooManyArguments}
use Rattle.bac_apdu.specs.Reason.{reasoned}
pub use Rattle.bac_wire.specs.Next.{other_next}
use Rattle.bac_apdu.specs.Form.{Absent, Form, Inside, Parameter, Mark, Row, SpellsRow, Value, any, application, choice}
use Rattle.bac_apdu.specs.Form.{closing, context, enclosed, end, nothing_or, opening, opening_next, optional, row}
use Rattle.bac_apdu.specs.Form.{value_next}

-- ---- reading, and the reason of the first wrong parameter

-- a value as a parameter, beside what follows it, if it is in range; else parameter-out-of-range (clause 18.9)
abbrev pub ranged : {A : Type 0} → (Primitive → Bool) → Primitive → A → Result (Parameter × A) Reason
ranged fits value rest = if fits value then Ok (Value value, rest) else Err OutOfRange

-- If one application type is wanted, another type is a fault of the tag, whatever its length and contents.
abbrev pub typed_at : ℕ → List ℕ → Result (Primitive × List ℕ) Reason
typed_at type bytes = if other_next type bytes then Err InvalidTag else reasoned (value_at bytes)

-- one parameter, and what follows it
unfoldable pub row_at : Row → List ℕ → Result (Parameter × List ℕ) Reason
row_at (context tag type fits) bytes = do
  contents ← reasoned (context_at tag bytes)
  value ← reasoned (contents_as type contents.0)
  ranged fits value contents.1
row_at (application type fits) bytes = do
  value ← typed_at type bytes
  ranged fits value.0 value.1
row_at (opening tag) bytes = do
  mark ← reasoned (mark_at 6 tag bytes)
  Ok (Mark tag, mark.1)
row_at (closing tag) bytes = do
  mark ← reasoned (mark_at 7 tag bytes)
  Ok (Mark tag, mark.1)
row_at (enclosed tag) bytes = do
  close ← reasoned (close_at (length bytes + 1) 0 tag bytes)
  mark ← reasoned (mark_at 7 tag close)
  Ok (Inside (take (length bytes - length close) bytes), mark.1)
row_at any bytes = do
  value ← reasoned (value_at bytes)
  Ok (Value value.0, value.1)

-- the end of the parameters: octets that are left are too many arguments (clause 18.9)
abbrev pub end_at : List ℕ → Result (List Parameter) Reason
end_at [] = Ok []
end_at (b ∷ rest) = Err TooManyArguments

-- an optional parameter, which is there if the next tag is that of a value with its number
unfoldable pub optional_at : ℕ → ℕ → (Primitive → Bool) → List ℕ → Result (Parameter × List ℕ) Reason
optional_at tag type fits bytes =
    if value_next tag bytes then row_at (context tag type fits) bytes else Ok (Absent, bytes)

-- the parameters of a form in order, and nothing after them
unfoldable pub form_at : Form → List ℕ → Result (List Parameter) Reason
form_at end bytes = end_at bytes
form_at (row p form) bytes = do
  parameter ← row_at p bytes
  parameters ← form_at form parameter.1
  Ok (parameter.0 ∷ parameters)
form_at (optional tag type fits form) bytes = do
  parameter ← optional_at tag type fits bytes
  parameters ← form_at form parameter.1
  Ok (parameter.0 ∷ parameters)
form_at (choice tag there otherwise) bytes =
    if opening_next tag bytes then form_at there bytes else form_at otherwise bytes
form_at (nothing_or form) [] = Ok []
form_at (nothing_or form) (octet ∷ bytes) = form_at form (octet ∷ bytes)

-- a value after a context tag has the tag number of a primitive type, 0 to 12 (clause 20.2.1.4)
abbrev pub IsRow : Row → Type 0
IsRow (context tag type fits) = type ≤ 12
IsRow p = Unit {0}

-- the same of each row of a form and of each optional parameter
abbrev pub IsForm : Form → Type 0
IsForm end = Unit {0}
IsForm (row p form) = IsRow p × IsForm form
IsForm (optional tag type fits form) = (type ≤ 12) × IsForm form
IsForm (choice tag there otherwise) = IsForm there × IsForm otherwise
IsForm (nothing_or form) = IsForm form

-- ---- at which parameter reading stops

-- No prefix of the text encodes the parameter; the reason is that of its first check that fails.
abbrev pub IsFault : Row → List ℕ → Reason → Type 0
IsFault p text reason =
    ((front rest : List ℕ) (parameter : Parameter) → text ≡ front ++ rest → SpellsRow p front parameter → ⊥)
    × (row_at p text ≡ Err reason)

-- the parameter is wrong, or it is encoded and reading stops after it
abbrev pub StopsRow : Row → (List ℕ → ℕ → Reason → Type 0) → List ℕ → ℕ → Reason → Type 0
StopsRow p after text zero reason = IsFault p text reason
StopsRow p after text (suc count) reason =
    (front : List ℕ) × (rest : List ℕ) × (parameter : Parameter) × (text ≡ front ++ rest) × SpellsRow p front parameter
    × after rest count reason

-- After the longest run of leading parameters that are encoded and in range, count of
-- them, the next one is wrong for this reason, or none is wanted and octets are left.
abbrev pub Stops : Form → List ℕ → ℕ → Reason → Type 0
Stops end [] count reason = ⊥
Stops end (octet ∷ text) count reason = (count ≡ 0) × (reason ≡ TooManyArguments)
Stops (row p form) text count reason = StopsRow p (Stops form) text count reason
Stops (optional tag type fits form) text count reason =
    ((value_next tag text ≡ true) × StopsRow (context tag type fits) (Stops form) text count reason)
    ⊎ ((value_next tag text ≡ false) × Stops form text count reason)
Stops (choice tag there otherwise) text count reason =
    ((opening_next tag text ≡ true) × Stops there text count reason)
    ⊎ ((opening_next tag text ≡ false) × Stops otherwise text count reason)
Stops (nothing_or form) [] count reason = ⊥
Stops (nothing_or form) (octet ∷ text) count reason = Stops form (octet ∷ text) count reason
