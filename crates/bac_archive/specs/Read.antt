-- Rows that are read, and why one isn't.
use Rattle.std.specs.Prelude.{◌≡◌, ◌⊎◌, ℕ, ℤ, pos, ◌<◌, IsUtf8, List, [], ◌∷◌, length, slice_get, Some}
use Rattle.std.specs.List.{Contains}
use Rattle.std.specs.Float.Ieee.{Float}
use Rattle.sqlite_value.specs.declared.value.Value.{Value}
use Rattle.sqlite_value.specs.declared.value.Value.TheVariants.{Null, Int, Real, Text}
use Rattle.sqlite_value.specs.Order.{Row as Values, column}
use Rattle.sqlite.specs.declared.error.Error.{Error}
use Rattle.sqlite.specs.declared.error.Error.TheVariants.{SqliteFailure}
use Rattle.sqlite.specs.declared.error.ErrorCode.TheVariants.{OutOfMemory}
use Rattle.sqlite.specs.Reading.{IsReadError}

-- how many numbers an epoch has
abbrev pub numbers : ℕ
numbers = 4294967296

-- what the column of an answer is to hold
pub data Kind : Type 0 where
  -- a whole number
  whole : Kind
  -- a whole number from 0 on, below this one
  below : ℕ → Kind
  real : Kind
  -- a text of characters, or of whatever octets
  characters : Kind
  octets : Kind
  -- that or NULL
  or_none : Kind → Kind

-- a value is of a kind
abbrev pub IsOf : Kind → Value → Type 0
IsOf whole value = (n : ℤ) × (value ≡ Int n)
IsOf (below most) value = (n : ℕ) × (value ≡ Int (pos n)) × (n < most)
IsOf real value = (x : Float) × (value ≡ Real x)
IsOf characters value = (text : List ℕ) × (value ≡ Text text) × IsUtf8 text
IsOf octets value = (text : List ℕ) × (value ≡ Text text)
IsOf (or_none kind) value = (value ≡ Null) ⊎ IsOf kind value

-- the columns of a device, in their order
abbrev pub device_kinds : List Kind
device_kinds = below 65536 ∷ characters ∷ below 65536 ∷ characters ∷ or_none (below numbers) ∷ or_none characters
    ∷ or_none (below numbers) ∷ below 2 ∷ below 2 ∷ or_none characters ∷ or_none whole ∷ []

-- those of a log
abbrev pub log_kinds : List Kind
log_kinds = below 65536 ∷ below 65536 ∷ below numbers ∷ or_none characters ∷ or_none characters ∷ or_none characters
    ∷ or_none characters ∷ or_none characters ∷ or_none (below numbers) ∷ below 2 ∷ []

-- those of a beginning
abbrev pub beginning_kinds : List Kind
beginning_kinds = below numbers ∷ below numbers ∷ or_none characters ∷ []

-- those of an item
abbrev pub item_kinds : List Kind
item_kinds = below 9223372036854775808 ∷ or_none (below numbers) ∷ or_none octets ∷ or_none real ∷ or_none octets
    ∷ or_none octets ∷ []

-- those of the archive: its version, and when it was made
abbrev pub archive_kinds : List Kind
archive_kinds = below numbers ∷ characters ∷ []

-- A column isn't read: it isn't there or not of this kind, and the error names it.
abbrev pub IsUnread : Kind → ℕ → Values → Error → Type 0
IsUnread kind at row e = (at < length row → IsOf kind (column row at) → ⊥) × IsReadError at (column row at) e

-- a row isn't read: there is no memory for it, or one of its columns isn't read
abbrev pub FailsToRead : List Kind → Values → Error → Type 0
FailsToRead kinds row e =
    (e ≡ SqliteFailure OutOfMemory)
    ⊎ ((at : ℕ) × (kind : Kind) × (slice_get kinds at ≡ Some kind) × IsUnread kind at row e)

-- one of these rows isn't read
abbrev pub FailsToReadOne : List Kind → List Values → Error → Type 0
FailsToReadOne kinds rows e = (row : Values) × Contains rows row × FailsToRead kinds row e
