-- What the logs of a device are: name, source, units and description (clauses 12.25 and 12.1.5).
use Rattle.std.specs.Prelude.{ℕ, ◌==◌, not, Bool, true, false, if◌then◌else◌, List, [], ◌∷◌, Option, None, Some}
use Rattle.bac_wire.specs.Primitive.{Id}
use Rattle.bac_answers.specs.declared.entry.Entry.{Entry}
use Rattle.bac_answers.specs.declared.entry.Entry.TheVariants.{Read}
use Rattle.bac_answers.specs.declared.entry.Naming.{Naming}
use Rattle.bac_answers.specs.declared.entry.Reference.{Reference}
use Rattle.bac_answers.specs.declared.who.Who.{Who}
use Rattle.bac_answers.specs.declared.who.Who.TheVariants.{Address, Device, Name}

-- ---- whether the device was changed

-- another revision than that on record
abbrev pub is_other : (was : Option ℕ) → ℕ → Bool
is_other None now = true
is_other (Some was) now = not (was == now)

-- A device was changed that tells another revision; a refusal is no change.
abbrev pub is_changed : (was : Option ℕ) → (now : Option ℕ) → Bool
is_changed was None = false
is_changed was (Some now) = is_other was now

-- The revision that is put on record, once its list and its logs' names were read.
abbrev pub read_at : (was : Option ℕ) → (now : Option ℕ) → List Entry
read_at was None = []
read_at was (Some now) = if is_other was now then Read now ∷ [] else []

-- ---- a log

-- nothing was told
abbrev pub unnamed : Naming
unnamed = record { name = None; source = None; units = None; description = None }

-- ---- what it logs

-- whether that is of the device that is known so
abbrev pub is_of : Option Who → Id → Bool
is_of None device = false
is_of (Some (Device known)) device = known.instance == device.instance
is_of (Some (Name name)) device = false
is_of (Some Address) device = false

-- a reference that names no device is to the device itself (clause 21)
abbrev pub is_own : Option Who → Option Id → Bool
is_own who None = true
is_own who (Some device) = is_of who device

-- The object that tells units and description: the one that is logged, where it is of the same device; else the log.
abbrev pub subject : Option Who → Id → Option Reference → Id
subject who log None = log
subject who log (Some source) = if is_own who source.device then source.object else log
