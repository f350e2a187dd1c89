-- Moments of this machine's clock in UTC.
use Rattle.std.specs.Prelude.{◌≡◌, ◌⊎◌, ℕ, ℤ, pos, ◌+◌, ◌*◌}
use Rattle.jiff_core.specs.Calendar.{IsBetween}
use Rattle.jiff_core.specs.DateTime.{IsCivilNanos, civil_nanos}
use Rattle.jiff_core.specs.declared.civil.datetime.DateTime.{DateTime}
use Rattle.bac_wire.specs.Stamp.{CivilTime, moment_of, ticks_of}

-- Nanoseconds from 1970-01-01T00:00 to a moment so many milliseconds behind another: 7305 days to 1990, its hundredths
-- of a second, and those milliseconds.
abbrev pub nanos_after : CivilTime → (ms : ℕ) → ℤ
nanos_after begun ms = pos (631_152_000_000_000_000 + ticks_of begun * 10_000_000 + ms * 1_000_000)

-- a date and time of the calendar is that moment
abbrev pub IsShown : CivilTime → (ms : ℕ) → DateTime → Type 0
IsShown begun ms civil = civil_nanos civil ≡ nanos_after begun ms

-- a year that a Date can state (clause 20.2.12)
abbrev pub HasYear : DateTime → Type 0
HasYear civil = IsBetween (pos 1990) (pos 2154) civil.date.year

-- a stamp shows it, cut to hundredths of a second
abbrev pub IsMoment : CivilTime → (ms : ℕ) → CivilTime → Type 0
IsMoment begun ms moment = (civil : DateTime) × IsShown begun ms civil × HasYear civil × (moment ≡ moment_of civil)

-- none does: it is behind the last year
abbrev pub IsBeyond : CivilTime → (ms : ℕ) → Type 0
IsBeyond begun ms =
    (IsCivilNanos (nanos_after begun ms) → ⊥)
    ⊎ ((civil : DateTime) × IsShown begun ms civil × (HasYear civil → ⊥))

-- The moment so many milliseconds behind another; that one, if no stamp shows it.
abbrev pub IsAfter : CivilTime → (ms : ℕ) → CivilTime → Type 0
IsAfter begun ms moment = IsMoment begun ms moment ⊎ (IsBeyond begun ms × (moment ≡ begun))
