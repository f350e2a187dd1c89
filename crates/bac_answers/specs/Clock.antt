-- The clock of a device (clause 12.11), beside this machine's.
use Rattle.std.specs.Prelude.{◌≡◌, ℕ, ◌+◌, ◌/◌, Option, None, Some}
use Rattle.bac_wire.specs.Stamp.{CivilTime, IsCivilTime, moment, ticks_of}
use Rattle.bac_wire.specs.declared.stamp.Date4.{Date4}
use Rattle.bac_wire.specs.declared.stamp.Time4.{Time4}
use Rattle.bac_answers.specs.declared.entry.Offset.{Offset}
use Rattle.bac_answers.specs.declared.entry.Offset.TheVariants.{Ahead, Behind}

-- the moment that a date and time show
abbrev pub shown : Date4 → Time4 → CivilTime
shown date time =
    moment (1900 + date.year) date.month date.day time.hour time.minute time.second time.hundredth

-- whole seconds since 1990
abbrev pub seconds_of : CivilTime → ℕ
seconds_of m = ticks_of m / 100

-- a device that shows one moment is so many seconds ahead of this machine's clock, or behind it
abbrev pub AreApart : (device : CivilTime) → (machine : CivilTime) → Offset → Type 0
AreApart device machine (Ahead seconds) = seconds_of machine + seconds ≡ seconds_of device
AreApart device machine (Behind seconds) = seconds_of device + seconds ≡ seconds_of machine

-- A device's clock beside this machine's; none, if what it shows is no moment.
abbrev pub IsOffset : Date4 → Option Time4 → (now : CivilTime) → Option Offset → Type 0
IsOffset date None now offset = offset ≡ None
IsOffset date (Some time) now (Some offset) = IsCivilTime (shown date time) × AreApart (shown date time) now offset
IsOffset date (Some time) now None = IsCivilTime (shown date time) → ⊥
