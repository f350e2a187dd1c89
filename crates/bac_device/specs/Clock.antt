-- What the passing of time does to a device.
use Rattle.std.specs.Prelude.{◌≡◌, ℕ, nat_lt, if◌then◌else◌, Option, None, Some, Result, Ok, Err}
use Rattle.bac_wire.specs.Stamp.{CivilTime, ticks_of}
use Rattle.bac_objects.specs.Sampling.{samples, ticked}
use Rattle.bac_objects.specs.State.{State}

-- how many samples its logs take, and the device after it; None if the clock would go back
unfoldable pub advanced : State → CivilTime → Option (ℕ × State)
advanced state stamp =
    if nat_lt (ticks_of stamp) (ticks_of state.clock) then None else Some (samples state stamp, ticked state stamp)

-- what advancing answers
abbrev pub Advances : {E : Type 0} → Result ℕ E → State → State → Option (ℕ × State) → Type 0
Advances (Ok count) old new said = said ≡ Some (count, new)
Advances (Err back) old new said = (said ≡ None) × (new ≡ old)
