-- What a run has at hand beside its files.
use Rattle.std.specs.Prelude.{◌≡◌, ℕ, List, Option}
use Rattle.bac_keeping.specs.Keeping.{Around, around}
use Rattle.bac_historian.specs.declared.room.Room.{Room}

-- what is there: a port, a clock, and what the output and the errors have
abbrev pub in_room : {P C W V : Type 0} → (W → Option (List ℕ)) → (V → Option (List ℕ)) → Room P C W V → Around P C
in_room output errors room =
    around room.port.now room.clock.now (output room.output.now) (errors room.errors.now)

-- each part of it is still the one that was lent
pub record IsSameRoom {P C W V : Type 0} (old new : Room P C W V) : Type 0 where
  pub port : new.port.ghost_name ≡ old.port.ghost_name
  pub clock : new.clock.ghost_name ≡ old.clock.ghost_name
  pub output : new.output.ghost_name ≡ old.output.ghost_name
  pub errors : new.errors.ghost_name ≡ old.errors.ghost_name
