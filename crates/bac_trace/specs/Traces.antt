-- What a port that tells its datagrams tells.
use Rattle.std.specs.Prelude.{◌≡◌, ℕ, Bool, true, false, List}
use Rattle.std.specs.Io.KnownBytes.{Appends}
use Rattle.bac_print.specs.Output.{AppendsPart, Held}

-- whether a port tells, and what its writer holds
pub record Told : Type 0 where
  pub is_on : Bool
  pub held : Held

-- the two together
abbrev pub told : Bool → Held → Told
told is_on held = record { is_on = is_on; held = held }

-- The line was written; or a front part of it, since the writer refused it or there was no memory for it, and then
-- nothing more is told.
abbrev pub TellsOr : Bool → List ℕ → Held → Held → Type 0
TellsOr true line old new = Appends old new line
TellsOr false line old new = AppendsPart old new line

-- a port that is off tells nothing, and stays so
abbrev pub TellsFrom : Bool → List ℕ → Held → Told → Type 0
TellsFrom false line old new = (new.is_on ≡ false) × (new.held ≡ old)
TellsFrom true line old new = TellsOr new.is_on line old new.held

-- a line is told
abbrev pub Tells : List ℕ → Told → Told → Type 0
Tells line old new = TellsFrom old.is_on line old.held new
