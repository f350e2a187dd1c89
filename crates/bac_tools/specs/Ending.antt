-- How a tool ends.
use Rattle.std.specs.Prelude.{ℕ, Result}
use Rattle.bac_tools.specs.declared.fault.Fault.{Fault}

-- a tool ends with a status, or with a fault
abbrev pub Ending : Type 0
Ending = Result ℕ Fault
