-- How a run that keeps its items may end.
use Rattle.std.specs.Prelude.{◌≡◌, ℕ, ◌<◌, Option, Some, None}
use Rattle.bac_walk.specs.declared.outcome.Ended.{Ended}
use Rattle.bac_walk.specs.declared.outcome.Ended.TheVariants.{CaughtUp, StepLimit, Stopped, Fault}
use Rattle.bac_walk.specs.declared.outcome.Why.{Why}
use Rattle.bac_walk.specs.declared.outcome.Why.TheVariants.{CaughtUp as WasUp, StepLimit as WasLimit, Fault as WasFault}
use Rattle.bac_walk.specs.declared.outcome.Why.TheVariants.{Memory}

-- a run of so many steps that ended so is one of n steps over a link; out of memory, it ends as if n had been asked for
abbrev pub IsRunOf : Why → ℕ → ℕ → Ended → Type 0
IsRunOf WasUp steps n ended = (n ≡ steps) × (ended ≡ CaughtUp)
IsRunOf WasLimit steps n ended = (n ≡ steps) × (ended ≡ StepLimit)
IsRunOf (WasFault e) steps n ended = (n ≡ steps) × (ended ≡ Fault e)
IsRunOf Memory steps n ended = (n < steps) × (ended ≡ StepLimit)

-- why a run ends with a step that ended so
abbrev pub why_of : Ended → Option Why
why_of StepLimit = None
why_of CaughtUp = Some WasUp
why_of (Fault e) = Some (WasFault e)
why_of Stopped = Some Memory
