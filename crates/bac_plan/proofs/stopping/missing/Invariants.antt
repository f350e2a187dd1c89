use Rattle.std.proofs.Common.{◌≡◌, drop}
use Rattle.bac_plan.specs.Stopping.{missing_from}
use Rattle.bac_plan.proofs.stopping.missing.Given as goal

abbrev pub invariant-loop-place : goal.invariant-loop-place
invariant-loop-place l = missing_from l.place l.told (drop l.place l.named) ≡ missing_from 0 l.told l.named
