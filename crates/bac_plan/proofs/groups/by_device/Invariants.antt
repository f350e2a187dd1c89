use Rattle.std.proofs.Common.{◌≡◌, ℕ, ◌<◌, Some, slice_get}
use Rattle.std.specs.List.{filter}
use Rattle.bac_plan.specs.Logs.{is_of}
use Rattle.bac_plan.proofs.groups.by_device.Given as goal

-- so far each device has those of its logs that were taken
abbrev pub invariant-loop-log : goal.invariant-loop-log
invariant-loop-log l = (id : ℕ) → id < 65536 → slice_get l.groups.items id ≡ Some (filter (is_of id) l.yielded)
