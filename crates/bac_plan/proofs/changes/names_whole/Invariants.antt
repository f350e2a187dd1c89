use Rattle.std.proofs.Common.{◌≡◌, ◌&&◌, false, take}
use Rattle.std.specs.List.{list_any}
use Rattle.bac_device_poller.specs.Rows.{device_as}
use Rattle.bac_plan.specs.Named.{is_at, is_whole}
use Rattle.bac_plan.proofs.changes.names_whole.Given as goal

abbrev pub invariant-loop-one : goal.invariant-loop-one
invariant-loop-one l = list_any (λ n. is_at n (device_as l.device) && is_whole n) (take l.one-index l.named) ≡ false
