use Rattle.std.proofs.Common.{◌≡◌, ◌==◌, ◌&&◌, false, take}
use Rattle.std.specs.List.{list_any}
use Rattle.bac_plan.proofs.fresh_log.has_log.Given as goal

abbrev pub invariant-loop-log : goal.invariant-loop-log
invariant-loop-log l = list_any (λ x. (x.device == l.device) && (x.instance == l.instance)) (take l.log-index l.logs) ≡ false
