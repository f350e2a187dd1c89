use Rattle.std.proofs.Common.{◌≡◌, filter_map, map, take}
use Rattle.bac_kept.specs.Lasts.{asked}
use Rattle.bac_kept.specs.Shown.{shown_of, told_of}
use Rattle.bac_kept.proofs.lasts.last_logs.Given as goal

abbrev pub invariant-loop-log : goal.invariant-loop-log
invariant-loop-log l = map told_of l.all.items ≡ filter_map (λ log. asked (shown_of l.known l.choice log)) (take l.log-index l.known.logs.items)
