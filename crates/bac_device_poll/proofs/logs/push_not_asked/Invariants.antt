use Rattle.std.proofs.Common.{◌≡◌, ◌++◌, map, take}
use Rattle.bac_device_poll.specs.Turns.{not_asked}
use Rattle.bac_device_poll.proofs.logs.push_not_asked.Given as goal

-- the logs so far are told
abbrev pub invariant-loop-task : goal.invariant-loop-task
invariant-loop-task l = l.entries.items ≡ l.fn.entries.items ++ map not_asked (take l.task-index l.logs)
