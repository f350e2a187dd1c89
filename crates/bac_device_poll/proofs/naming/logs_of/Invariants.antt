use Rattle.std.proofs.Common.{◌≡◌, map, take}
use Rattle.bac_device_poll.specs.State.{LogAs}
use Rattle.bac_device_poll.proofs.naming.logs_of.Given as goal

-- those of the tasks so far
abbrev pub invariant-loop-task : goal.invariant-loop-task
invariant-loop-task l = l.logs.items ≡ map (λ (t : LogAs). t.log) (take l.task-index l.tasks)
