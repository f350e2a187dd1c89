use Rattle.std.proofs.Common.{◌≡◌, ◌++◌, map, take}
use Rattle.bac_device_poll.specs.Listing.{new_log}
use Rattle.bac_device_poll.proofs.listing.push_new.Given as goal

-- the logs so far stand behind the others
abbrev pub invariant-loop-log : goal.invariant-loop-log
invariant-loop-log l = l.tasks.items ≡ l.fn.tasks.items ++ map new_log (take l.log-index l.logs)
