use Rattle.std.proofs.Common.{◌≡◌, false, take}
use Rattle.bac_device_poll.specs.Listing.{is_polled}
use Rattle.bac_device_poll.proofs.listing.is_polled.Given as goal

-- none so far is of the object
abbrev pub invariant-loop-task : goal.invariant-loop-task
invariant-loop-task l = is_polled l.object (take l.task-index l.logs) ≡ false
