use Rattle.std.proofs.Common.{◌≡◌, ◌≤◌, count_by, take}
use Rattle.bac_device_poller.specs.Counts.{is_gap}
use Rattle.bac_device_poller.proofs.counts.count_gaps.Given as goal

abbrev pub invariant-loop-put : goal.invariant-loop-put
invariant-loop-put l = record { few : l.count ≤ l.put-index; counted : l.count ≡ count_by is_gap (take l.put-index l.puts) }
