use Rattle.std.proofs.Common.{◌≡◌, ◌≤◌, count_by, take}
use Rattle.bac_device_poller.specs.Counts.{is_record}
use Rattle.bac_device_poller.proofs.counts.count_records.Given as goal

abbrev pub invariant-loop-put : goal.invariant-loop-put
invariant-loop-put l = record { few : l.count ≤ l.put-index; counted : l.count ≡ count_by is_record (take l.put-index l.puts) }
