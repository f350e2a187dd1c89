use Rattle.std.proofs.Common.{◌≡◌, drop}
use Rattle.bac_device_poller.specs.Puts.{with_records}
use Rattle.bac_device_poller.proofs.putting.Putting.push_records.Given as goal

-- with what is left all are put
abbrev pub invariant-loop-held : goal.invariant-loop-held
invariant-loop-held l = with_records l.self (drop l.held-index l.records) ≡ with_records l.fn.self l.records
