use Rattle.std.proofs.Common.{◌≡◌, drop}
use Rattle.bac_device_poller.specs.Entries.{with_entries}
use Rattle.bac_device_poller.proofs.rows.Rows.bring_all.Given as goal

-- with what is left all are brought
abbrev pub invariant-loop-entry : goal.invariant-loop-entry
invariant-loop-entry l = with_entries l.self (drop l.entry-index l.entries) ≡ with_entries l.fn.self l.entries
