use Rattle.std.proofs.Common.{◌≡◌, ℕ, ◌-◌, Option, None, Some}
use Rattle.bac_link.specs.Transactions.{closed}
use Rattle.bac_link.specs.declared.transactions.Pending.{Pending}
use Rattle.bac_device_poller.proofs.transacting.close.Given as goal

abbrev pub invariant-loop : goal.invariant-loop
invariant-loop l = closed l.transactions ≡ closed l.fn.transactions

-- repeats that are left of what is open
abbrev pub repeats_left : ℕ → Option Pending → ℕ
repeats_left retries None = 0
repeats_left retries (Some request) = retries - request.repeats

abbrev pub decreases-loop : goal.decreases-loop
decreases-loop l = repeats_left l.transactions.retries l.transactions.pending
