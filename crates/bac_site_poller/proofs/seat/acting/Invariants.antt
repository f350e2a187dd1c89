use Rattle.std.proofs.Common.{ℕ, ◌<◌}
use Rattle.bac_site_poller.specs.Site.{MayAct}
use Rattle.bac_site_poller.proofs.seat.acting.Given as goal

-- none so far may act
abbrev pub invariant-loop-place : goal.invariant-loop-place
invariant-loop-place l = (k : ℕ) → k < l.place → MayAct l.seats k → ⊥
