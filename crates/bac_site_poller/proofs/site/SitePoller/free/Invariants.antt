use Rattle.std.proofs.Common.{ℕ, ◌<◌}
use Rattle.bac_site_poller.specs.Site.{MayAsk}
use Rattle.bac_site_poller.proofs.site.SitePoller.free.Given as goal

-- none so far may be asked
abbrev pub invariant-loop-place : goal.invariant-loop-place
invariant-loop-place l = (k : ℕ) → k < l.place → MayAsk l.self k → ⊥
