use Rattle.std.proofs.Common.{◌≡◌, ◌==◌, drop, find}
use Rattle.bac_kept.proofs.lines.beginning_with.Given as goal

abbrev pub invariant-loop-beginning : goal.invariant-loop-beginning
invariant-loop-beginning l = find (λ b. b.id == l.id) (drop l.beginning-index l.beginnings) ≡ find (λ b. b.id == l.id) l.beginnings
