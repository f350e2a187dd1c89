use Rattle.std.proofs.Common.{◌≡◌, ◌==◌, false, take}
use Rattle.std.specs.List.{list_any}
use Rattle.bac_archive.proofs.standing.is_last.Given as goal

abbrev pub invariant-loop-beginning : goal.invariant-loop-beginning
invariant-loop-beginning l = list_any (λ b. b.id == l.epoch) (take l.beginning-index l.last) ≡ false
