use Rattle.std.proofs.Common.{◌≡◌, ◌++◌, ◌/◌, map, take}
use Rattle.bac_archive.specs.Stands.{behind, epochs}
use Rattle.bac_archive.proofs.standing.behind_logs.Given as goal

abbrev pub invariant-loop-log : goal.invariant-loop-log
invariant-loop-log l = l.next ≡ behind (map (λ d. d.id) (take l.log-index l.logs))

abbrev pub invariant-loop-beginning : goal.invariant-loop-beginning
invariant-loop-beginning l = l.next ≡ behind (map (λ d. d.id) l.fn.logs ++ map (λ b. b.id / epochs) (take l.beginning-index l.last))
