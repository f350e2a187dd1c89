use Rattle.std.proofs.Common.{take, true}
use Rattle.std.specs.List.Sorted.{IsSorted}
use Rattle.bac_archive.specs.Ask.{falls, first}
use Rattle.bac_archive.specs.Put.{beginning_columns}
use Rattle.bac_archive.specs.Stands.{epochs}
use Rattle.bac_archive.proofs.NewestLemmas.{Told}
use Rattle.bac_archive.proofs.standing.last_of.Given as goal

abbrev pub invariant-loop-row : goal.invariant-loop-row
invariant-loop-row l = IsSorted falls l.rows → Told epochs 1 (λ _. true) beginning_columns (first 3) (take l.row-index l.rows) l.found
