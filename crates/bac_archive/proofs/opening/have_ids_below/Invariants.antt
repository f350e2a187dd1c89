use Rattle.std.proofs.Common.{take, All}
use Rattle.bac_archive.specs.Archive.{HasIdBelow}
use Rattle.bac_archive.proofs.opening.have_ids_below.Given as goal

abbrev pub invariant-loop-row : goal.invariant-loop-row
invariant-loop-row l = All (HasIdBelow l.most) (take l.row-index l.rows)
