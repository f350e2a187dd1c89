use Rattle.std.proofs.Common.{◌≡◌, map, take}
use Rattle.bac_check.specs.Counted.{begun_of}
use Rattle.bac_check.proofs.course.all_begun.Given as goal

-- those of the rows so far
abbrev pub invariant-loop-row : goal.invariant-loop-row
invariant-loop-row l = l.all.items ≡ map begun_of (take l.row-index l.rows)
