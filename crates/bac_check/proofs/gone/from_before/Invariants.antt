use Rattle.std.proofs.Common.{◌≡◌, take, fold}
use Rattle.bac_check.specs.Lines.{behind}
use Rattle.bac_check.proofs.gone.from_before.Given as goal

-- what is found of the epochs so far
abbrev pub invariant-loop-course : goal.invariant-loop-course
invariant-loop-course l = l.found ≡ fold (behind l.id) 0 (take l.course-index l.courses)
