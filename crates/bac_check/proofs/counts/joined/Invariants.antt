use Rattle.std.proofs.Common.{◌≡◌, ◌++◌}
use Rattle.bac_check.proofs.counts.joined.Given as goal

-- those that are left come behind the others
abbrev pub invariant-loop-course : goal.invariant-loop-course
invariant-loop-course l = l.all.items ++ l.course-iterator.rest.items ≡ l.fn.first.items ++ l.fn.more.items
