use Rattle.std.proofs.Common.{length}
use Rattle.bac_query.proofs.Lines.{Covers}
use Rattle.bac_query.proofs.values.push_lines.Given as goal

-- the values up to what is left have their lines
abbrev pub invariant-loop-rest : goal.invariant-loop-rest
invariant-loop-rest l = Covers l.fn.reals l.initial.rest l.initial.text.items l.text.items l.rest

abbrev pub decreases-loop-rest : goal.decreases-loop-rest
decreases-loop-rest l = length l.rest
