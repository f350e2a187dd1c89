-- What is gone from `rest` was appended.
use Rattle.std.proofs.Common.{length}
use Rattle.bac_print.proofs.Octets.{IsWrittenTo}
use Rattle.bac_print.proofs.output.write_text.Given as goal

abbrev pub invariant-loop-rest : goal.invariant-loop-rest
invariant-loop-rest g l = IsWrittenTo (g.W.Write.contents l.initial.writer) (g.W.Write.contents l.writer) l.initial.rest l.rest

abbrev pub decreases-loop-rest : goal.decreases-loop-rest
decreases-loop-rest g l = length l.rest
