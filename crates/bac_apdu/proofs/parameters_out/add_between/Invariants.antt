use Rattle.std.proofs.Common.{◌≡◌, ◌++◌}
use Rattle.bac_apdu.proofs.Between.{first}
use Rattle.bac_apdu.proofs.parameters_out.add_between.Given as goal

abbrev pub invariant-loop-value : goal.invariant-loop-value
invariant-loop-value l = l.out ≡ l.fn.out ++ first l.tag l.values l.value-index
