use Rattle.std.proofs.Common.{◌≡◌, true, take, All}
use Rattle.bac_archive.specs.Schema.{lets_in}
use Rattle.bac_archive.proofs.shape.are_let_in.Given as goal

abbrev pub invariant-loop-index : goal.invariant-loop-index
invariant-loop-index l = All (λ i. lets_in i ≡ true) (take l.index-index l.indexes)
