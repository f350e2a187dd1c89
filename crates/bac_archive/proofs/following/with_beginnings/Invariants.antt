use Rattle.std.proofs.Common.{◌≡◌, ◌++◌, map}
use Rattle.bac_archive.specs.declared.row.Put.TheVariants.{Beginning}
use Rattle.bac_archive.proofs.following.with_beginnings.Given as goal

abbrev pub invariant-loop-beginning : goal.invariant-loop-beginning
invariant-loop-beginning l = l.puts.items ++ map Beginning l.beginning-iterator.rest.items ≡ l.fn.before.items ++ map Beginning l.fn.last.items
