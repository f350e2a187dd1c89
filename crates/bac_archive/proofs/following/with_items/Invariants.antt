use Rattle.std.proofs.Common.{◌≡◌, ◌++◌, map, reverse}
use Rattle.bac_archive.specs.declared.row.Put.TheVariants.{Item}
use Rattle.bac_archive.proofs.following.with_items.Given as goal

abbrev pub invariant-loop-item : goal.invariant-loop-item
invariant-loop-item l = l.puts.items ++ map Item l.item-iterator.rest.items ≡ l.fn.before.items ++ map Item (reverse l.fn.newest.items)
