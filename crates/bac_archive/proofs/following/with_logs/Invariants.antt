use Rattle.std.proofs.Common.{◌≡◌, ◌++◌, map}
use Rattle.bac_archive.specs.declared.row.Put.TheVariants.{NewLog}
use Rattle.bac_archive.proofs.following.with_logs.Given as goal

abbrev pub invariant-loop-log : goal.invariant-loop-log
invariant-loop-log l = l.puts.items ++ map NewLog l.log-iterator.rest.items ≡ l.fn.before.items ++ map NewLog l.fn.logs.items
