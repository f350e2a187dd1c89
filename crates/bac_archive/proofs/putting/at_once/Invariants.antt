use Rattle.std.proofs.Common.{◌≤◌, length}
use Rattle.bac_archive.proofs.ManyLemmas.{AreItems}
use Rattle.bac_archive.proofs.putting.at_once.Given as goal

abbrev pub invariant-loop-at : goal.invariant-loop-at
invariant-loop-at l = (l.at ≤ length l.puts) × AreItems l.puts l.at
