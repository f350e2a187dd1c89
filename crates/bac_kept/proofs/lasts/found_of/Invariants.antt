use Rattle.std.proofs.Common.{◌≡◌, drop}
use Rattle.bac_kept.specs.Lasts.{found_of}
use Rattle.bac_kept.proofs.lasts.found_of.Given as goal

abbrev pub invariant-loop-one : goal.invariant-loop-one
invariant-loop-one l = found_of (drop l.one-index l.found) l.log ≡ found_of l.found l.log
