use Rattle.std.proofs.Common.{◌≡◌, drop, map}
use Rattle.std.specs.List.{list_any}
use Rattle.bac_kept.specs.Lasts.{is_sought}
use Rattle.bac_kept.specs.Shown.{told_of}
use Rattle.bac_kept.proofs.lasts.is_any_sought.Given as goal

abbrev pub invariant-loop-shown : goal.invariant-loop-shown
invariant-loop-shown l =
    list_any (is_sought l.found) (map told_of (drop l.shown-index l.logs)) ≡ list_any (is_sought l.found) (map told_of l.logs)
