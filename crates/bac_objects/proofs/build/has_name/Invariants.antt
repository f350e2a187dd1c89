use Rattle.std.proofs.Common.{◌≡◌, drop}
use Rattle.bac_objects.specs.Build.{has_name}
use Rattle.bac_objects.proofs.build.has_name.Given as goal

abbrev pub invariant-loop-line : goal.invariant-loop-line
invariant-loop-line l = has_name l.name (drop l.line-index l.lines) ≡ has_name l.name l.lines
