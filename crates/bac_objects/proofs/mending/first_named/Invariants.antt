use Rattle.std.proofs.Common.{◌≡◌, drop}
use Rattle.std.specs.List.{find}
use Rattle.std.specs.Str.{bytes_eq}
use Rattle.bac_objects.specs.Build.{name_of}
use Rattle.bac_objects.proofs.mending.first_named.Given as goal

abbrev pub invariant-loop-line : goal.invariant-loop-line
invariant-loop-line l = find (λ line. bytes_eq l.name (name_of line)) (drop l.line-index l.lines) ≡ find (λ line. bytes_eq l.name (name_of line)) l.lines
