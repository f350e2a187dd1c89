use Rattle.std.proofs.Common.{◌≡◌, drop}
use Rattle.bac_wire.specs.Primitive.{Id}
use Rattle.bac_objects.specs.Build.{has_id}
use Rattle.bac_objects.proofs.build.has_id.Given as goal

abbrev pub invariant-loop-line : goal.invariant-loop-line
invariant-loop-line l = let id : Id = record { kind = l.kind; instance = l.instance } in has_id id (drop l.line-index l.lines) ≡ has_id id l.lines
