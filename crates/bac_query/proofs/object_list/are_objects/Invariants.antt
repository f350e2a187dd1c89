use Rattle.std.specs.Prelude.{ℕ, ◌<◌}
use Rattle.bac_wire.specs.Primitive.{Id}
use Rattle.bac_query.specs.ObjectList.{IsObject, octets_at}
use Rattle.bac_query.proofs.object_list.are_objects.Given as goal

-- so far each is an object identifier
abbrev pub invariant-loop-place : goal.invariant-loop-place
invariant-loop-place l = (k : ℕ) → k < l.place → (object : Id) × IsObject object (octets_at k l.values)
