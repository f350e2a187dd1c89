use Rattle.std.proofs.Common.{◌≡◌, ◌++◌, ◌<◌, map, length}
use Rattle.bac_wire.specs.Primitive.{Object}
use Rattle.bac_objects.specs.Properties.{object_list}
use Rattle.bac_objects.specs.Reading.{values_octets}
use Rattle.bac_objects.proofs.database.Database.all_objects.Given as goal

abbrev pub invariant-loop-id : goal.invariant-loop-id
invariant-loop-id l =
    (goal.iterator-loop-id).can_next l.id-iterator ×
    (goal.iterator-loop-id).is_finite l.id-iterator ×
    (l.out ++ values_octets (map (λ id. Object id) l.id-iterator) ≡ values_octets (object_list l.self)) ×
    (length l.out < 1502)
