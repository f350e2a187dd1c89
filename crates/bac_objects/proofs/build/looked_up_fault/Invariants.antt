use Rattle.std.proofs.Common.{◌≡◌, ℕ, List, [], take, None}
use Rattle.std.specs.List.{list_any}
use Rattle.std.specs.Str.{bytes_eq}
use Rattle.bac_wire.specs.Primitive.{Id}
use Rattle.bac_objects.specs.Build.{has_id, has_name, objects_fault}
use Rattle.bac_objects.specs.State.{is_id}
use Rattle.bac_objects.proofs.build.looked_up_fault.Given as goal

-- the tables have what the lines before have
abbrev pub invariant-loop-place : goal.invariant-loop-place
invariant-loop-place l = l.fn.ids.keys ≡ [] → l.fn.names.keys ≡ [] → record {
  first : objects_fault l.device [] (take l.place l.lines) ≡ None;
  ids : (id : Id) → list_any (is_id id) l.ids.keys ≡ has_id id (take l.place l.lines);
  names : (name : List ℕ) → list_any (λ key. bytes_eq name key.now) l.names.keys ≡ has_name name (take l.place l.lines);
}
