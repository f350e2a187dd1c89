-- Writes of an object in the table.
use Rattle.std.proofs.Common.{◌≡◌, refl, ap, ◌∙◌, rules, Bool, true, false, cond, List, [], ◌∷◌, Some, None, Result, Ok, Err}
use Rattle.std.specs.Map.{lookup, set_value}
use Rattle.bac_wire.specs.Primitive.{Id}
use Rattle.bac_wire.specs.Chain.{◌>>=◌}
use Rattle.bac_objects.specs.Chain.{Leaves}
use Rattle.bac_objects.specs.State.{State, is_id}
use Rattle.bac_apdu.specs.Service.WriteProperty.{PropertyWrite}
use Rattle.bac_objects.specs.Writing.{write_of, object_written, is_device}
use Rattle.bac_objects.specs.declared.fault.Fault.{Fault}
use Rattle.bac_objects.specs.declared.fault.Fault.TheVariants.{UnknownObject}
use Rattle.bac_objects.specs.declared.object.Object as object

module _ {K X : Type 0} (test : K → Bool) where
  same_at : (b : Bool) (p : K × X) (es : List (K × X)) (o : X) → (lookup test es ≡ Some o → set_value test es o ≡ es) → cond b (Some p.1) (lookup test es) ≡ Some o → cond b ((p.0, o) ∷ es) (p ∷ set_value test es o) ≡ p ∷ es
  same_at true p es o rest e = search rules
  same_at false p es o rest e = ap (λ l. p ∷ l) (rest e)

  -- writing what is there changes nothing
  pub set_value-same : (es : List (K × X)) (o : X) → lookup test es ≡ Some o → set_value test es o ≡ es
  set_value-same [] o e = refl
  set_value-same (p ∷ es) o e = same_at (test p.0) p es o (set_value-same es o) e

-- the end of a write, by what the object said
pub ends : (d : State) (w : PropertyWrite) (o new : object.Object) (es : List (Id × object.Object)) (r : Result (Unit {0}) Fault) (said : Result object.Object Fault) →
    lookup (is_id w.object) d.objects ≡ Some o → es ≡ set_value (is_id w.object) d.objects new → Leaves r o new said →
    Leaves r d (record d { objects = es }) (said >>= (λ x. Ok (record d { objects = set_value (is_id w.object) d.objects x })))
ends d w o new es (Ok u) said at e h = rw (h, e) refl
ends d w o new es (Err f) said at e h =
    let same : es ≡ d.objects = e ∙ ap (λ x. set_value (is_id w.object) d.objects x) h.1 ∙ set_value-same (is_id w.object) d.objects o at in
    rw (h.0, same) (refl, refl)

pub writes : (d : State) (w : PropertyWrite) (o new : object.Object) (es : List (Id × object.Object)) (r : Result (Unit {0}) Fault) →
    is_device d w.object ≡ false → lookup (is_id w.object) d.objects ≡ Some o → es ≡ set_value (is_id w.object) d.objects new →
    Leaves r o new (object_written d.clock w o) → Leaves r d (record d { objects = es }) (write_of d w)
writes d w o new es r other at e h = rw (other, at) (ends d w o new es r (object_written d.clock w o) at e h)

-- without the object
pub missing : (d : State) (w : PropertyWrite) → is_device d w.object ≡ false → lookup (is_id w.object) d.objects ≡ None → write_of d w ≡ Err UnknownObject
missing d w other at = rw (other, at) refl
