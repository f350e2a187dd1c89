-- The object list.
use Rattle.std.proofs.Common.{◌≡◌, refl, ap, sym, ◌∙◌, rules, arith, ℕ, zero, suc, ◌-◌, ◌≤◌, List, [], ◌∷◌, map, slice_get, Some, None}
use Rattle.std.specs.Map.{keys_of}
use Rattle.bac_wire.specs.Primitive.{Id, Object}
use Rattle.bac_objects.specs.State.{State}
use Rattle.bac_objects.specs.Properties.{object_list}
use Rattle.bac_objects.specs.declared.object.Object as object

module _ {X : Type 0} where
  pub key_at : (es : List (Id × X)) (i : ℕ) (e : Id × X) → slice_get es i ≡ Some e → slice_get (map (λ id. Object id) (keys_of es)) i ≡ Some (Object e.0)
  key_at [] i e h = search rules
  key_at (x ∷ es) zero e h = search rules
  key_at (x ∷ es) (suc i) e h = key_at es i e h

  pub no_key_at : (es : List (Id × X)) (i : ℕ) → slice_get es i ≡ None → slice_get (map (λ id. Object id) (keys_of es)) i ≡ None
  no_key_at [] i h = refl
  no_key_at (x ∷ es) zero h = search rules
  no_key_at (x ∷ es) (suc i) h = no_key_at es i h

pub listed : (d : State) (place : ℕ) (e : Id × object.Object) → 1 ≤ place → slice_get d.objects (place - 1) ≡ Some e → slice_get (object_list d) place ≡ Some (Object e.0)
listed d zero e le h = absurd (omega (arith, le))
listed d (suc n) e le h = let s : suc n - 1 ≡ n = omega arith in key_at d.objects n e (ap (slice_get d.objects) (sym s) ∙ h)

pub unlisted : (d : State) (place : ℕ) → 1 ≤ place → slice_get d.objects (place - 1) ≡ None → slice_get (object_list d) place ≡ None
unlisted d zero le h = absurd (omega (arith, le))
unlisted d (suc n) le h = let s : suc n - 1 ≡ n = omega arith in no_key_at d.objects n (ap (slice_get d.objects) (sym s) ∙ h)
