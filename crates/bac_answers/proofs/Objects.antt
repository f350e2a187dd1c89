-- Object identifiers, one behind the other.
use Rattle.std.proofs.Common.{◌≡◌, ◌∙◌, ℕ, List, [], ◌∷◌, option_map, Option, Some, ap}
use Rattle.bac_wire.specs.Primitive.{Id}
use Rattle.bac_answers.specs.Values.{object_in, objects_in, with_object}

-- the first one
pub first_is : (octets : List ℕ) (tag a b c d : ℕ) (after : List ℕ) (o : Id) → octets ≡ tag ∷ a ∷ b ∷ c ∷ d ∷ after →
    object_in tag (a ∷ b ∷ c ∷ d ∷ []) ≡ Some o → objects_in octets ≡ option_map (λ objects. o ∷ objects) (objects_in after)
first_is octets tag a b c d after o is object =
    ap objects_in is ∙ ap (λ (x : Option Id). with_object x (objects_in after)) object
