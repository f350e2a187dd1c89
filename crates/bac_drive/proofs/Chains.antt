-- Steps in two parts, and what a place of a mapped list has.
use Rattle.std.proofs.Common.{◌≡◌, ℕ, List, [], ◌∷◌, ◌++◌, map, Option, Some, None, slice_get, refl, ap, sym, subst, ◌∙◌}
use Rattle.std.proofs.lemmas.Option.{slice_get-map}
use Rattle.std.specs.Option.{option_map}
use Rattle.bac_drive.specs.Chain.{Chain}

pub joined : {S E : Type 0} (step : S → E → S → Type 0) (a b c : S) (es fs : List E) → Chain step a es b → Chain step b fs c → Chain step a (es ++ fs) c
joined {S = S} step a b c [] fs same rest = let R : S → Type 0 = λ s. Chain step s fs c in subst R same rest
joined step a b c (e ∷ es) fs (mid, one, more) rest = (mid, one, joined step mid b c es fs more rest)

pub pushed : {S E : Type 0} (step : S → E → S → Type 0) (a b c : S) (es : List E) (e : E) → Chain step a es b → step b e c → Chain step a (es ++ e ∷ []) c
pushed step a b c es e all one = joined step a b c es (e ∷ []) all (c, one, refl)

mapped : {X Y : Type 0} (f : X → Y) (o : Option X) (y : Y) → option_map f o ≡ Some y → (x : X) × (o ≡ Some x) × (y ≡ f x)
mapped {Y = Y} f None y is = absurd (let e : (let n : Option Y = None in n) ≡ Some y = is in cc)
mapped f (Some x) y is = (x, refl, let e : Some (f x) ≡ Some y = is in cc)

pub get_map : {X Y : Type 0} (f : X → Y) (xs : List X) (i : ℕ) (y : Y) → slice_get (map f xs) i ≡ Some y → (x : X) × (slice_get xs i ≡ Some x) × (y ≡ f x)
get_map f xs i y is = mapped f (slice_get xs i) y (sym (slice_get-map f xs i) ∙ is)
