-- Values as octets.
use Rattle.std.proofs.Common.{◌≡◌, refl, ap, sym, ◌∙◌, arith, ℕ, ◌+◌, ◌<◌, ◌≤◌, nat_lt, Bool, true, false, cond, List, [], ◌∷◌, ◌++◌, length, Result, Ok, Err, append-nil, append_assoc, length-append, map, drop, get_or}
use Rattle.std.proofs.lemmas.List.{at_drop_more, drop_all}
use Rattle.std.proofs.lemmas.Bool.Decides.{nat_tests}
use Rattle.bac_wire.specs.Primitive.{Primitive}
use Rattle.bac_apdu.specs.Adding.{value_octets}
use Rattle.bac_objects.specs.Reading.{values_octets, fitted}
use Rattle.bac_objects.specs.declared.fault.Fault.{Fault}
use Rattle.bac_objects.specs.declared.fault.Refused.{Refused}
use Rattle.bac_objects.specs.declared.fault.Refused.TheVariants as refused

short : (n : ℕ) → n < 1502 → nat_lt 1501 n ≡ false
short n le = grind (arith, nat_tests)

long : (n : ℕ) → 1501 < n → nat_lt 1501 n ≡ true
long n lt = grind (arith, nat_tests)

-- what is there fits
pub all_fit : (vs : List Primitive) (out : List ℕ) → out ≡ values_octets vs → length out < 1502 → fitted (Ok (values_octets vs)) ≡ Ok out
all_fit vs out e fits = rw (← e, short (length out) fits) refl

-- what is there and one more don't fit
pub too_long : (vs : List Primitive) → 1501 < length (values_octets vs) → fitted (Ok (values_octets vs)) ≡ Err refused.TooLong
too_long vs lt = rw (long (length (values_octets vs)) lt) refl

-- a part that doesn't fit
pub part_long : (vs : List Primitive) (out text rest : List ℕ) → out ++ (text ++ rest) ≡ values_octets vs → 1501 < length out + length text → fitted (Ok (values_octets vs)) ≡ Err refused.TooLong
part_long vs out text rest e lt = too_long vs (omega (arith, lt, sym (ap (λ (l : List ℕ). length l) e), length-append out (text ++ rest), length-append text rest))

-- what isn't written yet, one value less
pub one_more : (v : Primitive) (vs : List Primitive) (out new whole : List ℕ) → out ++ values_octets (v ∷ vs) ≡ whole → new ≡ out ++ value_octets v → new ++ values_octets vs ≡ whole
unfolding values_octets
one_more v vs out new whole e is = ap (λ (l : List ℕ). l ++ values_octets vs) is ∙ append_assoc out (value_octets v) (values_octets vs) ∙ e

pub more_long : (v : Primitive) (vs all : List Primitive) (out : List ℕ) → out ++ values_octets (v ∷ vs) ≡ values_octets all → 1501 < length out + length (value_octets v) → Err refused.TooLong ≡ fitted (Ok (values_octets all))
unfolding values_octets
more_long v vs all out e lt = sym (part_long all out (value_octets v) (values_octets vs) e lt)

-- everything is written
pub done : (all : List Primitive) (out : List ℕ) → out ++ values_octets [] ≡ values_octets all → length out < 1502 → Ok out ≡ fitted (Ok (values_octets all))
unfolding values_octets
done all out e fits = sym (all_fit all out (sym (append-nil out) ∙ e) fits)

-- nothing is written yet
pub start : (all : List Primitive) (out : List ℕ) → out ≡ [] → out ++ values_octets all ≡ values_octets all
start all out e = ap (λ (l : List ℕ). l ++ values_octets all) e

-- the same over the rest of a list

module _ {X : Type 0} (f : X → Primitive) where
  pub at_drop : (xs : List X) (i : ℕ) (x : X) (out whole : List ℕ) → i < length xs → out ++ values_octets (map f (drop i xs)) ≡ whole → out ++ values_octets (f (get_or xs i x) ∷ map f (drop (i + 1) xs)) ≡ whole
  at_drop xs i x out whole lt e = sym (at_drop_more (λ (ys : List X). out ++ values_octets (map f ys)) xs i x lt) ∙ e

  pub at_end : (xs : List X) (i : ℕ) (out whole : List ℕ) → length xs ≤ i → out ++ values_octets (map f (drop i xs)) ≡ whole → out ++ values_octets [] ≡ whole
  at_end xs i out whole le e = sym (ap (λ (ys : List X). out ++ values_octets (map f ys)) (drop_all i xs le)) ∙ e

-- ---- what was fitted

fitted_fault : (b : Bool) (out : List ℕ) (f : Fault) → Err (refused.Fault f) ≡ cond b (Err refused.TooLong) (Ok out) → ⊥
fitted_fault true out f e = absurd cc
fitted_fault false out f e = absurd cc

fitted_long : (b : Bool) (out : List ℕ) → Err refused.TooLong ≡ cond b (Err refused.TooLong) (Ok out) → b ≡ true
fitted_long true out e = refl
fitted_long false out e = absurd cc

fitted_ok : (b : Bool) (out text : List ℕ) → Ok out ≡ cond b (Err refused.TooLong) (Ok text) → out ≡ text
fitted_ok true out text e = absurd cc
fitted_ok false out text e = cc

pub of_fault : (x : Result (List ℕ) Fault) (f : Fault) → Err (refused.Fault f) ≡ fitted x → x ≡ Err f
of_fault (Ok text) f e = absurd (fitted_fault (nat_lt 1501 (length text)) text f e)
of_fault (Err g) f e = let same : f ≡ g = cc in rw same refl

pub of_long : (x : Result (List ℕ) Fault) → Err refused.TooLong ≡ fitted x → (text : List ℕ) × (x ≡ Ok text) × (1501 < length text)
of_long (Ok text) e = (text, refl, (let b : nat_lt 1501 (length text) ≡ true = fitted_long (nat_lt 1501 (length text)) text e in grind (arith, nat_tests)))
of_long (Err g) e = absurd cc

pub of_ok : (x : Result (List ℕ) Fault) (out : List ℕ) → Ok out ≡ fitted x → x ≡ Ok out
of_ok (Ok text) out e = ap (λ (l : List ℕ). let y : Result (List ℕ) Fault = Ok l in y) (sym (fitted_ok (nat_lt 1501 (length text)) out text e))
of_ok (Err g) out e = absurd cc

pub nothing : (out : List ℕ) → out ≡ [] → Ok out ≡ fitted (Ok (values_octets []))
unfolding values_octets
nothing out e = rw e refl

pub appended : (v : Primitive) (old new : List ℕ) → new ≡ old ++ value_octets v → length old + length (value_octets v) < 1502 → length new < 1502
appended v old new is lt = omega (arith, lt, ap (λ (l : List ℕ). length l) is, length-append old (value_octets v))

pub single_ok : (v : Primitive) (old new : List ℕ) → old ≡ [] → new ≡ old ++ value_octets v → length new < 1502 → Ok new ≡ fitted (Ok (values_octets (v ∷ [])))
single_ok v old new none is fits = done (v ∷ []) new (one_more v [] old new (values_octets (v ∷ [])) (start (v ∷ []) old none) is) fits

pub single_long : (v : Primitive) (old : List ℕ) (fault : Refused) → old ≡ [] → fault ≡ refused.TooLong → 1501 < length old + length (value_octets v) → Err fault ≡ fitted (Ok (values_octets (v ∷ [])))
single_long v old fault none is lt = rw is (more_long v [] (v ∷ []) old (start (v ∷ []) old none) lt)

module _ {X : Type 0} (f : X → Primitive) where
  pub slot_more : (xs : List X) (i : ℕ) (x : X) (v : Primitive) (out new whole : List ℕ) → i < length xs → out ++ values_octets (map f (drop i xs)) ≡ whole → v ≡ f (get_or xs i x) → new ≡ out ++ value_octets v → new ++ values_octets (map f (drop (i + 1) xs)) ≡ whole
  slot_more xs i x v out new whole lt e same is =
      one_more v (map f (drop (i + 1) xs)) out new whole (ap (λ (w : Primitive). out ++ values_octets (w ∷ map f (drop (i + 1) xs))) same ∙ at_drop f xs i x out whole lt e) is

  pub slot_long : (xs : List X) (i : ℕ) (x : X) (v : Primitive) (out : List ℕ) (fault : Refused) → i < length xs → out ++ values_octets (map f (drop i xs)) ≡ values_octets (map f xs) → v ≡ f (get_or xs i x)
      → fault ≡ refused.TooLong → 1501 < length out + length (value_octets v) → Err fault ≡ fitted (Ok (values_octets (map f xs)))
  slot_long xs i x v out fault lt e same is long =
      rw is (more_long v (map f (drop (i + 1) xs)) (map f xs) out (ap (λ (w : Primitive). out ++ values_octets (w ∷ map f (drop (i + 1) xs))) same ∙ at_drop f xs i x out (values_octets (map f xs)) lt e) long)

pub object_long : (v : Primitive) (vs all : List Primitive) (out : List ℕ) (fault : Refused) → out ++ values_octets (v ∷ vs) ≡ values_octets all → fault ≡ refused.TooLong → 1501 < length out + length (value_octets v) → Err fault ≡ fitted (Ok (values_octets all))
object_long v vs all out fault e is lt = rw is (more_long v vs all out e lt)
