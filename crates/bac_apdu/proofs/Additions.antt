-- Parameters appended one after the other.
use Rattle.std.proofs.Common.{◌≡◌, ℕ, refl, List, [], ◌++◌, length, take, Option, Some, None, Result, Ok, Err, ap, ◌∙◌, sym, subst, append_assoc, arith}
use Rattle.std.proofs.lemmas.List.{take_at, take-take, length-append}
use Rattle.std.specs.Result.{IsErr}
use Rattle.bac_wire.specs.Primitive.{Id, Enumerated, Object, Unsigned}
use Rattle.bac_apdu.specs.Adding.{Adds, context_octets}
use Rattle.bac_apdu.specs.Form.{Form, Parameter}
use Rattle.bac_apdu.specs.FormCanon.{canon_form}
use Rattle.bac_apdu.specs.Service.PropertyReference.{property_then, property_parameters_then, property_octets}

property_first : (object : Id) (property : ℕ) (index : Option ℕ) (form : Form) (items : List Parameter) → canon_form (property_then form) (property_parameters_then object property index items) ≡ property_octets object property index ++ canon_form form items
unfolding property_octets
property_first object property None form items =
    let a = context_octets 0 (Object object) in
    let b = context_octets 1 (Enumerated property) in
    let rest = canon_form form items in
    sym (append_assoc a (b ++ []) rest ∙ ap (λ (l : List ℕ). a ++ l) (append_assoc b [] rest))
property_first object property (Some n) form items =
    let a = context_octets 0 (Object object) in
    let b = context_octets 1 (Enumerated property) in
    let d = context_octets 2 (Unsigned n) in
    let rest = canon_form form items in
    sym (append_assoc a (b ++ (d ++ [])) rest ∙ ap (λ (l : List ℕ). a ++ l) (append_assoc b (d ++ []) rest ∙ ap (λ (l : List ℕ). b ++ l) (append_assoc d [] rest)))

module _ {E : Type 0} where
  -- the second text goes after the first
  pub adds_then : (old mid new a b : List ℕ) (result : Result (Unit {0}) E) → mid ≡ old ++ a → Adds mid b result new → Adds old (a ++ b) result new
  adds_then old mid new a b (Ok u) e adds = adds ∙ (ap (λ (l : List ℕ). l ++ b) e ∙ append_assoc old a b)
  adds_then old mid new a b (Err full) e adds =
      let sum = ap (λ (l : List ℕ). length l) e ∙ length-append old a in
      let front : take (length old) mid ≡ old = ap (λ (l : List ℕ). take (length old) l) e ∙ take_at old a (length old) refl in
      (sym (take-take (length old) (length mid) new (omega (arith, sum))) ∙ (ap (λ (l : List ℕ). take (length old) l) adds.0 ∙ front), omega (arith, adds.1, sum, length-append a b))

  -- the first text doesn't fit
  pub adds_less : (old new a b : List ℕ) (result : Result (Unit {0}) E) (full : E) → IsErr result → Adds {E = E} old a (Err full) new → Adds old (a ++ b) result new
  adds_less old new a b (Ok u) full failed adds = absurd cc
  adds_less old new a b (Err again) full failed adds = (adds.0, omega (arith, adds.1, length-append a b))

  -- object, property and index, and then the parameters of another form
  pub property_adds : (object : Id) (property : ℕ) (index : Option ℕ) (form : Form) (items : List Parameter) (old mid new : List ℕ) (result : Result (Unit {0}) E)
      → mid ≡ old ++ property_octets object property index → Adds mid (canon_form form items) result new → Adds old (canon_form (property_then form) (property_parameters_then object property index items)) result new
  property_adds object property index form items old mid new result e adds =
      subst (λ (text : List ℕ). Adds old text result new) (sym (property_first object property index form items)) (adds_then old mid new (property_octets object property index) (canon_form form items) result e adds)

  pub property_full : (object : Id) (property : ℕ) (index : Option ℕ) (form : Form) (items : List Parameter) (old new : List ℕ) (result : Result (Unit {0}) E) (full : E)
      → IsErr result → Adds {E = E} old (property_octets object property index) (Err full) new → Adds old (canon_form (property_then form) (property_parameters_then object property index items)) result new
  property_full object property index form items old new result full failed adds =
      subst (λ (text : List ℕ). Adds old text result new) (sym (property_first object property index form items)) (adds_less old new (property_octets object property index) (canon_form form items) result full failed adds)
