-- Values between an opening and a closing tag, appended one after the other.
use Rattle.std.proofs.Common.{◌≡◌, ℕ, ◌+◌, ◌<◌, List, [], ◌∷◌, ◌++◌, length, get_or, take, ◌≤◌, drop, map, Result, Ok, Err, refl, ap, sym, subst, ◌∙◌, append_assoc, append-nil, arith}
use Rattle.std.proofs.lemmas.List.{take_more, take_all, take-append-drop, take_at, get_or-map, length-append, length-map}
use Rattle.std.specs.Result.{IsErr}
use Rattle.bac_wire.specs.Primitive.{Primitive}
use Rattle.bac_wire.specs.View.{view}
use Rattle.bac_wire.specs.declared.value.Value.{Value}
use Rattle.bac_wire.specs.Datagram.{Writes}
use Rattle.bac_apdu.specs.Adding.{Adds, between_octets, values_before, value_octets, open_octets, close_octets}
use Rattle.bac_apdu.proofs.Additions.{adds_less}

joined : (text : List ℕ) (xs ys : List Primitive) → values_before text (xs ++ ys) ≡ values_before (values_before text ys) xs
joined text [] ys = refl
joined text (x ∷ xs) ys = ap (λ (l : List ℕ). value_octets x ++ l) (joined text xs ys)

split : (text : List ℕ) (xs : List Primitive) → values_before text xs ≡ values_before [] xs ++ text
split text [] = refl
split text (x ∷ xs) = ap (λ (l : List ℕ). value_octets x ++ l) (split text xs) ∙ sym (append_assoc (value_octets x) (values_before [] xs) text)

module _ (tag : ℕ) (values : List Value) (place : ℕ) where
  abbrev said : List Primitive
  said = map view values

  -- the opening tag, and the values up to a place
  abbrev pub first : List ℕ
  first = open_octets tag ++ values_before [] (take place said)

  -- one value more
  one_more : (value : Value) → value ≡ get_or values place value → place < length values → open_octets tag ++ values_before [] (take (place + 1) said) ≡ first ++ value_octets (view value)
  one_more value is within =
      let read : get_or said place (view value) ≡ view value = get_or-map view values place value (view value) within ∙ ap view (sym is) in
      let more : take (place + 1) said ≡ take place said ++ view value ∷ [] =
      take_more said place (view value) (omega (arith, within, length-map values view)) ∙ ap (λ (v : Primitive). take place said ++ v ∷ []) read in
      ap (λ (l : List Primitive). open_octets tag ++ values_before [] l) more
      ∙ ap (λ (l : List ℕ). open_octets tag ++ l) (joined [] (take place said) (view value ∷ []) ∙ split (value_octets (view value) ++ []) (take place said))
      ∙ ap (λ (l : List ℕ). open_octets tag ++ (values_before [] (take place said) ++ l)) (append-nil (value_octets (view value)))
      ∙ sym (append_assoc (open_octets tag) (values_before [] (take place said)) (value_octets (view value)))

  pub more_between : (value : Value) (old mid new : List ℕ) → value ≡ get_or values place value → place < length values → mid ≡ old ++ first → new ≡ mid ++ value_octets (view value)
      → new ≡ old ++ (open_octets tag ++ values_before [] (take (place + 1) said))
  more_between value old mid new is within was wrote =
      wrote ∙ ap (λ (l : List ℕ). l ++ value_octets (view value)) was ∙ append_assoc old first (value_octets (view value))
      ∙ ap (λ (l : List ℕ). old ++ l) (sym (one_more value is within))

  -- what stands between the tags, from a place on
  rest_of : between_octets tag said ≡ first ++ values_before (close_octets tag ++ []) (drop place said)
  rest_of =
      ap (λ (l : List Primitive). between_octets tag l) (sym (take-append-drop place said))
      ∙ ap (λ (l : List ℕ). open_octets tag ++ l) (joined (close_octets tag ++ []) (take place said) (drop place said) ∙ split (values_before (close_octets tag ++ []) (drop place said)) (take place said))
      ∙ sym (append_assoc (open_octets tag) (values_before [] (take place said)) (values_before (close_octets tag ++ []) (drop place said)))

  -- the closing tag comes behind all of them
  closed : between_octets tag said ≡ (open_octets tag ++ values_before [] said) ++ close_octets tag
  closed =
      ap (λ (l : List ℕ). open_octets tag ++ l) (split (close_octets tag ++ []) said ∙ ap (λ (l : List ℕ). values_before [] said ++ l) (append-nil (close_octets tag)))
      ∙ sym (append_assoc (open_octets tag) (values_before [] said) (close_octets tag))

  whole : length values ≤ place → first ≡ open_octets tag ++ values_before [] said
  whole past = ap (λ (l : List Primitive). open_octets tag ++ values_before [] l) (take_all place said (omega (arith, past, length-map values view)))

module _ {E : Type 0} (tag : ℕ) (values : List Value) (old mid new : List ℕ) (result : Result (Unit {0}) E) where
  -- a value doesn't fit
  pub value_full : (place : ℕ) (value : Value) (full : E) → value ≡ get_or values place value → place < length values → IsErr result → mid ≡ old ++ first tag values place → Writes {E = E} mid (value_octets (view value)) (Err full) new
      → Adds old (between_octets tag (map view values)) result new
  value_full place value full is within failed was wrote =
      let a = first tag values (place + 1) in
      let text = value_octets (view value) in
      let sizes : length a ≡ length (first tag values place) + length text = ap length (one_more tag values place value is within) ∙ length-append (first tag values place) text in
      let before : length mid ≡ length old + length (first tag values place) = ap length was ∙ length-append old (first tag values place) in
      let front : take (length old) new ≡ old = ap (λ (l : List ℕ). take (length old) l) (wrote.0 ∙ was) ∙ take_at old (first tag values place) (length old) refl in
      subst (λ (all : List ℕ). Adds old all result new) (sym (rest_of tag values (place + 1)))
      (adds_less old new a (values_before (close_octets tag ++ []) (drop (place + 1) (map view values))) result full failed (front, omega (arith, wrote.1, sizes, before)))

  -- the opening tag doesn't fit
  pub open_full : (full : E) → IsErr result → Writes {E = E} old (open_octets tag) (Err full) new → Adds old (between_octets tag (map view values)) result new
  open_full full failed wrote =
      adds_less old new (open_octets tag) (values_before (close_octets tag ++ []) (map view values)) result full failed (ap (λ (l : List ℕ). take (length old) l) wrote.0 ∙ take_all (length old) old (omega arith), wrote.1)

pub closes : {E : Type 0} (tag : ℕ) (values : List Value) (place : ℕ) (old mid new : List ℕ) (result : Result (Unit {0}) E) → length values ≤ place → mid ≡ old ++ first tag values place → Writes mid (close_octets tag) result new
    → Adds old (between_octets tag (map view values)) result new
closes tag values place old mid new (Ok u) past was wrote =
    wrote.0 ∙ ap (λ (l : List ℕ). l ++ close_octets tag) was ∙ append_assoc old (first tag values place) (close_octets tag)
    ∙ ap (λ (l : List ℕ). old ++ l) (ap (λ (l : List ℕ). l ++ close_octets tag) (whole tag values place past) ∙ sym (closed tag values place))
closes tag values place old mid new (Err full) past was wrote =
    let before : length mid ≡ length old + length (first tag values place) = ap length was ∙ length-append old (first tag values place) in
    let sizes : length (between_octets tag (map view values)) ≡ length (first tag values place) + length (close_octets tag) =
    ap length (closed tag values place ∙ ap (λ (l : List ℕ). l ++ close_octets tag) (sym (whole tag values place past))) ∙ length-append (first tag values place) (close_octets tag) in
    (ap (λ (l : List ℕ). take (length old) l) (wrote.0 ∙ was) ∙ take_at old (first tag values place) (length old) refl, omega (arith, wrote.1, sizes, before))
