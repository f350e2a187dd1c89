-- Lists that are gone over.
use Rattle.std.proofs.Common.{◌≡◌, refl, sym, ap, ◌∙◌, ℕ, ◌+◌, ◌<◌, List, [], ◌∷◌, ◌++◌, length, get_or, take, map, filter_map, Option, None, Some}
use Rattle.std.specs.List.{cons_option}
use Rattle.std.proofs.lemmas.List.{map-append, take_more}

-- one more of a list is taken
pub take_one : {X : Type 0} (all : List X) (at : ℕ) (x : X) → at < length all → x ≡ get_or all at x → take (at + 1) all ≡ take at all ++ x ∷ []
take_one all at x lt is = take_more all at x lt ∙ ap (λ z. take at all ++ z ∷ []) (sym is)

cons_more : {X : Type 0} (o : Option X) (xs ys : List X) → cons_option o (xs ++ ys) ≡ cons_option o xs ++ ys
cons_more None xs ys = refl
cons_more (Some x) xs ys = refl

-- what a function gives of one item more
pub given_more : {X Y : Type 0} (h : X → Option Y) (xs : List X) (x : X) → filter_map h (xs ++ x ∷ []) ≡ filter_map h xs ++ cons_option (h x) []
given_more h [] x = refl
given_more h (y ∷ xs) x = ap (cons_option (h y)) (given_more h xs x) ∙ cons_more (h y) (filter_map h xs) (cons_option (h x) [])

-- the same of a list that is gone over
pub given_one : {X Y : Type 0} (h : X → Option Y) (all : List X) (at : ℕ) (x : X) (was now : List Y) → at < length all → x ≡ get_or all at x → was ≡ filter_map h (take at all)
    → now ≡ was ++ cons_option (h x) [] → now ≡ filter_map h (take (at + 1) all)
given_one h all at x was now lt is before it =
    it ∙ ap (λ l. l ++ cons_option (h x) []) before ∙ sym (given_more h (take at all) x) ∙ ap (filter_map h) (sym (take_one all at x lt is))

pub mapped_one : {X Y : Type 0} (h : X → Y) (all : List X) (at : ℕ) (x : X) (was now : List Y) → at < length all → x ≡ get_or all at x → was ≡ map h (take at all)
    → now ≡ was ++ h x ∷ [] → now ≡ map h (take (at + 1) all)
mapped_one h all at x was now lt is before it =
    it ∙ ap (λ l. l ++ h x ∷ []) before ∙ sym (map-append h (take at all) (x ∷ [])) ∙ ap (map h) (sym (take_one all at x lt is))

pub mapped_at : {X Y : Type 0} (h : X → Y) (all : List X) (at : ℕ) (d : X) (was now : List Y) → at < length all → was ≡ map h (take at all) → now ≡ was ++ h (get_or all at d) ∷ []
    → now ≡ map h (take (at + 1) all)
mapped_at h all at d was now lt before it =
    it ∙ ap (λ l. l ++ h (get_or all at d) ∷ []) before ∙ sym (map-append h (take at all) (get_or all at d ∷ [])) ∙ ap (map h) (sym (take_more all at d lt))
