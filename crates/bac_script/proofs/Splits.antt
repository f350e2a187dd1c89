-- Where a list is cut.
use Rattle.std.proofs.Common.{◌≡◌, ℕ, Bool, true, false, cond, ◌+◌, List, [], ◌∷◌, Some, refl, ap, ◌∙◌, take, drop, position, subst}
use Rattle.std.specs.List.{slice_split, onto_first}
use Rattle.std.proofs.lemmas.Option.{cond_some}
use Rattle.std.proofs.lemmas.List.Splits.{slice_split_first}
use Rattle.bac_script.specs.Script.Words.{HasTwo}
use borrow.Author.Tests.{ltb-true}

-- the first part ends at the first place that passes
pub slice_split-position : (p : ℕ → Bool) (text : List ℕ) (i : ℕ) → position p text ≡ Some i → slice_split p text ≡ take i text ∷ slice_split p (drop (i + 1) text)
slice_split-position p text i found =
    let at = cond_some _ _ _ found in
    subst (λ n. slice_split p text ≡ take n text ∷ slice_split p (drop (n + 1) text)) at.1 (slice_split_first p text 0 (ltb-true _ _ at.0))

-- a list that isn't empty
abbrev pub IsCons : List (List ℕ) → Type 0
IsCons xs = (y : List ℕ) × (ys : List (List ℕ)) × (xs ≡ y ∷ ys)

pub onto_first-IsCons : (x : ℕ) (xs : List (List ℕ)) → IsCons (onto_first x xs)
onto_first-IsCons x [] = (x ∷ [], [], refl)
onto_first-IsCons x (y ∷ ys) = (x ∷ y, ys, refl)

cond-IsCons : (b : Bool) (x : ℕ) (xs ys : List (List ℕ)) → IsCons (cond b ([] ∷ xs) (onto_first x ys))
cond-IsCons true x xs ys = ([], xs, refl)
cond-IsCons false x xs ys = onto_first-IsCons x ys

-- there is always a first part
pub slice_split-IsCons : (p : ℕ → Bool) (text : List ℕ) → IsCons (slice_split p text)
slice_split-IsCons p [] = ([], [], refl)
slice_split-IsCons p (x ∷ xs) = cond-IsCons (p x) x (slice_split p xs) (slice_split p xs)

-- a first part and what follows make two
pub HasTwo-from_first : (p : ℕ → Bool) (text first rest : List ℕ) → slice_split p text ≡ first ∷ slice_split p rest → HasTwo (slice_split p text)
HasTwo-from_first p text first rest e =
    let (y, ys, f) = slice_split-IsCons p rest in
    (first, y, ys, e ∙ ap (λ l. first ∷ l) f)
