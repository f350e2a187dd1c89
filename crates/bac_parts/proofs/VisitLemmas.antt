-- Parts that are visited one after the other.
use Rattle.std.proofs.Common.{◌≡◌, ◌∙◌, ◌++◌, ◌∷◌, ◌+◌, [], ap, refl, sym, subst, true, List, ℕ, length, length-append, map, reverse, String, Global}
use Rattle.std.proofs.lemmas.List.{append_assoc, map-append, reverse-append}
use Rattle.std.specs.String.{string_bytes}
use Rattle.bac_parts.specs.Visits.{At, Visit, VisitRules, Visits, VisitsEach, path_of}

module _ {P V : Type 0} (rules : VisitRules P V) where
  -- one more
  pub visits_more : (visits : List Visit) (one : Visit) (old mid new : At P V) → VisitsEach rules visits old mid → rules.wants mid.visitor ≡ true → Visits rules one mid new
      → VisitsEach rules (visits ++ one ∷ []) old new
  visits_more [] one old mid new same wants is = subst (λ (a : At P V). VisitsEach rules (one ∷ []) a new) same (wants, (new, is, refl))
  visits_more (v ∷ vs) one old mid new (first, (next, did, rest)) wants is = (first, (next, did, visits_more vs one next mid new rest wants is))

-- a list with one more is longer by one
pub one_longer : {X : Type 0} (xs : List X) (x : X) (all : List X) → all ≡ xs ++ x ∷ [] → length all ≡ length xs + 1
one_longer xs x all is = ap length is ∙ length-append xs (x ∷ [])

-- their paths
pub paths_more : (visits : List Visit) (one : Visit) (path : List ℕ) → path_of one ≡ path → map path_of (visits ++ one ∷ []) ≡ map path_of visits ++ path ∷ []
paths_more visits one path is = map-append path_of visits (one ∷ []) ∙ ap (λ p. map path_of visits ++ p ∷ []) is

-- the newest of the others was visited, behind those that are newer
pub back_more : (paths : List (List ℕ)) (rest : List (String Global)) (newest : String Global) (seen more : List (List ℕ))
    → paths ≡ map string_bytes (rest ++ newest ∷ []) ++ reverse seen → more ≡ seen ++ string_bytes newest ∷ [] → paths ≡ map string_bytes rest ++ reverse more
back_more paths rest newest seen more is grown =
    is ∙ ap (λ l. l ++ reverse seen) (map-append string_bytes rest (newest ∷ [])) ∙ append_assoc (map string_bytes rest) (string_bytes newest ∷ []) (reverse seen)
    ∙ ap (λ l. map string_bytes rest ++ l) (sym (reverse-append seen (string_bytes newest ∷ []))) ∙ ap (λ l. map string_bytes rest ++ reverse l) (sym grown)

-- the oldest of the others was visited, behind those that are older
pub on_more : (paths : List (List ℕ)) (rest : List (String Global)) (first : String Global) (seen more : List (List ℕ))
    → paths ≡ seen ++ map string_bytes (first ∷ rest) → more ≡ seen ++ string_bytes first ∷ [] → paths ≡ more ++ map string_bytes rest
on_more paths rest first seen more is grown =
    is ∙ sym (append_assoc seen (string_bytes first ∷ []) (map string_bytes rest)) ∙ ap (λ l. l ++ map string_bytes rest) (sym grown)
