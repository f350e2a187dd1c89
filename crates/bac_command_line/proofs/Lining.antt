-- Lines that are listed one after the other.
use Rattle.std.proofs.Common.{◌≡◌, ℕ, ◌+◌, ◌<◌, ◌≤◌, List, [], ◌∷◌, Option, Result, Ok, Err, length, get_or, drop, map, ap, sym, ◌∙◌, arith, refl}
use Rattle.std.proofs.lemmas.List.{at_drop_more, drop_all}
use Rattle.std.specs.Str.Lines.{strip_carriage_return}
use Rattle.bac_command_line.specs.Listing.{IsListed, Lists, all_listed, go_on, listed_by, with_said}
use Rattle.bac_command_line.specs.declared.listing.ListFault.{ListFault}
use Rattle.bac_command_line.specs.declared.listing.ListFault.TheVariants.{BadLine, TooMany, Empty, TooLong, Read, Memory}

-- what lines list, by the first of them
pub at_line : {A X : Type 0} (said : List ℕ → Option (List A)) (lines : List X) (f : X → List ℕ) (i : ℕ) (d : X) (text : List ℕ) (list : List A) (number : ℕ)
    → i < length lines → text ≡ strip_carriage_return (f (get_or lines i d))
    → listed_by said list number (map f (drop i lines))
    ≡ go_on (with_said list number (said text)) (λ next. listed_by said next (number + 1) (map f (drop (i + 1) lines)))
at_line {A} {X} said lines f i d text list number below is =
    at_drop_more (λ (ls : List X). listed_by said list number (map f ls)) lines i d below
    ∙ ap (λ (t : List ℕ). go_on (with_said list number (said t)) (λ (next : List A). listed_by said next (number + 1) (map f (drop (i + 1) lines)))) (sym is)

-- the same if it was added
pub added : {A : Type 0} (whole said : Result (List A) ListFault) (more : List A → Result (List A) ListFault) (new : List A)
    → whole ≡ go_on said more → said ≡ Ok new → whole ≡ more new
added {A} whole said more new is e = is ∙ ap (λ (r : Result (List A) ListFault). go_on r more) e

-- the same if it is at fault
pub at_fault : {A : Type 0} (whole said : Result (List A) ListFault) (more : List A → Result (List A) ListFault) (new : List A) (fault : ListFault)
    → whole ≡ go_on said more → IsListed said (Err fault) new → Lists whole (Err fault)
at_fault {A} whole said more new (BadLine n) is e = is ∙ ap (λ (r : Result (List A) ListFault). go_on r more) e
at_fault {A} whole said more new (TooMany n) is e = is ∙ ap (λ (r : Result (List A) ListFault). go_on r more) e
at_fault {A} whole said more new Empty is e = is ∙ ap (λ (r : Result (List A) ListFault). go_on r more) e
at_fault whole said more new TooLong is e = absurd e
at_fault whole said more new Read is e = absurd e
at_fault whole said more new Memory is e = tt

-- what lines list, behind the last of them
pub at_end : {A X : Type 0} (said : List ℕ → Option (List A)) (lines : List X) (f : X → List ℕ) (i : ℕ) (list : List A) (number : ℕ) (whole : Result (List A) ListFault)
    → length lines ≤ i → whole ≡ listed_by said list number (map f (drop i lines)) → whole ≡ all_listed list
at_end {A} {X} said lines f i list number whole past is = is ∙ ap (λ (ls : List X). listed_by said list number (map f ls)) (drop_all i lines past)

-- nothing listed is a fault, and something is the answer
pub none_listed : {A : Type 0} (list : List A) → length list ≡ 0 → all_listed list ≡ Err Empty
none_listed [] none = refl
none_listed (one ∷ more) none = absurd (omega arith)

pub some_listed : {A : Type 0} (list : List A) → 0 < length list → all_listed list ≡ Ok list
some_listed [] some = absurd (omega arith)
some_listed (one ∷ more) some = refl
