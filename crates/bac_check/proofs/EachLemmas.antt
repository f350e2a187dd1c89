-- What is told of each of a list, one after the other.
use Rattle.std.proofs.Common.{◌≡◌, append_assoc, refl, sym, subst, ap, fold, ◌∙◌, ℕ, ◌+◌, ◌<◌, ◌&&◌, Bool, List, ◌++◌, flat_map, get_or, length, map, take, [], ◌∷◌}
use Rattle.std.specs.List.{AllZip, filter, list_all}
use Rattle.std.proofs.lemmas.List.Elements.{AllZip-push, filter-append}
use Rattle.std.proofs.lemmas.List.Sums.{fold_push}
use Rattle.std.proofs.lemmas.List.{flat_map_more, map-append, take_more}
use Rattle.std.proofs.lemmas.List.Folds.{list_all_more}

-- the text of one more, by its place
pub text_at : {X : Type 0} (tell : X → List ℕ) (all : List X) (at : ℕ) (d : X) (old mid new : List ℕ) → at < length all
    → mid ≡ old ++ flat_map tell (take at all) → new ≡ mid ++ tell (get_or all at d) → new ≡ old ++ flat_map tell (take (at + 1) all)
text_at {X} tell all at d old mid new lt before more =
    more ∙ ap (λ (l : List ℕ). l ++ tell (get_or all at d)) before ∙ flat_map_more tell old (take at all) (get_or all at d)
    ∙ ap (λ (l : List X). old ++ flat_map tell l) (sym (take_more all at d lt))

-- the text of one more
pub text_more : {X : Type 0} (tell : X → List ℕ) (all : List X) (at : ℕ) (x : X) (old mid new : List ℕ) → at < length all → x ≡ get_or all at x
    → mid ≡ old ++ flat_map tell (take at all) → new ≡ mid ++ tell x → new ≡ old ++ flat_map tell (take (at + 1) all)
text_more {X} tell all at x old mid new lt is before more =
    text_at tell all at x old mid new lt before (more ∙ ap (λ (y : X). mid ++ tell y) is)

-- whether one more passes a test, too
pub all_more : {X : Type 0} (test : X → Bool) (all : List X) (at : ℕ) (x : X) (so one : Bool) → at < length all → x ≡ get_or all at x
    → so ≡ list_all test (take at all) → one ≡ test x → (so && one) ≡ list_all test (take (at + 1) all)
all_more test all at x so one lt is before here =
    ap (λ (b : Bool). b && one) before ∙ ap (λ (b : Bool). list_all test (take at all) && b) (here ∙ ap test is) ∙ sym (list_all_more test all at x lt)

-- one row more is read
pub read_more : {X Y : Type 0} (h : X → Y) (ys : List Y) (y : Y) (rows : List X) (k : ℕ) (row : X) → k < length rows → row ≡ get_or rows k row
    → ys ≡ map h (take k rows) → y ≡ h row → ys ++ y ∷ [] ≡ map h (take (k + 1) rows)
read_more {X} h ys y rows k row lt at was is =
    ap (λ l. l ++ y ∷ []) was ∙ ap (λ z. map h (take k rows) ++ z ∷ []) is ∙ sym (map-append h (take k rows) (row ∷ []))
    ∙ ap (map h) (ap (λ (z : X). take k rows ++ z ∷ []) at ∙ sym (take_more rows k row lt))

-- the list of what the first come to, with one more
pub map_more : {X Y : Type 0} (f : X → Y) (xs : List X) (k : ℕ) (x : X) → k < length xs → x ≡ get_or xs k x → map f (take k xs) ++ f x ∷ [] ≡ map f (take (k + 1) xs)
map_more f xs k x lt at = read_more f (map f (take k xs)) (f x) xs k x lt at refl refl

-- each of the first comes to one of these, and so does one more
pub zip_more : {X Y : Type 0} (R : Y → Y → Type 0) (f : X → Y) (xs : List X) (k : ℕ) (x : X) (ys : List Y) (y : Y) → k < length xs → x ≡ get_or xs k x
    → AllZip R (map f (take k xs)) ys → R (f x) y → AllZip R (map f (take (k + 1) xs)) (ys ++ y ∷ [])
zip_more {Y = Y} R f xs k x ys y lt at was one =
    subst (λ (l : List Y). AllZip R l (ys ++ y ∷ [])) (map_more f xs k x lt at) (AllZip-push R (map f (take k xs)) ys (f x) y was one)

-- those of the first that pass, with one more
pub filter_more : {X : Type 0} (p : X → Bool) (xs : List X) (k : ℕ) (x : X) → k < length xs → x ≡ get_or xs k x
    → filter p (take k xs) ++ filter p (x ∷ []) ≡ filter p (take (k + 1) xs)
filter_more {X} p xs k x lt at =
    sym (filter-append p (take k xs) (x ∷ [])) ∙ ap (filter p) (ap (λ (z : X). take k xs ++ z ∷ []) at ∙ sym (take_more xs k x lt))

-- two lists behind one another
pub zip_both : {X : Type 0} (R : X → X → Type 0) (ws xs bs ys : List X) → AllZip R ws xs → AllZip R bs ys → AllZip R (ws ++ bs) (xs ++ ys)
zip_both R [] [] bs ys one two = two
zip_both R (w ∷ ws) (x ∷ xs) bs ys one two = (one.0, zip_both R ws xs bs ys one.1 two)
zip_both R [] (x ∷ xs) bs ys one two = absurd one
zip_both R (w ∷ ws) [] bs ys one two = absurd one

-- one more of those so far
pub take_one : {X : Type 0} (all : List X) (at : ℕ) (x : X) → at < length all → x ≡ get_or all at x → take (at + 1) all ≡ take at all ++ x ∷ []
take_one all at x lt is = take_more all at x lt ∙ ap (λ z. take at all ++ z ∷ []) (sym is)

-- what is found in those so far, with one more
pub fold_more : {X Y : Type 0} (f : Y → X → Y) (y : Y) (xs : List X) (k : ℕ) (x : X) → k < length xs → x ≡ get_or xs k x → f (fold f y (take k xs)) x ≡ fold f y (take (k + 1) xs)
fold_more f y xs k x lt at = sym (fold_push f y (take k xs) x) ∙ ap (fold f y) (sym (take_one xs k x lt at))

-- the same of one more, by its place
pub zip_at : {X Y : Type 0} (R : Y → Y → Type 0) (f : X → Y) (xs : List X) (k : ℕ) (d : X) (ys : List Y) (y : Y) → k < length xs
    → AllZip R (map f (take k xs)) ys → R (f (get_or xs k d)) y → AllZip R (map f (take (k + 1) xs)) (ys ++ y ∷ [])
zip_at {Y = Y} R f xs k d ys y lt was one =
    subst (λ (l : List Y). AllZip R l (ys ++ y ∷ [])) (sym (map-append f (take k xs) (get_or xs k d ∷ [])) ∙ ap (map f) (sym (take_more xs k d lt)))
    (AllZip-push R (map f (take k xs)) ys (f (get_or xs k d)) y was one)

-- three texts behind one another
pub three : (old a b c one two new : List ℕ) → one ≡ old ++ a → two ≡ one ++ b → new ≡ two ++ c → new ≡ old ++ (a ++ (b ++ c))
three old a b c one two new p q r =
    r ∙ ap (λ (l : List ℕ). l ++ c) (q ∙ ap (λ (l : List ℕ). l ++ b) p) ∙ append_assoc (old ++ a) b c ∙ append_assoc old a (b ++ c)
