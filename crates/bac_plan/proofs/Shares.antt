-- Lists of rows that are shared out among owners, each row to the one whose id it names.
use Rattle.std.proofs.lemmas.List.Concat.{flat_map-append}
use Rattle.std.proofs.Common.{append_assoc, arith, ◌≡◌, ℕ, suc, ◌+◌, ◌<◌, ◌≤◌, ◌==◌, ◌&&◌, ◌||◌, Bool, true, false, if◌then◌else◌, List, [], ◌∷◌, ◌++◌, map, length, get_or, take, refl, sym, ap, ◌∙◌, subst}
use Rattle.std.specs.List.{AllZip, filter, flat_map, list_any}
use Rattle.std.specs.List.Sorted.{IsPermutation}
use Rattle.std.proofs.lemmas.Bool.{cond-true, cond-false, eqb-true, eq-eqb, false≢true}
use Rattle.std.proofs.lemmas.List.{append-nil, map-append, take_more}
use Rattle.std.proofs.lemmas.List.Sorted.{IsPermutation-append, IsPermutation-cons, IsPermutation-middle, IsPermutation-refl, IsPermutation-sym, IsPermutation-trans, length_permutation, list_any-IsPermutation}
use Rattle.std.proofs.lemmas.List.Elements.{filter-append, filter_agree}
use Rattle.sqlite_trees.proofs.ListLemmas.{IsPermutation-filter}

-- ---- filters

-- what passes two tests passes both at once
pub filter_twice : {X : Type 0} (p q : X → Bool) (xs : List X) → filter p (filter q xs) ≡ filter (λ x. q x && p x) xs
filter_twice p q [] = refl
filter_twice {X = X} p q (x ∷ xs) = by (q x) refl (filter_twice p q xs)
  where
    by : (b : Bool) → q x ≡ b → filter p (filter q xs) ≡ filter (λ y. q y && p y) xs → filter p (filter q (x ∷ xs)) ≡ filter (λ y. q y && p y) (x ∷ xs)
    by true is rest = rw is (ap (λ (l : List X). if p x then x ∷ l else l) rest)
    by false is rest = rw is rest

-- none passes what none can
filter_none : {X : Type 0} (p : X → Bool) → ((x : X) → p x ≡ false) → (xs : List X) → filter p xs ≡ []
filter_none p fails [] = refl
filter_none p fails (x ∷ xs) = cond-false (p x) (x ∷ filter p xs) (filter p xs) (fails x) ∙ filter_none p fails xs

-- two functions that agree on what passes a test
pub map_passing : {X Y : Type 0} (p : X → Bool) (f g : X → Y) → ((x : X) → p x ≡ true → f x ≡ g x) → (xs : List X) → map f (filter p xs) ≡ map g (filter p xs)
map_passing p f g same [] = refl
map_passing {Y = Y} p f g same (x ∷ xs) = by (p x) refl (map_passing p f g same xs)
  where
    by : (b : Bool) → p x ≡ b → map f (filter p xs) ≡ map g (filter p xs) → map f (filter p (x ∷ xs)) ≡ map g (filter p (x ∷ xs))
    by true is rest = rw is (ap (λ (y : Y). y ∷ map f (filter p xs)) (same x is) ∙ ap (λ (l : List Y). g x ∷ l) rest)
    by false is rest = rw is rest

-- a test of any that pass another is one of both
pub any_passing : {X : Type 0} (p q : X → Bool) (xs : List X) → list_any p (filter q xs) ≡ list_any (λ x. p x && q x) xs
any_passing p q [] = refl
any_passing p q (x ∷ xs) = by (p x) (q x) refl refl (any_passing p q xs)
  where
    by : (a b : Bool) → p x ≡ a → q x ≡ b → list_any p (filter q xs) ≡ list_any (λ y. p y && q y) xs → list_any p (filter q (x ∷ xs)) ≡ list_any (λ y. p y && q y) (x ∷ xs)
    by true true one two rest = rw (two, one) refl
    by false true one two rest = rw (two, one) rest
    by true false one two rest = rw (two, one) rest
    by false false one two rest = rw (two, one) rest

-- ---- what passes one of two tests that exclude one another

apart : {X : Type 0} (p a b : X → Bool) → ((x : X) → a x ≡ true → b x ≡ false) → (xs : List X)
    → IsPermutation (filter (λ x. p x && (a x || b x)) xs) (filter (λ x. p x && a x) xs ++ filter (λ x. p x && b x) xs)
apart p a b out [] = IsPermutation-refl []
apart p a b out (x ∷ xs) = by (p x) (a x) (b x) refl refl refl (apart p a b out xs)
  where
    by : (c d e : Bool) → p x ≡ c → a x ≡ d → b x ≡ e
        → IsPermutation (filter (λ y. p y && (a y || b y)) xs) (filter (λ y. p y && a y) xs ++ filter (λ y. p y && b y) xs)
        → IsPermutation (filter (λ y. p y && (a y || b y)) (x ∷ xs)) (filter (λ y. p y && a y) (x ∷ xs) ++ filter (λ y. p y && b y) (x ∷ xs))
    by false d e is one two all = rw is all
    by true true false is one two all = rw (is, one, two) (IsPermutation-cons x _ _ all)
    by true false true is one two all = rw (is, one, two)
        (IsPermutation-trans _ _ _ (IsPermutation-cons x _ _ all) (IsPermutation-sym _ _ (IsPermutation-middle (filter (λ y. p y && a y) xs) x (filter (λ y. p y && b y) xs))))
    by true false false is one two all = rw (is, one, two) all
    by true true true is one two all = absurd (false≢true (sym (out x one) ∙ two))

-- ---- shares

-- no two owners have one id
abbrev pub HaveOwnIds : {D : Type 0} → (D → ℕ) → List D → Type 0
HaveOwnIds id ds = (k : ℕ) → length (filter (λ d. id d == k) ds) ≤ 1

own_behind : {D : Type 0} (id : D → ℕ) (d : D) (ds : List D) → HaveOwnIds id (d ∷ ds) → HaveOwnIds id ds
own_behind id d ds own k = by (id d == k) (own k)
  where
    by : (b : Bool) → length (if b then d ∷ filter (λ e. id e == k) ds else filter (λ e. id e == k) ds) ≤ 1 → length (filter (λ e. id e == k) ds) ≤ 1
    by true h = omega (arith, h)
    by false h = h

-- where one has an id no other one has it
first_alone : {D : Type 0} (id : D → ℕ) (d : D) (ds : List D) → HaveOwnIds id (d ∷ ds) → filter (λ e. id e == id d) ds ≡ []
first_alone id d ds own =
    let h : length (if id d == id d then d ∷ filter (λ e. id e == id d) ds else filter (λ e. id e == id d) ds) ≤ 1 = own (id d) in
    let is : (id d == id d) ≡ true = eq-eqb (id d) (id d) refl in
    let f : suc (length (filter (λ e. id e == id d) ds)) ≤ 1 = rw is at h in
    none_left (filter (λ e. id e == id d) ds) (omega (arith, f))
  where
    none_left : {X : Type 0} (xs : List X) → length xs ≤ 0 → xs ≡ []
    none_left [] h = refl
    none_left (x ∷ xs) h = absurd (omega (arith, h))

none_any : {X : Type 0} (p : X → Bool) (xs : List X) → filter p xs ≡ [] → list_any p xs ≡ false
none_any p [] is = refl
none_any p (x ∷ xs) is = by (p x) refl is (none_any p xs)
  where
    by : (b : Bool) → p x ≡ b → (if b then x ∷ filter p xs else filter p xs) ≡ [] → (filter p xs ≡ [] → list_any p xs ≡ false) → list_any p (x ∷ xs) ≡ false
    by true e h more = cc
    by false e h more = rw e (more h)

same_id : {D : Type 0} (id : D → ℕ) (ds : List D) (a b : ℕ) → a ≡ b → list_any (λ e. id e == b) ds ≡ false → list_any (λ e. a == id e) ds ≡ false
same_id id [] a b is none = refl
same_id id (d ∷ ds) a b is none = grind (arith, same_id id ds a b is)

-- each row that passes is the share of exactly one owner
pub each_share : {D L : Type 0} (id : D → ℕ) (of : L → ℕ) (asked : L → Bool) (ds : List D) (ls : List L) → HaveOwnIds id ds
    → IsPermutation (filter (λ l. asked l && list_any (λ d. of l == id d) ds) ls) (flat_map (λ d. filter (λ l. asked l && (of l == id d)) ls) ds)
each_share id of asked [] ls own =
    subst (λ xs. IsPermutation xs []) (sym (filter_none (λ l. asked l && false) (λ l. grind arith) ls)) (IsPermutation-refl [])
each_share id of asked (d ∷ ds) ls own =
    IsPermutation-trans _ _ _
    (apart asked (λ l. of l == id d) (λ l. list_any (λ e. of l == id e) ds)
    (λ l is. same_id id ds (of l) (id d) (eqb-true (of l) (id d) is) (none_any (λ e. id e == id d) ds (first_alone id d ds own))) ls)
    (IsPermutation-append _ _ _ _ (IsPermutation-refl (filter (λ l. asked l && (of l == id d)) ls)) (each_share id of asked ds ls (own_behind id d ds own)))

-- ---- lists beside one another

-- one more on both sides
pub zip_more : {A B : Type 0} (R : A → B → Type 0) (xs : List A) (ys : List B) (x : A) (y : B) → AllZip R xs ys → R x y → AllZip R (xs ++ x ∷ []) (ys ++ y ∷ [])
zip_more R [] [] x y all one = (one, tt)
zip_more R [] (b ∷ ys) x y all one = elim all [ ]
zip_more R (a ∷ xs) [] x y all one = elim all [ ]
zip_more R (a ∷ xs) (b ∷ ys) x y all one = (all.0, zip_more R xs ys x y all.1 one)

-- what each gives is what the one beside it gives
pub zip_map : {A B C : Type 0} (R : A → B → Type 0) (f : A → C) (g : B → C) → ((a : A) (b : B) → R a b → g b ≡ f a) → (xs : List A) (ys : List B) → AllZip R xs ys → map g ys ≡ map f xs
zip_map R f g same [] [] all = refl
zip_map R f g same [] (b ∷ ys) all = elim all [ ]
zip_map R f g same (a ∷ xs) [] all = elim all [ ]
zip_map {C = C} R f g same (a ∷ xs) (b ∷ ys) all = ap (λ (c : C). c ∷ map g ys) (same a b all.0) ∙ ap (λ (l : List C). f a ∷ l) (zip_map R f g same xs ys all.1)

-- and so of lists
pub zip_flat : {A B C : Type 0} (R : A → B → Type 0) (f : A → List C) (g : B → List C) → ((a : A) (b : B) → R a b → g b ≡ f a) → (xs : List A) (ys : List B) → AllZip R xs ys → flat_map g ys ≡ flat_map f xs
zip_flat R f g same [] [] all = refl
zip_flat R f g same [] (b ∷ ys) all = elim all [ ]
zip_flat R f g same (a ∷ xs) [] all = elim all [ ]
zip_flat {C = C} R f g same (a ∷ xs) (b ∷ ys) all = ap (λ (c : List C). c ++ flat_map g ys) (same a b all.0) ∙ ap (λ (l : List C). f a ++ l) (zip_flat R f g same xs ys all.1)

-- a list of lists whose elements are mapped
pub map_flat : {A B C : Type 0} (f : B → C) (g : A → List B) (xs : List A) → map f (flat_map g xs) ≡ flat_map (λ a. map f (g a)) xs
map_flat f g [] = refl
map_flat {C = C} f g (x ∷ xs) = map-append f (g x) (flat_map g xs) ∙ ap (λ (l : List C). map f (g x) ++ l) (map_flat f g xs)

-- ---- all of them

flat_same : {A B : Type 0} (f g : A → List B) → ((a : A) → f a ≡ g a) → (xs : List A) → flat_map f xs ≡ flat_map g xs
flat_same f g same [] = refl
flat_same {B = B} f g same (x ∷ xs) = ap (λ (l : List B). l ++ flat_map f xs) (same x) ∙ ap (λ (l : List B). g x ++ l) (flat_same f g same xs)

and_turned : (a b : Bool) → (a && b) ≡ (b && a)
and_turned true true = refl
and_turned true false = refl
and_turned false true = refl
and_turned false false = refl

pub filter_turned : {X : Type 0} (p q : X → Bool) (xs : List X) → filter p (filter q xs) ≡ filter q (filter p xs)
filter_turned p q xs = filter_twice p q xs ∙ filter_agree (λ x. q x && p x) (λ x. p x && q x) (λ x. and_turned (q x) (p x)) xs ∙ sym (filter_twice q p xs)

fewer : {X : Type 0} (p : X → Bool) (xs : List X) → length (filter p xs) ≤ length xs
fewer p [] = omega arith
fewer p (x ∷ xs) = by (p x) (fewer p xs)
  where
    by : (b : Bool) → length (filter p xs) ≤ length xs → length (if b then x ∷ filter p xs else filter p xs) ≤ suc (length xs)
    by true h = omega (arith, h)
    by false h = omega (arith, h)

own_passing : {D : Type 0} (id : D → ℕ) (polled : D → Bool) (ds : List D) → HaveOwnIds id ds → HaveOwnIds id (filter polled ds)
own_passing {D = D} id polled ds own k =
    let same : filter (λ d. id d == k) (filter polled ds) ≡ filter polled (filter (λ d. id d == k) ds) = filter_turned (λ d. id d == k) polled ds in
    let less : length (filter polled (filter (λ d. id d == k) ds)) ≤ length (filter (λ d. id d == k) ds) = fewer polled (filter (λ d. id d == k) ds) in
    let own : length (filter (λ d. id d == k) ds) ≤ 1 = own k in
    let long : length (filter (λ d. id d == k) (filter polled ds)) ≡ length (filter polled (filter (λ d. id d == k) ds)) = ap (λ (l : List D). length l) same in
    omega (arith, long, less, own)

own_moved : {D : Type 0} (id : D → ℕ) (ds es : List D) → IsPermutation ds es → HaveOwnIds id ds → HaveOwnIds id es
own_moved id ds es moved own k =
    let same : length (filter (λ d. id d == k) es) ≡ length (filter (λ d. id d == k) ds) = length_permutation _ _ (IsPermutation-filter (λ d. id d == k) ds es moved) in
    let own : length (filter (λ d. id d == k) ds) ≤ 1 = own k in
    omega (arith, same, own)

-- Of these rows each that is asked, and names an owner that is polled, is the share of exactly one, in whatever order
-- owners and rows are taken.
pub all_shared : {D L : Type 0} (id : D → ℕ) (of : L → ℕ) (polled : D → Bool) (asked : L → Bool) (ds es : List D) (ls ms : List L)
    → HaveOwnIds id ds → IsPermutation ds es → IsPermutation ls ms
    → IsPermutation (filter (λ l. asked l && list_any (λ d. (of l == id d) && polled d) ds) ls)
    (flat_map (λ d. filter asked (filter (λ l. of l == id d) ms)) (filter polled es))
all_shared {D = D} {L = L} id of polled asked ds es ls ms own devices rows =
    let share : D → List L = λ d. filter (λ l. asked l && (of l == id d)) ms in
    let wanted : L → Bool = λ l. asked l && list_any (λ d. of l == id d) (filter polled es) in
    let same_test : (l : L) → (asked l && list_any (λ d. (of l == id d) && polled d) ds) ≡ (asked l && list_any (λ d. of l == id d) (filter polled es)) =
    λ l. ap (λ (b : Bool). asked l && b) (list_any-IsPermutation (λ d. (of l == id d) && polled d) ds es devices ∙ sym (any_passing (λ d. of l == id d) polled es)) in
    let first : IsPermutation (filter wanted ls) (filter wanted ms) = IsPermutation-filter wanted ls ms rows in
    let second : IsPermutation (filter wanted ms) (flat_map share (filter polled es)) =
    each_share id of asked (filter polled es) ms (own_passing id polled es (own_moved id ds es devices own)) in
    let shares : flat_map share (filter polled es) ≡ flat_map (λ d. filter asked (filter (λ l. of l == id d) ms)) (filter polled es) =
    flat_same share (λ d. filter asked (filter (λ l. of l == id d) ms))
    (λ d. filter_agree (λ l. asked l && (of l == id d)) (λ l. (of l == id d) && asked l) (λ l. and_turned (asked l) (of l == id d)) ms ∙ sym (filter_twice asked (λ l. of l == id d) ms))
    (filter polled es) in
    subst (λ (xs : List L). IsPermutation xs (flat_map (λ d. filter asked (filter (λ l. of l == id d) ms)) (filter polled es)))
    (sym (filter_agree _ wanted same_test ls))
    (subst (λ (xs : List L). IsPermutation (filter wanted ls) xs) shares (IsPermutation-trans _ _ _ first second))

-- one more of those that pass a test, beside what it gives
pub zip_passing : {A B : Type 0} (R : A → B → Type 0) (p : A → Bool) (xs : List A) (ys : List B) (x : A) (y : B) → p x ≡ true
    → AllZip R (filter p xs) ys → R x y → AllZip R (filter p (xs ++ x ∷ [])) (ys ++ y ∷ [])
zip_passing {A = A} R p xs ys x y is all one =
    subst (λ (l : List A). AllZip R l (ys ++ y ∷ []))
    (sym (filter-append p xs (x ∷ []) ∙ ap (λ (l : List A). filter p xs ++ l) (cond-true (p x) (x ∷ []) [] is)))
    (zip_more R (filter p xs) ys x y all one)

-- one that doesn't pass it gives nothing
pub zip_failing : {A B : Type 0} (R : A → B → Type 0) (p : A → Bool) (xs : List A) (ys : List B) (x : A) → p x ≡ false
    → AllZip R (filter p xs) ys → AllZip R (filter p (xs ++ x ∷ [])) ys
zip_failing {A = A} R p xs ys x is all =
    subst (λ (l : List A). AllZip R l ys)
    (sym (filter-append p xs (x ∷ []) ∙ ap (λ (l : List A). filter p xs ++ l) (cond-false (p x) (x ∷ []) [] is) ∙ append-nil (filter p xs))) all

-- what follows of each
pub zip_weaker : {A B : Type 0} (R S : A → B → Type 0) → ((a : A) (b : B) → R a b → S a b) → (xs : List A) (ys : List B) → AllZip R xs ys → AllZip S xs ys
zip_weaker R S more [] [] all = tt
zip_weaker R S more [] (b ∷ ys) all = elim all [ ]
zip_weaker R S more (a ∷ xs) [] all = elim all [ ]
zip_weaker R S more (a ∷ xs) (b ∷ ys) all = (more a b all.0, zip_weaker R S more xs ys all.1)

taken : {A : Type 0} (xs : List A) (i : ℕ) (x : A) → i < length xs → x ≡ get_or xs i x → take (i + 1) xs ≡ take i xs ++ x ∷ []
taken {A = A} xs i x less is = take_more xs i x less ∙ ap (λ (a : A). take i xs ++ a ∷ []) (sym is)

-- the same of one more that is taken of a list
pub zip_taking : {A B : Type 0} (R : A → B → Type 0) (p : A → Bool) (xs : List A) (ys : List B) (i : ℕ) (x : A) (y : B) → i < length xs → x ≡ get_or xs i x
    → p x ≡ true → AllZip R (filter p (take i xs)) ys → R x y → AllZip R (filter p (take (i + 1) xs)) (ys ++ y ∷ [])
zip_taking {A = A} R p xs ys i x y less is passes all one =
    subst (λ (l : List A). AllZip R (filter p l) (ys ++ y ∷ [])) (sym (taken xs i x less is)) (zip_passing R p (take i xs) ys x y passes all one)

pub zip_leaving : {A B : Type 0} (R : A → B → Type 0) (p : A → Bool) (xs : List A) (ys : List B) (i : ℕ) (x : A) → i < length xs → x ≡ get_or xs i x
    → p x ≡ false → AllZip R (filter p (take i xs)) ys → AllZip R (filter p (take (i + 1) xs)) ys
zip_leaving {A = A} R p xs ys i x less is fails all =
    subst (λ (l : List A). AllZip R (filter p l) ys) (sym (taken xs i x less is)) (zip_failing R p (take i xs) ys x fails all)

-- ---- what each of a list gives, one after the other

pub flat_taken : {A B : Type 0} (f : A → List B) (start now next : List B) (xs : List A) (i : ℕ) (x : A) → i < length xs → x ≡ get_or xs i x
    → next ≡ now ++ f x → now ≡ start ++ flat_map f (take i xs) → next ≡ start ++ flat_map f (take (i + 1) xs)
flat_taken {A = A} {B = B} f start now next xs i x less is more so =
    more ∙ ap (λ (l : List B). l ++ f x) so ∙ append_assoc start (flat_map f (take i xs)) (f x)
    ∙ ap (λ (l : List B). start ++ l)
    (sym (ap (λ (l : List A). flat_map f l) (taken xs i x less is) ∙ flat_map-append f (take i xs) (x ∷ []) ∙ ap (λ (l : List B). flat_map f (take i xs) ++ l) (append-nil (f x))))
