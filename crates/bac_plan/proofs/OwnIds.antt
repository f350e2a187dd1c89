-- The rows of a table rise by their ids, so no two of what is told of them have one id.
use Rattle.std.proofs.Common.{◌≡◌, ◌≢◌, ℕ, ℤ, suc, pos, ◌≤◌, ◌==◌, Bool, true, false, List, [], ◌∷◌, map, length, refl, sym, ap, ◌∙◌, arith, is_eq, Equal, Less, eq-eqb}
use Rattle.std.specs.List.{AllByRecursion, Contains, filter}
use Rattle.std.specs.List.Sorted.{IsPermutation}
use Rattle.std.proofs.lemmas.Bool.{eqb-true, cond-true, cond-false}
use Rattle.std.proofs.lemmas.Cmp.{tied_back, tied_itself}
use Rattle.std.proofs.lemmas.List.Sorted.{length_permutation}
use Rattle.sqlite_value.specs.declared.value.Value.TheVariants.{Int}
use Rattle.sqlite_value.specs.Order.{Row as Values, value_cmp}
use Rattle.sqlite_value.proofs.OrderLemmas.{value_cmp_total}
use Rattle.sqlite_trees.specs.Tree.{IsTable, has_rowid, rowid}
use Rattle.sqlite_trees.proofs.ListLemmas.{IsPermutation-filter}
use Rattle.bac_archive.specs.Ask.{shown}
use Rattle.bac_archive.proofs.ReplaceLemmas.{from_eq, in_filter, tied_int}
use Rattle.bac_plan.proofs.Changed.{AreApart}

-- above a row that has this id none has it
none_above : (id : ℤ) (r : Values) (rows : List Values) → has_rowid id r ≡ true → AllByRecursion (λ q. value_cmp (rowid r) (rowid q) ≡ Less) rows → filter (has_rowid id) rows ≡ []
none_above id r [] is all = refl
none_above id r (q ∷ qs) is all = by (has_rowid id q) refl (none_above id r qs is all.1)
  where
    by : (b : Bool) → has_rowid id q ≡ b → filter (has_rowid id) qs ≡ [] → filter (has_rowid id) (q ∷ qs) ≡ []
    by true same rest =
        let one : value_cmp (rowid r) (Int id) ≡ Equal = from_eq _ is in
        let two : value_cmp (rowid q) (Int id) ≡ Equal = from_eq _ same in
        let tied : value_cmp (rowid r) (rowid q) ≡ Equal = value_cmp_total.congr (rowid r) (Int id) (rowid q) one ∙ tied_back value_cmp_total (rowid q) (Int id) two in
        absurd (let e : Less ≡ Equal = sym all.0 ∙ tied in cc)
    by false same rest = rw same rest

few : (id : ℤ) (rows : List Values) → IsTable rows → length (filter (has_rowid id) rows) ≤ 1
few id [] up = omega arith
few id (r ∷ rs) up = by (has_rowid id r) refl (few id rs up.1)
  where
    by : (b : Bool) → has_rowid id r ≡ b → length (filter (has_rowid id) rs) ≤ 1 → length (filter (has_rowid id) (r ∷ rs)) ≤ 1
    by true same rest = rw (same, none_above id r rs same up.0) (omega arith)
    by false same rest = rw same rest

-- a test of what each is mapped to
filter_mapped : {X Y : Type 0} (f : X → Y) (p : X → Bool) (q : Y → Bool) → ((x : X) → q (f x) ≡ p x) → (xs : List X) → length (filter q (map f xs)) ≡ length (filter p xs)
filter_mapped f p q same [] = refl
filter_mapped f p q same (x ∷ xs) = by (p x) refl (filter_mapped f p q same xs)
  where
    by : (b : Bool) → p x ≡ b → length (filter q (map f xs)) ≡ length (filter p xs) → length (filter q (map f (x ∷ xs))) ≡ length (filter p (x ∷ xs))
    by true is rest = rw (same x ∙ is, is) (ap suc rest)
    by false is rest = rw (same x ∙ is, is) rest

same_id : (n m : ℕ) → is_eq (value_cmp (Int (pos n)) (Int (pos m))) ≡ (n == m)
same_id n m = by (n == m) refl
  where
    by : (b : Bool) → (n == m) ≡ b → is_eq (value_cmp (Int (pos n)) (Int (pos m))) ≡ b
    by true is = rw (eqb-true n m is) (ap is_eq (tied_itself value_cmp_total (Int (pos m))))
    by false is = go (is_eq (value_cmp (Int (pos n)) (Int (pos m)))) refl
      where
        go : (c : Bool) → is_eq (value_cmp (Int (pos n)) (Int (pos m))) ≡ c → c ≡ false
        go false tied = refl
        go true tied =
            let both : pos n ≡ pos m = tied_int (pos n) (pos m) (from_eq _ tied) in
            let same : n ≡ m = cc in
            absurd (let e : true ≡ false = sym (eq-eqb n m same) ∙ is in cc)

module _ {X : Type 0} (id : X → ℕ) (columns : X → Values) (first : (x : X) → rowid (columns x) ≡ Int (pos (id x))) (n : ℕ) where
  pub own_ids : (rows : List Values) (xs : List X) → IsPermutation (map (shown n) rows) (map columns xs) → IsTable rows → (k : ℕ) → length (filter (λ x. id x == k) xs) ≤ 1
  own_ids rows xs told up k =
      let mine : length (filter (has_rowid (pos k)) (map columns xs)) ≡ length (filter (λ x. id x == k) xs) =
      filter_mapped columns (λ x. id x == k) (has_rowid (pos k)) (λ x. ap (λ v. is_eq (value_cmp v (Int (pos k)))) (first x) ∙ same_id (id x) k) xs in
      let theirs : length (filter (has_rowid (pos k)) (map (shown n) rows)) ≡ length (filter (has_rowid (pos k)) rows) = filter_mapped (shown n) (has_rowid (pos k)) (has_rowid (pos k)) (λ r. refl) rows in
      let both : length (filter (has_rowid (pos k)) (map (shown n) rows)) ≡ length (filter (has_rowid (pos k)) (map columns xs)) = sym (length_permutation _ _ (IsPermutation-filter (has_rowid (pos k)) _ _ told)) in
      omega (arith, mine, theirs, both, few (pos k) rows up)

-- so they are apart
counted : {X : Type 0} (p : X → Bool) (xs : List X) (x : X) → Contains xs x → p x ≡ true → 1 ≤ length (filter p xs)
counted p xs x there has = omega (arith, (in_filter p xs x there has).1)

pub apart_of : {X : Type 0} (id : X → ℕ) (xs : List X) → ((k : ℕ) → length (filter (λ x. id x == k) xs) ≤ 1) → AreApart id xs
apart_of id [] own = tt
apart_of id (x ∷ xs) own = (other, apart_of id xs fewer)
  where
    other : (y : _) → Contains xs y → id y ≢ id x
    other y there same =
        let here : length (filter (λ z. id z == id x) (x ∷ xs)) ≡ suc (length (filter (λ z. id z == id x) xs)) = ap length (cond-true (id x == id x) _ _ (eq-eqb (id x) (id x) refl)) in
        omega (arith, here, own (id x), counted (λ z. id z == id x) xs y there (eq-eqb (id y) (id x) same))

    fewer : (k : ℕ) → length (filter (λ z. id z == k) xs) ≤ 1
    fewer k = by (id x == k) refl (own k)
      where
        by : (b : Bool) → (id x == k) ≡ b → length (filter (λ z. id z == k) (x ∷ xs)) ≤ 1 → length (filter (λ z. id z == k) xs) ≤ 1
        by true is all = omega (arith, all, ap length (cond-true (id x == k) (x ∷ filter (λ z. id z == k) xs) (filter (λ z. id z == k) xs) is))
        by false is all = omega (arith, all, ap length (cond-false (id x == k) (x ∷ filter (λ z. id z == k) xs) (filter (λ z. id z == k) xs) is))
