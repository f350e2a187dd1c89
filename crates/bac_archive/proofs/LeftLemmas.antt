-- What is there after a row is put among others, or in place of one.
use Rattle.std.proofs.Common.{◌≡◌, ◌⊎◌, inl, inr, ℤ, zero, suc, Bool, true, false, not, ◌&&◌, List, [], ◌∷◌, refl, sym, ap, subst, ◌∙◌, arith, ◌||◌, Equal, is_eq}
use Rattle.std.specs.List.{Contains, filter, list_any}
use Rattle.std.proofs.lemmas.Bool.{and_parts, both_ways}
use Rattle.std.proofs.lemmas.Cmp.{tied_back}
use Rattle.std.proofs.lemmas.List.Sorted.{IsPermutation-sym, Contains-permutation}
use Rattle.sqlite_value.specs.declared.value.Value.TheVariants.{Int}
use Rattle.sqlite_value.specs.Order.{Row as Values, column, value_cmp}
use Rattle.sqlite_value.proofs.OrderLemmas.{value_cmp_total}
use Rattle.sqlite_rules.specs.Edit.{is_taken}
use Rattle.sqlite_trees.specs.Tree.{rowid, has_rowid, put_row, without_rowid}
use Rattle.bac_archive.specs.Put.{HaveOwnIds, is_counted, lowered, replaced}
use Rattle.bac_archive.proofs.ReplaceLemmas.{any_of, from_eq, from_filter, in_filter, put_permutes, tied_int}

pub later : (new row : Values) (rows : List Values) → Contains rows row → Contains (new ∷ rows) row
later new row rows (i, lt, is) = (suc i, omega (arith, lt), is)

-- what is there after a new row
pub put_has : (new : Values) (rows : List Values) → is_taken rows new ≡ false → (row : Values) → Contains rows row → Contains (put_row new rows) row
put_has new rows free row there = Contains-permutation _ _ row (put_permutes new rows free) (later new row rows there)

pub put_is : (new : Values) (rows : List Values) → is_taken rows new ≡ false → Contains (put_row new rows) new
put_is new rows free = Contains-permutation _ _ new (put_permutes new rows free) (0, omega arith, refl)

pub from_put : (new : Values) (rows : List Values) → is_taken rows new ≡ false → (row : Values) → Contains (put_row new rows) row → (new ≡ row) ⊎ Contains rows row
from_put new rows free row there = go (Contains-permutation _ _ row (IsPermutation-sym _ _ (put_permutes new rows free)) there)
  where
    go : Contains (new ∷ rows) row → (new ≡ row) ⊎ Contains rows row
    go (zero, lt, is) = inl is
    go (suc i, lt, is) = inr (i, omega (arith, lt), is)

-- a row has this id
abbrev pub HasInt : List Values → ℤ → Type 0
HasInt rows id = (row : Values) × Contains rows row × (column row 0 ≡ Int id)

pub has_put : (new : Values) (rows : List Values) → is_taken rows new ≡ false → (n : ℤ) → HasInt rows n → HasInt (put_row new rows) n
has_put new rows free n (row, there, at) = (row, put_has new rows free row there, at)

-- the rows without an id have no row with it
pub none_taken : (id : ℤ) (new : Values) → rowid new ≡ Int id → (rows : List Values) → is_taken (without_rowid id rows) new ≡ false
none_taken id new is rows = subst (λ v. list_any (λ r. is_eq (value_cmp (rowid r) v)) (without_rowid id rows) ≡ false) (sym is) (none rows)
  where
    none : (rows : List Values) → list_any (λ r. is_eq (value_cmp (rowid r) (Int id))) (filter (λ r. not (has_rowid id r)) rows) ≡ false
    none [] = refl
    none (r ∷ rows) = go (has_rowid id r) refl (none rows)
      where
        go : (b : Bool) → has_rowid id r ≡ b → list_any (λ r. is_eq (value_cmp (rowid r) (Int id))) (filter (λ r. not (has_rowid id r)) rows) ≡ false
            → list_any (λ r. is_eq (value_cmp (rowid r) (Int id))) (filter (λ r. not (has_rowid id r)) (r ∷ rows)) ≡ false
        go true same rest = rw same rest
        go false same rest = rw (same, same) rest

-- what a test finds is there
from_any : (p : Values → Bool) (rows : List Values) → list_any p rows ≡ true → (row : Values) × Contains rows row × (p row ≡ true)
from_any p [] some = absurd (let e = some in cc)
from_any p (r ∷ rows) some = go (p r) refl some (from_any p rows)
  where
    go : (b : Bool) → p r ≡ b → (b || list_any p rows) ≡ true → (list_any p rows ≡ true → (row : Values) × Contains rows row × (p row ≡ true)) → (row : Values) × Contains (r ∷ rows) row × (p row ≡ true)
    go true is some rest = (r, (0, omega arith, refl), is)
    go false is some rest = let it = rest some in (it.0, later r it.0 rows it.1, it.2)

-- a row took the place of the one with its id, or there was none that it might
abbrev pub TakesPlace : ℤ → Values → List Values → List Values → Type 0
TakesPlace id new rows left = (left ≡ put_row new (without_rowid id rows)) ⊎ (left ≡ rows)

pub replaced_takes : (id : ℤ) (new : Values) → rowid new ≡ Int id → (rows : List Values) → TakesPlace id new rows (replaced new rows)
replaced_takes id new is rows = go (is_taken rows new) refl
  where
    go : (b : Bool) → is_taken rows new ≡ b → TakesPlace id new rows (replaced new rows)
    go true same = inl (rw (same, is) refl)
    go false same = inr (rw same refl)

abbrev any_counted : Values → List Values → Bool
any_counted new = list_any (λ r. is_eq (value_cmp (rowid r) (rowid new)) && is_counted r)

pub lowered_takes : (id : ℤ) (new : Values) → rowid new ≡ Int id → (rows : List Values) → TakesPlace id new rows (lowered new rows)
lowered_takes id new is rows = go (any_counted new rows) refl
  where
    go : (b : Bool) → any_counted new rows ≡ b → TakesPlace id new rows (lowered new rows)
    go true same = inl (rw (same, is) refl)
    go false same = inr (rw same refl)

-- each row that is there then is the new one, or was there
pub from_left : (id : ℤ) (new : Values) → rowid new ≡ Int id → (rows left : List Values) → TakesPlace id new rows left → (row : Values) → Contains left row → (new ≡ row) ⊎ Contains rows row
from_left id new is rows left (inl same) row there = back (from_put new (without_rowid id rows) (none_taken id new is rows) row (subst (λ l. Contains l row) same there))
  where
    back : (new ≡ row) ⊎ Contains (without_rowid id rows) row → (new ≡ row) ⊎ Contains rows row
    back (inl same) = inl same
    back (inr other) = inr (from_filter (λ r. not (has_rowid id r)) rows row other).0
from_left id new is rows left (inr same) row there = inr (subst (λ l. Contains l row) same there)

-- each id stays
pub has_left : (id : ℤ) (new : Values) → rowid new ≡ Int id → (rows left : List Values) → TakesPlace id new rows left → (n : ℤ) → HasInt rows n → HasInt left n
has_left id new is rows left (inl same) n (row, there, at) = subst (λ l. HasInt l n) (sym same) (tied (has_rowid id row) refl)
  where
    free : is_taken (without_rowid id rows) new ≡ false
    free = none_taken id new is rows

    tied : (b : Bool) → has_rowid id row ≡ b → HasInt (put_row new (without_rowid id rows)) n
    tied true same =
        let one : value_cmp (Int n) (Int id) ≡ Equal = subst (λ v. value_cmp v (Int id) ≡ Equal) at (from_eq _ same) in
        (new, put_is new (without_rowid id rows) free, is ∙ ap Int (sym (tied_int n id one)))
    tied false same = (row, put_has new (without_rowid id rows) free row (in_filter (λ r. not (has_rowid id r)) rows row there (ap not same)), at)
has_left id new is rows left (inr same) n has = subst (λ l. HasInt l n) (sym same) has

-- ---- ids stay each once

pub own_behind : (new : Values) (rows : List Values) → is_taken rows new ≡ false → HaveOwnIds rows → HaveOwnIds (put_row new rows)
own_behind new rows free own one two first second same = go (from_put new rows free one first) (from_put new rows free two second)
  where
    taken : (row : Values) → Contains rows row → is_eq (value_cmp (rowid row) (rowid new)) ≡ true → ⊥
    taken row there tied = both_ways _ free (any_of (λ r. is_eq (value_cmp (rowid r) (rowid new))) rows row there tied)

    turned : (a b : Values) → is_eq (value_cmp (rowid a) (rowid b)) ≡ true → is_eq (value_cmp (rowid b) (rowid a)) ≡ true
    turned a b tied = ap is_eq (tied_back value_cmp_total (rowid a) (rowid b) (from_eq _ tied))

    go : (new ≡ one) ⊎ Contains rows one → (new ≡ two) ⊎ Contains rows two → one ≡ two
    go (inl a) (inl b) = sym a ∙ b
    go (inl a) (inr b) = absurd (taken two b (turned new two (subst (λ r. is_eq (value_cmp (rowid r) (rowid two)) ≡ true) (sym a) same)))
    go (inr a) (inl b) = absurd (taken one a (subst (λ r. is_eq (value_cmp (rowid one) (rowid r)) ≡ true) (sym b) same))
    go (inr a) (inr b) = own one two a b same

pub own_left : (id : ℤ) (new : Values) → rowid new ≡ Int id → (rows left : List Values) → TakesPlace id new rows left → HaveOwnIds rows → HaveOwnIds left
own_left id new is rows left (inl same) own = subst HaveOwnIds (sym same) (own_behind new (without_rowid id rows) (none_taken id new is rows) fewer)
  where
    fewer : HaveOwnIds (without_rowid id rows)
    fewer one two first second tied =
        own one two (from_filter (λ r. not (has_rowid id r)) rows one first).0 (from_filter (λ r. not (has_rowid id r)) rows two second).0 tied
own_left id new is rows left (inr same) own = subst HaveOwnIds (sym same) own

-- a beginning that wasn't counted stays
pub kept_lowered : (id : ℤ) (new : Values) → rowid new ≡ Int id → (rows : List Values) (row : Values) → HaveOwnIds rows → is_counted row ≡ false → Contains rows row → Contains (lowered new rows) row
kept_lowered id new is rows row own uncounted there = go (any_counted new rows) refl
  where
    -- one that was counted isn't this one
    apart : (b : Bool) → has_rowid id row ≡ b → any_counted new rows ≡ true → Contains (put_row new (without_rowid id rows)) row
    apart true same some =
        let it = from_any (λ r. is_eq (value_cmp (rowid r) (rowid new)) && is_counted r) rows some in
        let both = and_parts (is_eq (value_cmp (rowid it.0) (rowid new))) (is_counted it.0) it.2 in
        let one : value_cmp (rowid row) (Int id) ≡ Equal = from_eq _ same in
        let two : value_cmp (rowid it.0) (Int id) ≡ Equal = subst (λ v. value_cmp (rowid it.0) v ≡ Equal) is (from_eq _ both.0) in
        let tied : value_cmp (rowid row) (rowid it.0) ≡ Equal = value_cmp_total.congr (rowid row) (Int id) (rowid it.0) one ∙ tied_back value_cmp_total (rowid it.0) (Int id) two in
        absurd (both_ways _ uncounted (ap is_counted (own row it.0 there it.1 (ap is_eq tied)) ∙ both.1))
    apart false same some = put_has new (without_rowid id rows) (none_taken id new is rows) row (in_filter (λ r. not (has_rowid id r)) rows row there (ap not same))

    go : (b : Bool) → any_counted new rows ≡ b → Contains (lowered new rows) row
    go true some = rw (some, is) (apart (has_rowid id row) refl some)
    go false none = rw none there
