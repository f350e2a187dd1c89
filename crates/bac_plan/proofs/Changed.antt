-- Rows that are put in place of those with their ids, and new ones: each is there then, and so is each other row.
use Rattle.std.proofs.Common.{◌≡◌, ◌≢◌, ℕ, ℤ, zero, suc, pos, ◌+◌, ◌==◌, Bool, true, false, if◌then◌else◌, not, List, [], ◌∷◌, ◌++◌, map, refl, sym, ap, subst, ◌∙◌, arith, is_eq, Equal}
use Rattle.std.specs.List.{Contains, flat_map}
use Rattle.std.proofs.lemmas.Bool.{cond-true, cond-false, eq-eqb}
use Rattle.std.proofs.lemmas.Cmp.{tied_itself}
use Rattle.sqlite_value.proofs.OrderLemmas.{value_cmp_total}
use Rattle.sqlite_value.specs.declared.value.Value.TheVariants.{Int}
use Rattle.sqlite_value.specs.Order.{Row as Values, column, value_cmp}
use Rattle.sqlite_rules.specs.Edit.{is_taken}
use Rattle.sqlite_trees.specs.Tree.{rowid, has_rowid, put_row, without_rowid}
use Rattle.bac_archive.specs.Put.{replaced}
use Rattle.bac_archive.proofs.LeftLemmas.{none_taken, put_has, put_is}
use Rattle.bac_archive.proofs.ReplaceLemmas.{any_of, from_eq, in_filter, tied_int}
use Rattle.bac_device_poller.specs.Puts.{PutAs}

-- ---- one row

-- a row with another id stays
other_id : (n m : ℤ) (r : Values) → rowid r ≡ Int n → (n ≡ m → ⊥) → has_rowid m r ≡ false
other_id n m r is apart = go (has_rowid m r) refl
  where
    go : (b : Bool) → has_rowid m r ≡ b → b ≡ false
    go false same = refl
    go true same = absurd (apart (tied_int n m (subst (λ v. value_cmp v (Int m) ≡ Equal) is (from_eq _ same))))

pub stays_beside : (n m : ℤ) (new r : Values) (rows : List Values) → rowid new ≡ Int m → rowid r ≡ Int n → (n ≡ m → ⊥) → Contains rows r → Contains (replaced new rows) r
stays_beside n m new r rows of_new of_row apart there = go (is_taken rows new) refl
  where
    go : (b : Bool) → is_taken rows new ≡ b → Contains (replaced new rows) r
    go false same = rw same there
    go true same = rw (same, of_new) (put_has new (without_rowid m rows) (none_taken m new of_new rows) r (in_filter (λ q. not (has_rowid m q)) rows r there (ap not (other_id n m r of_row apart))))

-- the row that takes the place of one is there
pub comes_instead : (m : ℤ) (new r : Values) (rows : List Values) → rowid new ≡ Int m → rowid r ≡ Int m → Contains rows r → Contains (replaced new rows) new
comes_instead m new r rows of_new of_row there =
    let taken : is_taken rows new ≡ true = any_of (λ q. is_eq (value_cmp (rowid q) (rowid new))) rows r there (rw (of_new, of_row) (same_int m)) in
    rw (taken, of_new) (put_is new (without_rowid m rows) (none_taken m new of_new rows))
  where
    same_int : (k : ℤ) → is_eq (value_cmp (Int k) (Int k)) ≡ true
    same_int k = ap is_eq (tied_itself value_cmp_total (Int k))

-- ---- many rows

-- what such puts leave of the table at a place, where a row is stored so
abbrev pub put_in : (tree : ℕ) → (Values → Values) → List Values → PutAs → List Values
put_in tree stored rows p = if p.tree == tree then (if p.is_new then put_row (stored p.columns) rows else replaced (stored p.columns) rows) else rows

abbrev pub left_in : (tree : ℕ) → (Values → Values) → List Values → List PutAs → List Values
left_in tree stored rows [] = rows
left_in tree stored rows (p ∷ ps) = left_in tree stored (put_in tree stored rows p) ps

pub left_append : (tree : ℕ) (stored : Values → Values) (ps qs : List PutAs) (rows : List Values) → left_in tree stored rows (ps ++ qs) ≡ left_in tree stored (left_in tree stored rows ps) qs
left_append tree stored [] qs rows = refl
left_append tree stored (p ∷ ps) qs rows = left_append tree stored ps qs (put_in tree stored rows p)

-- each of them that is new finds no row with its id
abbrev pub IsFreeIn : (tree : ℕ) → (Values → Values) → List Values → PutAs → Type 0
IsFreeIn tree stored rows p = p.tree ≡ tree → p.is_new ≡ true → is_taken rows (stored p.columns) ≡ false

abbrev pub AreFreeIn : (tree : ℕ) → (Values → Values) → List Values → List PutAs → Type 0
AreFreeIn tree stored rows [] = Unit {0}
AreFreeIn tree stored rows (p ∷ ps) = IsFreeIn tree stored rows p × AreFreeIn tree stored (put_in tree stored rows p) ps

pub free_apart : (tree : ℕ) (stored : Values → Values) (ps qs : List PutAs) (rows : List Values) → AreFreeIn tree stored rows (ps ++ qs)
    → AreFreeIn tree stored (left_in tree stored rows ps) qs
free_apart tree stored [] qs rows free = free
free_apart tree stored (p ∷ ps) qs rows free = free_apart tree stored ps qs (put_in tree stored rows p) free.1

pub free_front : (tree : ℕ) (stored : Values → Values) (ps qs : List PutAs) (rows : List Values) → AreFreeIn tree stored rows (ps ++ qs) → AreFreeIn tree stored rows ps
free_front tree stored [] qs rows free = tt
free_front tree stored (p ∷ ps) qs rows free = (free.0, free_front tree stored ps qs (put_in tree stored rows p) free.1)

-- rows of another table change nothing
abbrev pub AreElsewhere : (tree : ℕ) → List PutAs → Type 0
AreElsewhere tree [] = Unit {0}
AreElsewhere tree (p ∷ ps) = ((p.tree == tree) ≡ false) × AreElsewhere tree ps

pub elsewhere_both : (tree : ℕ) (ps qs : List PutAs) → AreElsewhere tree ps → AreElsewhere tree qs → AreElsewhere tree (ps ++ qs)
elsewhere_both tree [] qs one two = two
elsewhere_both tree (p ∷ ps) qs one two = (one.0, elsewhere_both tree ps qs one.1 two)

pub elsewhere_stays : (tree : ℕ) (stored : Values → Values) (ps : List PutAs) (rows : List Values) → AreElsewhere tree ps → left_in tree stored rows ps ≡ rows
elsewhere_stays tree stored [] rows none = refl
elsewhere_stays tree stored (p ∷ ps) rows none =
    ap (λ (r : List Values). left_in tree stored r ps) (cond-false (p.tree == tree) (if p.is_new then put_row (stored p.columns) rows else replaced (stored p.columns) rows) rows none.0)
    ∙ elsewhere_stays tree stored ps rows none.1

module _ {X : Type 0} (tree : ℕ) (stored : Values → Values) (f : X → PutAs) (elsewhere : (x : X) → ((f x).tree == tree) ≡ false) where
  pub mapped_elsewhere : (xs : List X) → AreElsewhere tree (map f xs)
  mapped_elsewhere [] = tt
  mapped_elsewhere (x ∷ xs) = (elsewhere x, mapped_elsewhere xs)

  pub flat_elsewhere : (p : X → Bool) (xs : List X) → AreElsewhere tree (flat_map (λ x. if p x then f x ∷ [] else []) xs)
  flat_elsewhere p [] = tt
  flat_elsewhere p (x ∷ xs) = go (p x) refl (flat_elsewhere p xs)
    where
      go : (b : Bool) → p x ≡ b → AreElsewhere tree (flat_map (λ y. if p y then f y ∷ [] else []) xs) → AreElsewhere tree (flat_map (λ y. if p y then f y ∷ [] else []) (x ∷ xs))
      go true is rest = rw is (elsewhere x, rest)
      go false is rest = rw is rest

-- ---- new rows

module _ {X : Type 0} (tree : ℕ) (stored : Values → Values) (f : X → PutAs) (here : (x : X) → (f x).tree ≡ tree) (new : (x : X) → (f x).is_new ≡ true) where
  put_new : (x : X) (rows : List Values) → put_in tree stored rows (f x) ≡ put_row (stored (f x).columns) rows
  put_new x rows =
      cond-true ((f x).tree == tree) _ rows (eq-eqb (f x).tree tree (here x)) ∙ cond-true (f x).is_new (put_row (stored (f x).columns) rows) (replaced (stored (f x).columns) rows) (new x)

  pub new_beside : (xs : List X) (rows : List Values) → AreFreeIn tree stored rows (map f xs) → (r : Values) → Contains rows r → Contains (left_in tree stored rows (map f xs)) r
  new_beside [] rows free r there = there
  new_beside (x ∷ xs) rows free r there =
      new_beside xs (put_in tree stored rows (f x)) free.1 r
      (subst (λ (l : List Values). Contains l r) (sym (put_new x rows)) (put_has (stored (f x).columns) rows (free.0 (here x) (new x)) r there))

  pub new_comes : (xs : List X) (rows : List Values) → AreFreeIn tree stored rows (map f xs) → (x : X) → Contains xs x → Contains (left_in tree stored rows (map f xs)) (stored (f x).columns)
  new_comes [] rows free x (i, lt, is) = absurd (omega (arith, lt))
  new_comes (y ∷ xs) rows free x (zero, lt, is) =
      subst (λ (z : X). Contains (left_in tree stored (put_in tree stored rows (f y)) (map f xs)) (stored (f z).columns)) is
      (new_beside xs (put_in tree stored rows (f y)) free.1 (stored (f y).columns)
      (subst (λ (l : List Values). Contains l (stored (f y).columns)) (sym (put_new y rows)) (put_is (stored (f y).columns) rows (free.0 (here y) (new y)))))
  new_comes (y ∷ xs) rows free x (suc i, lt, is) = new_comes xs (put_in tree stored rows (f y)) free.1 x (i, omega (arith, lt), is)

-- ---- rows in place of others

-- no two of these have one id
abbrev pub AreApart : {X : Type 0} → (X → ℕ) → List X → Type 0
AreApart id [] = Unit {0}
AreApart id (x ∷ xs) = ((y : _) → Contains xs y → id y ≢ id x) × AreApart id xs

module _ {X : Type 0} (tree : ℕ) (stored shows : Values → Values) (id : X → ℕ) (was now : X → Values) (changed : X → Bool)
    (shown_id : (r : Values) → column (shows r) 0 ≡ rowid r) (was_id : (x : X) → column (was x) 0 ≡ Int (pos (id x)))
    (now_id : (x : X) → rowid (stored (now x)) ≡ Int (pos (id x))) (now_is : (x : X) → shows (stored (now x)) ≡ now x) where
  abbrev pub put_of : X → PutAs
  put_of x = record { tree = tree; is_new = false; columns = now x }

  abbrev pub changes : List X → List PutAs
  changes xs = flat_map (λ x. if changed x then put_of x ∷ [] else []) xs

  -- as it is then
  abbrev pub then_is : X → Values
  then_is x = if changed x then now x else was x

  -- the table shows such a row
  abbrev pub Shows : List Values → Values → Type 0
  Shows rows columns = (r : Values) × Contains rows r × (shows r ≡ columns)

  put_it : (x : X) (rows : List Values) → put_in tree stored rows (put_of x) ≡ replaced (stored (now x)) rows
  put_it x rows = cond-true (tree == tree) (replaced (stored (now x)) rows) rows (eq-eqb tree tree refl)

  -- one step
  first_step : (x : X) (xs : List X) (rows : List Values) → left_in tree stored rows (changes (x ∷ xs)) ≡ left_in tree stored (if changed x then replaced (stored (now x)) rows else rows) (changes xs)
  first_step x xs rows = go (changed x) refl
    where
      go : (b : Bool) → changed x ≡ b → left_in tree stored rows (changes (x ∷ xs)) ≡ left_in tree stored (if changed x then replaced (stored (now x)) rows else rows) (changes xs)
      go true is = rw is (ap (λ (r : List Values). left_in tree stored r (changes xs)) (put_it x rows))
      go false is = rw is refl

  beside_step : (x : X) (rows : List Values) (n : ℕ) (r : Values) → rowid r ≡ Int (pos n) → n ≢ id x → Contains rows r → Contains (if changed x then replaced (stored (now x)) rows else rows) r
  beside_step x rows n r of apart there = go (changed x) refl
    where
      go : (b : Bool) → changed x ≡ b → Contains (if changed x then replaced (stored (now x)) rows else rows) r
      go true is = rw is (stays_beside (pos n) (pos (id x)) (stored (now x)) r rows (now_id x) of (λ same. apart (let e : pos n ≡ pos (id x) = same in cc)) there)
      go false is = rw is there

  -- a row that has none of these ids stays
  pub change_beside : (xs : List X) (rows : List Values) (n : ℕ) (r : Values) → rowid r ≡ Int (pos n) → ((x : X) → Contains xs x → n ≢ id x) → Contains rows r
      → Contains (left_in tree stored rows (changes xs)) r
  change_beside [] rows n r of apart there = there
  change_beside (x ∷ xs) rows n r of apart there =
      subst (λ (l : List Values). Contains l r) (sym (first_step x xs rows))
      (change_beside xs (if changed x then replaced (stored (now x)) rows else rows) n r of (λ y (i, lt, is). apart y (suc i, omega (arith, lt), is))
      (beside_step x rows n r of (apart x (0, omega arith, refl)) there))

  shown_rowid : (x : X) (r : Values) → shows r ≡ was x → rowid r ≡ Int (pos (id x))
  shown_rowid x r is = sym (shown_id r) ∙ ap (λ (v : Values). column v 0) is ∙ was_id x

  -- what is then in its place
  own_step : (x : X) (rows : List Values) → Shows rows (was x) → (r : Values) × Contains (if changed x then replaced (stored (now x)) rows else rows) r × (rowid r ≡ Int (pos (id x))) × (shows r ≡ then_is x)
  own_step x rows (r, there, is) = go (changed x) refl
    where
      go : (b : Bool) → changed x ≡ b → (q : Values) × Contains (if changed x then replaced (stored (now x)) rows else rows) q × (rowid q ≡ Int (pos (id x))) × (shows q ≡ then_is x)
      go true same = rw same (stored (now x), comes_instead (pos (id x)) (stored (now x)) r rows (now_id x) (shown_rowid x r is) there, now_id x, now_is x)
      go false same = rw same (r, there, shown_rowid x r is, is)

  -- each of them is there as it is then
  pub each_changed : (xs : List X) (rows : List Values) → AreApart id xs → ((x : X) → Contains xs x → Shows rows (was x)) → (x : X) → Contains xs x
      → Shows (left_in tree stored rows (changes xs)) (then_is x)
  each_changed [] rows apart all x (i, lt, is) = absurd (omega (arith, lt))
  each_changed (y ∷ ys) rows apart all x (zero, lt, is) =
      let it = own_step y rows (all y (0, omega arith, refl)) in
      let rest = change_beside ys (if changed y then replaced (stored (now y)) rows else rows) (id y) it.0 it.2 (λ z has same. apart.0 z has (sym same)) it.1 in
      subst (λ (z : X). Shows (left_in tree stored rows (changes (y ∷ ys))) (then_is z)) is
      (it.0, subst (λ (l : List Values). Contains l it.0) (sym (first_step y ys rows)) rest, it.3)
  each_changed (y ∷ ys) rows apart all x (suc i, lt, is) =
      subst (λ (l : List Values). Shows l (then_is x)) (sym (first_step y ys rows))
      (each_changed ys (if changed y then replaced (stored (now y)) rows else rows) apart.1
      (λ z has. let it = all z (later z has) in (it.0, beside_step y rows (id z) it.0 (shown_rowid z it.0 it.2) (apart.0 z has) it.1, it.2)) x (i, omega (arith, lt), is))
    where
      later : (z : X) → Contains ys z → Contains (y ∷ ys) z
      later z (j, low, same) = (suc j, omega (arith, low), same)
