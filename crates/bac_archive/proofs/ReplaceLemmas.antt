-- What a change of one row comes to, whatever its table is.
use Rattle.std.proofs.Common.{◌≡◌, refl, sym, ap, subst, ◌∙◌, ℕ, suc, zero, ℤ, Bool, true, false, not, cond, if◌then◌else◌, ◌&&◌, ◌||◌, Some, List, [], ◌∷◌, ◌++◌, map, filter, flat_map, Ordering, Less, Equal, Greater, arith, length}
use Rattle.std.specs.List.{Contains, list_any}
use Rattle.std.specs.List.Sorted.{IsPermutation}
use Rattle.std.specs.Ordering.{is_eq, is_lt, match_ordering}
use Rattle.std.specs.Float.{minus_two_to}
use Rattle.std.proofs.lemmas.Cmp.{tied_itself}
use Rattle.std.proofs.lemmas.Bool.{and_parts, both_ways, not-true, or_right, or_parts}
use Rattle.std.proofs.lemmas.Bool.Decides.{nat_tests}
use Rattle.std.proofs.lemmas.Int.{ints}
use Rattle.std.proofs.lemmas.List.Sorted.{IsPermutation-refl, IsPermutation-sym, IsPermutation-trans, IsPermutation-cons, IsPermutation-middle, list_any-IsPermutation, Contains-permutation, length_permutation}
use Rattle.std.proofs.lemmas.List.{length-map, nil_from_length}
use Rattle.sqlite_value.specs.declared.keys.Collation.TheVariants.{Binary}
use Rattle.sqlite_value.specs.declared.value.Value.{Value}
use Rattle.sqlite_value.specs.declared.value.Value.TheVariants.{Null, Int, Real, Text, Blob}
use Rattle.sqlite_value.specs.Order.{Row, Row as Values, value_cmp}
use Rattle.sqlite_value.proofs.OrderLemmas.{value_cmp_total, value_cmp-Int}
use Rattle.sqlite_trees.specs.Tree.{rowid, has_rowid, put_row, without_rowid}
use Rattle.sqlite_trees.specs.View.{is_int}
use Rattle.sqlite_sql.specs.Ops.{binary, unary, is_true, from_truth}
use Rattle.sqlite_sql.specs.declared.ops.UnaryOp.TheVariants.{ToInt}
use Rattle.sqlite_sql.specs.declared.ops.BinaryOp.TheVariants.{Compare}
use Rattle.sqlite_sql.specs.declared.ops.CompareOp.TheVariants.{Eq}
use Rattle.sqlite_schema.specs.declared.schema.Kind.TheVariants.{Integer}
use Rattle.sqlite_rules.specs.Cast.{cast}
use Rattle.sqlite_rules.specs.Edit.{id_in, is_taken, put_all, are_fresh, have_rowids, numbered, without_all}
use Rattle.sqlite_rules.specs.Calls.{ids_of}
use Rattle.sqlite_rules.specs.declared.error.Rowids.TheVariants.{Given}
use Rattle.sqlite.proofs.Callers.{one_permutation}
use Rattle.bac_archive.specs.Put.{is_counted, lowered, replaced}
use Rattle.bac_archive.proofs.RowsLemmas.{cast_int, from_not}

-- a row at a free rowid comes to the others
pub put_permutes : (new : Row) (rows : List Row) → is_taken rows new ≡ false → IsPermutation (new ∷ rows) (put_row new rows)
put_permutes new [] free = IsPermutation-refl _
put_permutes new (r ∷ rows) free =
    go (value_cmp (rowid r) (rowid new)) refl (or_parts _ _ free).0 (put_permutes new rows (or_parts _ _ free).1)
  where
    go : (o : Ordering) → value_cmp (rowid r) (rowid new) ≡ o → is_eq (value_cmp (rowid r) (rowid new)) ≡ false → IsPermutation (new ∷ rows) (put_row new rows)
        → IsPermutation (new ∷ r ∷ rows) (match_ordering o (r ∷ put_row new rows) (new ∷ rows) (new ∷ r ∷ rows))
    go Less is other later = IsPermutation-trans _ _ _ (IsPermutation-sym _ _ (IsPermutation-middle (r ∷ []) new rows)) (IsPermutation-cons r _ _ later)
    go Equal is other later = absurd (both_ways _ other (ap is_eq is))
    go Greater is other later = IsPermutation-refl _

pub flat_map_if : {X Y : Type 0} (p : X → Bool) (f : X → Y) (xs : List X) → flat_map (λ x. if p x then f x ∷ [] else []) xs ≡ map f (filter p xs)
flat_map_if p f [] = refl
flat_map_if p f (x ∷ xs) = go (p x) (flat_map_if p f xs)
  where
    go : (b : Bool) → flat_map (λ x. if p x then f x ∷ [] else []) xs ≡ map f (filter p xs)
        → ((if b then f x ∷ [] else []) ++ flat_map (λ x. if p x then f x ∷ [] else []) xs) ≡ map f (cond b (x ∷ filter p xs) (filter p xs))
    go true rest = ap (λ l. f x ∷ l) rest
    go false rest = rest

pub bool_is : (b : Bool) → is_true (from_truth (Some b)) ≡ b
bool_is true = refl
bool_is false = refl

-- a comparison with a number; NULL is none
pub equals : (v : Value) (n : ℤ) → is_true (binary (Compare Eq Binary) v (Int n)) ≡ is_eq (value_cmp v (Int n))
unfolding binary value_cmp
equals Null n = refl
equals (Int z) n = bool_is (is_eq (value_cmp (Int z) (Int n)))
equals (Real x) n = bool_is (is_eq (value_cmp (Real x) (Int n)))
equals (Text t) n = bool_is (is_eq (value_cmp (Text t) (Int n)))
equals (Blob b) n = bool_is (is_eq (value_cmp (Blob b) (Int n)))

-- and one with a text
pub equals_text : (v : Value) (t : List ℕ) → is_true (binary (Compare Eq Binary) v (Text t)) ≡ is_eq (value_cmp v (Text t))
unfolding binary value_cmp
equals_text Null t = refl
equals_text (Int z) t = bool_is (is_eq (value_cmp (Int z) (Text t)))
equals_text (Real x) t = bool_is (is_eq (value_cmp (Real x) (Text t)))
equals_text (Text u) t = bool_is (is_eq (value_cmp (Text u) (Text t)))
equals_text (Blob b) t = bool_is (is_eq (value_cmp (Blob b) (Text t)))

-- an id that is one number as a comparison finds, and another as a column has it, is both
pub tied_int : (n id : ℤ) → value_cmp (Int n) (Int id) ≡ Equal → n ≡ id
tied_int n id e = let same = sym (value_cmp-Int n id) ∙ e in grind (arith, ints, nat_tests)

tied_both : (v : Value) (n id : ℤ) → value_cmp v (Int n) ≡ Equal → value_cmp v (Int id) ≡ Equal → n ≡ id
tied_both v n id one two = tied_int n id (sym (value_cmp_total.congr v (Int n) (Int id) one) ∙ two)

pub from_eq : (o : Ordering) → is_eq o ≡ true → o ≡ Equal
from_eq Less h = absurd (let e = h in cc)
from_eq Equal h = refl
from_eq Greater h = absurd (let e = h in cc)

-- what a float is cast to, if it is a whole number
whole_real : (v w : Value) (b : Bool) (id : ℤ) → is_int v ≡ false → (b ≡ true → value_cmp w v ≡ Equal) → is_int (cond b w v) ≡ true → value_cmp v (Int id) ≡ Equal → cond b w v ≡ Int id
whole_real v (Int n) true id not_int same whole tied = ap Int (tied_int n id (value_cmp_total.congr (Int n) v (Int id) (same refl) ∙ tied))
whole_real v Null true id not_int same whole tied = absurd (let e = whole in cc)
whole_real v (Real x) true id not_int same whole tied = absurd (let e = whole in cc)
whole_real v (Text t) true id not_int same whole tied = absurd (let e = whole in cc)
whole_real v (Blob b) true id not_int same whole tied = absurd (let e = whole in cc)
whole_real v w false id not_int same whole tied = absurd (both_ways _ not_int whole)

never_null : (id : ℤ) → value_cmp Null (Int id) ≡ Equal → ⊥
unfolding value_cmp
never_null id tied = absurd (cc)

never_text : (t : List ℕ) (id : ℤ) → value_cmp (Text t) (Int id) ≡ Equal → ⊥
unfolding value_cmp
never_text t id tied = absurd (cc)

never_blob : (b : List ℕ) (id : ℤ) → value_cmp (Blob b) (Int id) ≡ Equal → ⊥
unfolding value_cmp
never_blob b id tied = absurd (cc)

-- an id that is equal to a number is cast to it
pub cast_tied : (v : Value) (id : ℤ) → is_int (cast Integer v) ≡ true → value_cmp v (Int id) ≡ Equal → cast Integer v ≡ Int id
cast_tied Null id whole tied = absurd (never_null id tied)
cast_tied (Int n) id whole tied = cast_int n ∙ ap Int (tied_int n id tied)
cast_tied (Real x) id whole tied =
    let same = is_eq (value_cmp (unary ToInt (Real x)) (Real x)) in
    let above = is_lt (value_cmp (Real (minus_two_to 63)) (Real x)) in
    whole_real (Real x) (unary ToInt (Real x)) (same && above) id refl (λ h. from_eq _ (and_parts same above h).0) whole tied
cast_tied (Text t) id whole tied = absurd (never_text t id tied)
cast_tied (Blob b) id whole tied = absurd (never_blob b id tied)

-- a row with the id of one that was just put isn't fresh
taken_again : (one two : Values) (rows : List Values) → is_taken rows one ≡ false → rowid one ≡ rowid two → is_taken (put_row one rows) two ≡ true
taken_again one two rows free same =
    let tied : is_eq (value_cmp (rowid one) (rowid two)) ≡ true = rw (← same) (ap is_eq (tied_itself value_cmp_total (rowid one))) in
    sym (list_any-IsPermutation (λ r. is_eq (value_cmp (rowid r) (rowid two))) (one ∷ rows) (put_row one rows) (put_permutes one rows free)) ∙ ap (λ b. b || list_any (λ r. is_eq (value_cmp (rowid r) (rowid two))) rows) tied

later : {X : Type 0} (y : X) (xs : List X) (x : X) → Contains xs x → Contains (y ∷ xs) x
later y xs x (i, lt, is) = (suc i, omega (arith, lt), is)

-- what passes a test is there, and what is there and passes it is found
pub from_filter : {X : Type 0} (p : X → Bool) (xs : List X) (x : X) → Contains (filter p xs) x → Contains xs x × (p x ≡ true)
from_filter p [] x h = absurd (omega (arith, h.1))
from_filter p (y ∷ ys) x h = go (p y) refl h (from_filter p ys x)
  where
    go : (b : Bool) → p y ≡ b → Contains (cond b (y ∷ filter p ys) (filter p ys)) x → (Contains (filter p ys) x → Contains ys x × (p x ≡ true)) → Contains (y ∷ ys) x × (p x ≡ true)
    go true is (zero, lt, same) rest = ((0, omega arith, same), ap p (sym same) ∙ is)
    go true is (suc i, lt, same) rest = let it = rest (i, omega (arith, lt), same) in (later y ys x it.0, it.1)
    go false is there rest = let it = rest there in (later y ys x it.0, it.1)

pub in_filter : {X : Type 0} (p : X → Bool) (xs : List X) (x : X) → Contains xs x → p x ≡ true → Contains (filter p xs) x
in_filter p [] x h passes = absurd (omega (arith, h.1))
in_filter p (y ∷ ys) x h passes = go (p y) refl h (λ there. in_filter p ys x there passes)
  where
    go : (b : Bool) → p y ≡ b → Contains (y ∷ ys) x → (Contains ys x → Contains (filter p ys) x) → Contains (cond b (y ∷ filter p ys) (filter p ys)) x
    go true is (zero, lt, same) rest = (0, omega arith, same)
    go true is (suc i, lt, same) rest = later y (filter p ys) x (rest (i, omega (arith, lt), same))
    go false is (zero, lt, same) rest = absurd (both_ways _ is (ap p same ∙ passes))
    go false is (suc i, lt, same) rest = rest (i, omega (arith, lt), same)

pub any_of : {X : Type 0} (q : X → Bool) (xs : List X) (x : X) → Contains xs x → q x ≡ true → list_any q xs ≡ true
any_of q [] x h passes = absurd (omega (arith, h.1))
any_of q (y ∷ ys) x (zero, lt, same) passes = ap (λ b. b || list_any q ys) (ap q same ∙ passes)
any_of q (y ∷ ys) x (suc i, lt, same) passes = or_right (q y) (list_any q ys) (any_of q ys x (i, omega (arith, lt), same) passes)

single : {X Y : Type 0} (f : X → Y) (xs : List X) (y : Y) → map f xs ≡ y ∷ [] → (x : X) × (xs ≡ x ∷ []) × (f x ≡ y)
single f [] y h = absurd (let e = h in cc)
single f (x ∷ []) y h = (x, refl, let e = h in cc)
single f (x ∷ z ∷ more) y h = absurd (let e = ap length h in omega (arith, e))

pub from_map : {X Y : Type 0} (f : X → Y) (xs : List X) (y : Y) → Contains (map f xs) y → (x : X) × Contains xs x × (f x ≡ y)
from_map f [] y h = absurd (omega (arith, h.1))
from_map f (x ∷ xs) y (zero, lt, is) = (x, (0, omega arith, refl), is)
from_map f (x ∷ xs) y (suc i, lt, is) = let it = from_map f xs y (i, omega (arith, lt), is) in (it.0, (suc it.1.0, omega (arith, it.1.1), it.1.2), it.2)

-- where none passes, none is taken
none_any : {X : Type 0} (q : X → Bool) (xs : List X) → filter q xs ≡ [] → list_any q xs ≡ false
none_any q [] h = refl
none_any q (x ∷ xs) h = go (q x) refl h (none_any q xs)
  where
    go : (b : Bool) → q x ≡ b → cond b (x ∷ filter q xs) (filter q xs) ≡ [] → (filter q xs ≡ [] → list_any q xs ≡ false) → (q x || list_any q xs) ≡ false
    go true is some rest = absurd cc
    go false is none rest = rw is (rest none)

replaced_if : (b : Bool) (x y : List Values) → b ≡ true → (if b then x else y) ≡ x
replaced_if true x y h = refl
replaced_if false x y h = absurd (let e = h in cc)

replaced_else : (b : Bool) (x y : List Values) → b ≡ false → (if b then x else y) ≡ y
replaced_else false x y h = refl
replaced_else true x y h = absurd (let e = h in cc)

-- A statement picks rows under an id, and puts this one in place of each.
module _ (id : ℤ) (here : Values → Bool) (within : (row : Values) → here row ≡ true → has_rowid id row ≡ true) (made : Values) (made_id : rowid made ≡ Int id) (source_of cast_to : Values → Values) (source_id : (row : Values) → rowid (source_of row) ≡ rowid row)
    (cast_is : (row : Values) → has_rowid id row ≡ true → is_int (rowid (cast_to (source_of row))) ≡ true → cast_to (source_of row) ≡ made) (rows : List Values) where
  -- what the statement read is of such a row
  record IsOfRow (source : Values) : Type 0 where
    pub row : Values
    pub there : Contains rows row
    pub id_is : here row ≡ true
    pub is : source_of row ≡ source

  of_row : (picked : List Values) → IsPermutation (map source_of (filter here rows)) picked → (source : Values) → Contains picked source → IsOfRow source
  of_row picked same source has =
      let it = from_map source_of (filter here rows) source (Contains-permutation _ _ source (IsPermutation-sym _ _ same) has) in
      let back = from_filter here rows it.0 it.1 in
      record { row = it.0; there = back.0; id_is = back.1; is = it.2 }

  cast_made : (source : Values) (it : IsOfRow source) → is_int (rowid (cast_to source)) ≡ true → cast_to source ≡ made
  cast_made source it whole = ap cast_to (sym it.is) ∙ cast_is it.row (within it.row it.id_is) (subst (λ s. is_int (rowid (cast_to s)) ≡ true) (sym it.is) whole)

  abbrev left : List Values → List Values
  left picked = without_all rows (ids_of picked)

  abbrev put : List Values → List Values
  put picked = numbered Given (left picked) (map cast_to picked)

  -- the id of the one row that is picked is this one
  id_of_one : (source : Values) (it : IsOfRow source) → is_taken (left (source ∷ [])) made ≡ false → id_in (rowid source) ≡ id
  id_of_one source it free = go (has_rowid other it.row) refl
    where
      other : ℤ
      other = id_in (rowid source)

      go : (b : Bool) → has_rowid other it.row ≡ b → other ≡ id
      go true is = tied_both (rowid it.row) other id (from_eq _ is) (from_eq _ (within it.row it.id_is))
      go false is =
          let stays = in_filter (λ r. not (has_rowid other r)) rows it.row it.there (ap not is) in
          let tied : is_eq (value_cmp (rowid it.row) (rowid made)) ≡ true = rw made_id (within it.row it.id_is) in
          absurd (both_ways _ free (any_of (λ r. is_eq (value_cmp (rowid r) (rowid made))) (left (source ∷ [])) it.row stays tied))

  pub puts_replaced : (picked : List Values) → IsPermutation (map source_of (filter here rows)) picked → have_rowids (put picked) ≡ true → are_fresh (left picked) (put picked) ≡ true
      → put_all (left picked) (put picked) ≡ (if list_any here rows then put_row made (without_rowid id rows) else rows)
  puts_replaced [] same keyed fresh =
      let none : filter here rows ≡ [] = nil_from_length _ (omega (arith, length_permutation _ _ same, length-map (filter here rows) source_of)) in
      sym (replaced_else _ _ rows (none_any here rows none))
  puts_replaced (one ∷ []) same keyed fresh =
      let found = single source_of (filter here rows) one (one_permutation one _ (IsPermutation-sym _ _ same)) in
      let row = found.0 in
      let back = from_filter here rows row (subst (λ l. Contains l row) (sym found.1) (0, omega arith, refl)) in
      let it : IsOfRow one = record { row = row; there = back.0; id_is = back.1; is = found.2 } in
      let cast = cast_made one it (and_parts _ _ keyed).0 in
      let free : is_taken (left (one ∷ [])) made ≡ false = subst (λ r. is_taken (left (one ∷ [])) r ≡ false) cast (from_not _ fresh) in
      let same_id = id_of_one one it free in
      let there = any_of here rows row back.0 back.1 in
      ap (λ n. put_row n (without_rowid (id_in (rowid one)) rows)) cast ∙ ap (λ k. put_row made (without_rowid k rows)) same_id ∙ sym (replaced_if _ _ rows there)
  puts_replaced (one ∷ two ∷ more) same keyed fresh =
      let first = of_row _ same one (0, omega arith, refl) in
      let second = of_row _ same two (1, omega arith, refl) in
      let whole = and_parts (is_int (rowid (cast_to one))) _ keyed in
      let a = cast_made one first whole.0 in
      let b = cast_made two second (and_parts (is_int (rowid (cast_to two))) _ whole.1).0 in
      let apart = and_parts (not (is_taken (left (one ∷ two ∷ more)) (cast_to one))) _ fresh in
      let free = not-true _ apart.0 in
      let again = not-true (is_taken (put_row (cast_to one) (left (one ∷ two ∷ more))) (cast_to two)) (and_parts _ _ apart.1).0 in
      absurd (both_ways _ again (taken_again (cast_to one) (cast_to two) (left (one ∷ two ∷ more)) free (ap rowid a ∙ sym (ap rowid b))))

-- in place of the row under the id
pub as_replaced : (id : ℤ) (made : Values) (rows : List Values) → rowid made ≡ Int id → (if list_any (has_rowid id) rows then put_row made (without_rowid id rows) else rows) ≡ replaced made rows
as_replaced id made rows is = rw is refl

-- or of the one that was counted
pub as_lowered : (id : ℤ) (made : Values) (rows : List Values) → rowid made ≡ Int id
    → (if list_any (λ r. has_rowid id r && is_counted r) rows then put_row made (without_rowid id rows) else rows) ≡ lowered made rows
as_lowered id made rows is = rw is refl
