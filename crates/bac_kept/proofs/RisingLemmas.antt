-- What is printed of a log's rows in parts.
use Rattle.std.proofs.Common.{◌≡◌, ◌⊎◌, inl, inr, refl, sym, ap, subst, ◌∙◌, ℕ, ◌<◌, ◌==◌, ◌&&◌, ◌||◌, nat_lt, Bool, true, false, not, is_some, List, [], ◌∷◌, ◌++◌, append_assoc, Option, None, Some, arith}
use Rattle.std.proofs.Math.Bool.{or-true}
use Rattle.std.proofs.lemmas.Bool.{cases_Bool, eq-eqb, eqb-true, lt-ltb, ltb-true}
use Rattle.std.specs.List.{AllByRecursion, filter}
use Rattle.sqlite_value.specs.Order.{Row as Values}
use Rattle.bac_archive.specs.Items.{epoch_in, number_in}
use Rattle.bac_kept.specs.Laws.{IsIn, IsOneOf, PartsPrintEach, PartsPrintEachOnce, Rise, printed_of}
use Rattle.bac_kept.specs.Items.{between, has_sure, shown_rows, waits}
use Rattle.bac_kept.specs.Seen.{is_new, item_at, newest_of}
use Rattle.bac_kept.specs.declared.seen.Newest.{Newest}

-- by epoch, or by number in the same one
abbrev Lies : ℕ → ℕ → ℕ → ℕ → Type 0
Lies epoch number e n = (epoch < e) ⊎ ((epoch ≡ e) × (number < n))

or_and : (a b c : Bool) → (a || (b && c)) ≡ true → (a ≡ true) ⊎ ((b ≡ true) × (c ≡ true))
or_and true b c is = inl refl
or_and false true true is = inr (refl, refl)
or_and false true false is = absurd (let it = is in cc)
or_and false false c is = absurd (let it = is in cc)

says : (epoch number e n : ℕ) → (nat_lt epoch e || (epoch == e && nat_lt number n)) ≡ true → Lies epoch number e n
says epoch number e n is = elim (or_and (nat_lt epoch e) (epoch == e) (nat_lt number n) is) [
  | inl before ↦ inl (ltb-true epoch e before)
  | inr same ↦ inr (eqb-true epoch e same.0, ltb-true number n same.1)
]

so_is : (epoch number e n : ℕ) → Lies epoch number e n → (nat_lt epoch e || (epoch == e && nat_lt number n)) ≡ true
so_is epoch number e n (inl before) = rw (lt-ltb epoch e before) refl
so_is epoch number e n (inr (same, less)) = rw (eq-eqb epoch e same, lt-ltb number n less) (or-true (nat_lt epoch e))

both : (a b c d e f : ℕ) → Lies a d b e → Lies b e c f → Lies a d c f
both a b c d e f (inl p) (inl q) = inl (omega (arith, p, q))
both a b c d e f (inl p) (inr (q, s)) = inl (omega (arith, p, q))
both a b c d e f (inr (p, r)) (inl q) = inl (omega (arith, p, q))
both a b c d e f (inr (p, r)) (inr (q, s)) = inr (p ∙ q, omega (arith, r, s))

new_then : (behind : Option Newest) (r x : Values) → is_new behind r ≡ true → is_new (Some (item_at r)) x ≡ true → is_new behind x ≡ true
new_then None r x so new = refl
new_then (Some last) r x so new = so_is last.epoch last.number (epoch_in x) (number_in x)
    (both last.epoch (epoch_in r) (epoch_in x) last.number (number_in r) (number_in x)
    (says last.epoch last.number (epoch_in r) (number_in r) so) (says (epoch_in r) (number_in r) (epoch_in x) (number_in x) new))

module _ (behind : Option Newest) (r : Values) (rows : List Values) where
  taken : is_new behind r ≡ true → filter (is_new behind) (r ∷ rows) ≡ r ∷ filter (is_new behind) rows
  taken so = rw so refl

  left : is_new behind r ≡ false → filter (is_new behind) (r ∷ rows) ≡ filter (is_new behind) rows
  left so = rw so refl

-- all rows behind one that lies behind an item do
all_behind : (behind : Option Newest) (r : Values) (rows : List Values) → is_new behind r ≡ true → Rise (Some (item_at r)) rows → filter (is_new behind) rows ≡ rows
all_behind behind r [] so it = refl
all_behind behind r (x ∷ rows) so (new, more) =
    let this = new_then behind r x so new in
    taken behind x rows this ∙ ap (λ l. x ∷ l) (all_behind behind x rows this more)

rise_filter : (behind from : Option Newest) (rows : List Values) → Rise from rows → Rise behind (filter (is_new behind) rows)
rise_filter behind from [] it = tt
rise_filter behind from (r ∷ rows) (new, more) = elim (cases_Bool (is_new behind r)) [
  | inl so ↦ subst (Rise behind) (sym (taken behind r rows so)) (so, subst (Rise (Some (item_at r))) (sym (all_behind behind r rows so more)) more)
  | inr not ↦ subst (Rise behind) (sym (left behind r rows not)) (rise_filter behind (Some (item_at r)) rows more)
]

rise_append : (behind : Option Newest) (xs ys : List Values) → Rise behind xs → Rise (newest_of behind xs) ys → Rise behind (xs ++ ys)
rise_append behind [] ys a b = b
rise_append behind (x ∷ xs) ys (new, more) b = (new, rise_append (Some (item_at x)) xs ys more b)

-- what is left of rows that rise rises
rise_from : (behind : Option Newest) (r : Values) (rows : List Values) → is_new behind r ≡ true → Rise (Some (item_at r)) rows → Rise behind rows
rise_from behind r [] so it = tt
rise_from behind r (x ∷ rows) so (new, more) = (new_then behind r x so new, more)

rise_between : (dated before : Bool) (behind : Option Newest) (rows : List Values) → Rise behind rows → Rise behind (between dated before rows)
rise_between dated before behind [] it = tt
rise_between dated before behind (r ∷ rows) (new, more) = elim (cases_Bool (waits dated r && not (before && has_sure dated rows))) [
  | inl out ↦ rw out (rise_between dated before behind rows (rise_from behind r rows new more))
  | inr in_it ↦ rw in_it (new, rise_between dated true (Some (item_at r)) rows more)
]

rise_all : (dated : Bool) (behind : Option Newest) (parts : List (List Values)) → AllByRecursion (Rise None) parts → Rise behind (printed_of dated behind parts)
rise_all dated behind [] it = tt
rise_all dated behind (rows ∷ parts) (one, more) =
    let shown = shown_rows dated behind rows in
    rise_append behind shown (printed_of dated (newest_of behind shown) parts)
    (rise_between dated (is_some behind) behind (filter (is_new behind) rows) (rise_filter behind None rows one)) (rise_all dated (newest_of behind shown) parts more)

-- where no dates are named, all are shown that lie behind
plain : (before : Bool) (rows : List Values) → between false before rows ≡ rows
plain before [] = refl
plain before (r ∷ rows) = ap (λ l. r ∷ l) (plain true rows)

one_left : (row : Values) (xs ys : List Values) → IsOneOf row xs → IsOneOf row (xs ++ ys)
one_left row [] ys it = elim it [ ]
one_left row (x ∷ xs) ys (inl is) = inl is
one_left row (x ∷ xs) ys (inr there) = inr (one_left row xs ys there)

one_right : (row : Values) (xs ys : List Values) → IsOneOf row ys → IsOneOf row (xs ++ ys)
one_right row [] ys it = it
one_right row (x ∷ xs) ys it = inr (one_right row xs ys it)

in_filter : (behind : Option Newest) (row : Values) (rows : List Values) → IsOneOf row rows → is_new behind row ≡ true → IsOneOf row (filter (is_new behind) rows)
in_filter behind row [] it so = elim it [ ]
in_filter behind row (x ∷ rows) (inl is) so =
    subst (IsOneOf row) (sym (taken behind x rows (ap (is_new behind) (sym is) ∙ so))) (inl is)
in_filter behind row (x ∷ rows) (inr there) so = elim (cases_Bool (is_new behind x)) [
  | inl kept ↦ subst (IsOneOf row) (sym (taken behind x rows kept)) (inr (in_filter behind row rows there so))
  | inr not ↦ subst (IsOneOf row) (sym (left behind x rows not)) (in_filter behind row rows there so)
]

-- the newest item, if there is one, is that of a row that was printed
abbrev Known : Option Newest → List Values → Type 0
Known None seen = Unit {0}
Known (Some item) seen = (row : Values) × IsOneOf row seen × (item ≡ item_at row)

known_more : (behind : Option Newest) (seen xs : List Values) → Known behind seen → Known (newest_of behind xs) (seen ++ xs)
known_more None seen [] known = tt
known_more (Some item) seen [] (row, at, is) = (row, one_left row seen [] at, is)
known_more behind seen (x ∷ xs) known =
    subst (Known (newest_of (Some (item_at x)) xs)) (append_assoc seen (x ∷ []) xs)
    (known_more (Some (item_at x)) (seen ++ (x ∷ [])) xs (x, one_right x seen (x ∷ []) (inl refl), refl))

in_shown : (behind : Option Newest) (row : Values) (rows : List Values) → IsOneOf row rows → is_new behind row ≡ true → IsOneOf row (shown_rows false behind rows)
in_shown behind row rows it so = subst (IsOneOf row) (sym (plain (is_some behind) (filter (is_new behind) rows))) (in_filter behind row rows it so)

-- a row that isn't printed doesn't lie behind one that was
abbrev Covers : Option Newest → List Values → List (List Values) → Values → Type 0
Covers behind seen parts row = IsOneOf row (printed_of false behind parts)
    ⊎ ((last : Values) × IsOneOf last (seen ++ printed_of false behind parts) × (is_new (Some (item_at last)) row ≡ false))

here : (behind : Option Newest) (seen rows : List Values) (parts : List (List Values)) (row : Values) → Known behind seen → IsOneOf row rows → Covers behind seen (rows ∷ parts) row
here None seen rows parts row known at =
    inl (one_left row (shown_rows false None rows) _ (in_shown None row rows at refl))
here (Some item) seen rows parts row (last, was, is) at = elim (cases_Bool (is_new (Some item) row)) [
  | inl so ↦ inl (one_left row (shown_rows false (Some item) rows) _ (in_shown (Some item) row rows at so))
  | inr not ↦ inr (last, one_left last seen _ was, subst (λ (n : Newest). is_new (Some n) row ≡ false) is not)
]

covers : (behind : Option Newest) (seen : List Values) (parts : List (List Values)) → Known behind seen → (row : Values) → IsIn row parts → Covers behind seen parts row
covers behind seen [] known row it = elim it [ ]
covers behind seen (rows ∷ parts) known row (inl at) = here behind seen rows parts row known at
covers behind seen (rows ∷ parts) known row (inr at) =
    let new = shown_rows false behind rows in
    let rest = printed_of false (newest_of behind new) parts in
    elim (covers (newest_of behind new) (seen ++ new) parts (known_more behind seen new known) row at) [
      | inl printed ↦ inl (one_right row new rest printed)
      | inr covered ↦ inr (covered.0, subst (IsOneOf covered.0) (append_assoc seen new rest) covered.1, covered.2)
    ]

pub each_once : PartsPrintEachOnce
each_once dated parts rise = rise_all dated None parts rise

pub each_printed : PartsPrintEach
each_printed parts rise = covers None [] parts tt
