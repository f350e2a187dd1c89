-- The rows of an epoch, read one after the other.
use Rattle.std.proofs.Common.{◌≡◌, ◌⊎◌, inl, inr, refl, sym, ap, subst, ◌∙◌, ℕ, ◌<◌, ◌≤◌, nat_lt, ◌+◌, ◌&&◌, Bool, true, false, List, [], ◌∷◌, ◌++◌, map, append_assoc, Option, None, Some, arith}
use Rattle.std.specs.List.{Contains, filter, list_all}
use Rattle.std.proofs.lemmas.Bool.{and_from, and_left, and_right, cases_lt, lt-ltb, le-ltb, ltb-true}
use Rattle.std.proofs.lemmas.List.Elements.{Contains-append_left, Contains-push, filter-append, filter_agree}
use Rattle.sqlite.specs.Effect.{Database as Db}
use Rattle.sqlite.specs.State.{State, IsUnchanged, Shown}
use Rattle.sqlite.specs.Held.{Held as Connected, state}
use Rattle.sqlite.proofs.Callers.{given_begin}
use Rattle.sqlite_trees.specs.Tree.{Trees}
use Rattle.sqlite_trees.specs.declared.store.Store.{Ghosts}
use Rattle.sqlite_value.specs.Order.{Row as Values}
use Rattle.bac_archive.specs.Items.{AreFirst, AreItems, ReadsItems, bound_for, range_text}
use Rattle.bac_archive.specs.Schema.{HasArchive}
use Rattle.bac_archive.specs.declared.items.Range.{Range}
use Rattle.bac_archive.proofs.ItemsLemmas.{begins_with, shows_items}
use Rattle.bac_check.specs.declared.tally.Span.{Span}
use Rattle.bac_check.specs.declared.tally.Tally.{Tally}
use Rattle.bac_check.specs.declared.tally.Uncounted.{Uncounted}
use Rattle.bac_check.specs.declared.tally.Uncounted.TheVariants.{Overlap, Backward, Memory, Database}
use Rattle.bac_check.specs.Rows.{CountsOn, is_behind, is_new, items_of, span_of}
use Rattle.bac_check.specs.Holes.{Have, Rise, end_of}
use Rattle.bac_check.specs.Tallies.{IsTallied, last_in, newest_of}
use Rattle.bac_check.specs.Uncounts.{FailsOnRow, HasOverlap, IsUncounted}
use Rattle.bac_archive.proofs.AskLemmas.{has_still}
use Rattle.bac_check.proofs.HoleLemmas.{in_cases, in_head, in_none, in_tail}

-- one row more
pub filter_one_more : (p : Span → Bool) (rows : List Values) (row : Values) (before : List Span)
    → (before ++ filter p (map span_of rows)) ++ filter p (span_of row ∷ []) ≡ before ++ filter p (map span_of (rows ++ row ∷ []))
filter_one_more p rows row before =
    append_assoc before (filter p (map span_of rows)) (filter p (span_of row ∷ []))
    ∙ ap (λ l. before ++ l) (sym (filter-append p (map span_of rows) (span_of row ∷ [])) ∙ ap (filter p) (sym (mapped rows)))
  where
    mapped : (xs : List Values) → map span_of (xs ++ row ∷ []) ≡ map span_of xs ++ span_of row ∷ []
    mapped [] = refl
    mapped (x ∷ xs) = ap (λ l. span_of x ∷ l) (mapped xs)

-- when no row is left, those that were given are the range's, in the archive as it was
pub all_given : {S : Type 0} (g : Ghosts S) (range : Range) (old : State) (mid new : Connected S) (rows : List Values) → HasArchive old.now.schema
    → IsUnchanged old (state g mid) → Shown (range_text range) (bound_for range) (state g mid) (state g new) rows → AreItems range (old.now.trees 5) rows
all_given g range old mid new rows has same shown =
    subst (λ (d : Db). AreItems range (d.trees 5) rows) same.0.now_is
    (shows_items range (state g mid) (state g new) rows (has_still old (state g mid) same has) shown)

-- and until then the first of them
pub first_given : {S : Type 0} (g : Ghosts S) (range : Range) (old : State) (now : Connected S) (rows : List Values) → HasArchive old.now.schema
    → IsUnchanged old (state g now) → ReadsItems g range now rows → AreFirst range (old.now.trees 5) rows
first_given g range old now rows has same reads =
    subst (λ (d : Db). AreFirst range (d.trees 5) rows) same.0.now_is
    (begins_with range (state g now) rows (has_still old (state g now) same has) (given_begin g (range_text range) (bound_for range) now rows reads))

-- ---- behind all of these rows is behind the last one

all_up : (spans : List Span) (last n : ℕ) → ((m : ℕ) → Have spans m → m ≤ last) → ((s : Span) → Contains spans s → s.number ≤ end_of s) → last < n
    → list_all (λ old. nat_lt (end_of old) n) spans ≡ true
all_up [] last n greatest ordered up = refl
all_up (s ∷ spans) last n greatest ordered up =
    let first = greatest (end_of s) (s, in_head s spans, (ordered s (in_head s spans), omega arith)) in
    and_from (nat_lt (end_of s) n) _ (lt-ltb (end_of s) n (omega (arith, first, up)))
    (all_up spans last n (λ m have. greatest m (have.0, in_tail have.0 s spans have.1, have.2)) (λ x there. ordered x (in_tail x s spans there)) up)

one_low : (spans : List Span) (s : Span) (n : ℕ) → Contains spans s → n ≤ end_of s → list_all (λ old. nat_lt (end_of old) n) spans ≡ false
one_low [] s n there le = absurd (in_none s there)
one_low (x ∷ spans) s n there le = go (in_cases s x spans there) (λ rest. one_low spans s n rest le)
  where
    go : (x ≡ s) ⊎ Contains spans s → (Contains spans s → list_all (λ old. nat_lt (end_of old) n) spans ≡ false)
        → (nat_lt (end_of x) n && list_all (λ old. nat_lt (end_of old) n) spans) ≡ false
    go (inl is) more = and_left (nat_lt (end_of x) n) _ (le-ltb (end_of x) n (subst (λ (y : Span). n ≤ end_of y) (sym is) le))
    go (inr rest) more = and_right (nat_lt (end_of x) n) _ (more rest)

ordered : (free : ℕ) (spans : List Span) (s : Span) → Rise free spans → Contains spans s → s.number ≤ end_of s
ordered free [] s rise there = absurd (in_none s there)
ordered free (x ∷ spans) s rise there = go (in_cases s x spans there) (ordered (end_of x + 1) spans s rise.2)
  where
    go : (x ≡ s) ⊎ Contains spans s → (Contains spans s → s.number ≤ end_of s) → s.number ≤ end_of s
    go (inl is) more = subst (λ (y : Span). y.number ≤ end_of y) is rise.1
    go (inr rest) more = more rest

behind_is : (before : List Span) (counted : Option Tally) → IsTallied before counted → (new : Span) → is_new (newest_of counted) new ≡ is_behind before new
behind_is before None it new = subst (λ l. true ≡ is_behind l new) (sym it) refl
behind_is before (Some t) it new = go (cases_lt (last_in t) new.number)
  where
    go : (last_in t < new.number) ⊎ (new.number ≤ last_in t) → nat_lt (last_in t) new.number ≡ is_behind before new
    go (inl up) = lt-ltb (last_in t) new.number up ∙ sym (all_up before (last_in t) new.number it.greatest (λ s there. ordered 0 before s it.rise there) up)
    go (inr down) = le-ltb (last_in t) new.number down ∙ sym (one_low before it.last.0 new.number it.last.1 (omega (arith, down, it.last.2.1)))

pub counts_on : (epoch : ℕ) (part : Trees) (before : List Span) (old new : Option Tally) (rows : List Values) → AreItems (items_of epoch) (part 5) rows
    → IsTallied before old → IsTallied (before ++ filter (is_new (newest_of old)) (map span_of rows)) new
    → (spans : List Span) × CountsOn epoch before part spans × IsTallied spans new
counts_on epoch part before old new rows are was now = (
  before ++ filter (is_new (newest_of old)) (map span_of rows),
  (rows, are, ap (λ l. before ++ l) (filter_agree (is_new (newest_of old)) (is_behind before) (behind_is before old was) (map span_of rows))),
  now,
)

-- ---- why a row isn't counted

-- What was counted of these rows ends as it did before, or where one of them does.
abbrev pub EndsIn : Option Tally → List Values → Option Tally → Type 0
EndsIn old given new = (newest_of new ≡ newest_of old) ⊎ ((row : Values) × Contains given row × (newest_of new ≡ Some (span_of row)))

pub ends_more : (old mid new : Option Tally) (given : List Values) (row : Values) → EndsIn old given mid → (new ≡ mid) ⊎ (newest_of new ≡ Some (span_of row))
    → EndsIn old (given ++ row ∷ []) new
ends_more old mid new given row (inl same) (inl is) = inl (ap newest_of is ∙ same)
ends_more old mid new given row (inr (r, there, last)) (inl is) = inr (r, Contains-append_left given (row ∷ []) r there, ap newest_of is ∙ last)
ends_more old mid new given row (inl same) (inr is) = inr (row, Contains-push given row, is)
ends_more old mid new given row (inr it) (inr is) = inr (row, Contains-push given row, is)

same_span : {a b : Span} → ◌≡◌ {A = Option Span} (Some a) (Some b) → a ≡ b
same_span e = cc

-- a row that begins before what was counted ends lies over one of those before it, and not over one of an earlier part
over_one : (items given : List Values) (row : Values) (epoch : ℕ) (before : Span) (old counted : Option Tally)
    → AreFirst (items_of epoch) items (given ++ row ∷ []) → EndsIn old given counted → is_new (newest_of old) (span_of row) ≡ true
    → newest_of counted ≡ Some before → (span_of row).number ≤ end_of before → HasOverlap items epoch before (span_of row)
over_one items given row epoch before old counted are (inl same) new newest le =
    let is : newest_of old ≡ Some before = sym same ∙ newest in
    absurd (omega (arith, le, ltb-true (end_of before) (span_of row).number (subst (λ o. is_new o (span_of row) ≡ true) is new)))
over_one items given row epoch before old counted are (inr (r, there, is)) new newest le = record {
  front = given;
  row = row;
  are = are;
  earlier = r;
  among = there;
  before_is = same_span (sym is ∙ newest);
  over_is = refl;
  overlaps = le;
}

module _ {S : Type 0} (g : Ghosts S) (epoch : ℕ) (old now : Connected S) (given : List Values) (row : Values) (behind : Option Span) (before counted : Option Tally)
    (has : HasArchive (state g old).now.schema) (same : IsUnchanged (state g old) (state g now)) (reads : ReadsItems g (items_of epoch) now (given ++ row ∷ []))
    (ends : EndsIn before given counted) (from : behind ≡ newest_of before) where
  are : AreFirst (items_of epoch) ((state g old).now.trees 5) (given ++ row ∷ [])
  are = first_given g (items_of epoch) (state g old) now (given ++ row ∷ []) has same reads

  -- a row that fails is why the rows aren't counted
  pub row_fails : (why : Uncounted) → FailsOnRow epoch behind counted row why → IsUncounted g old now why
  row_fails (Overlap e b o) (new, it) =
      let (is_e, is_o, newest, le) = it in
      let over = over_one ((state g old).now.trees 5) given row epoch b before counted are ends (subst (λ x. is_new x (span_of row) ≡ true) from new) newest le in
      record {
        left = inr (inl same);
        cause = subst (λ k. HasOverlap ((state g old).now.trees 5) k b o) (sym is_e) (subst (HasOverlap ((state g old).now.trees 5) epoch b) (sym is_o) over);
      }
  row_fails (Backward e o) (is_e, is_o, lt) = record {
    left = inr (inl same);
    cause = rw (is_e, is_o) (record { front = given; row = row; are = are; over_is = refl; backward = lt });
  }
  row_fails Memory why = record { left = inr (inl same); cause = tt }
  row_fails (Database e) why = record {
    left = inr (inl same);
    cause = inr (inr (inl (items_of epoch, given, row, are, why)));
  }
