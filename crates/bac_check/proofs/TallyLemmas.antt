-- What is counted of rows, and of one more.
use Rattle.std.proofs.Common.{◌≡◌, ◌⊎◌, inl, inr, refl, sym, ap, subst, ◌∙◌, ℕ, ◌+◌, ◌-◌, ◌<◌, ◌≤◌, List, [], ◌∷◌, ◌++◌, Option, None, Some, arith, Bool, true, false, if◌then◌else◌, is_none, cond}
use Rattle.std.specs.List.{Contains}
use Rattle.std.proofs.lemmas.Bool.{cases_lt, lt-ltb, le-ltb}
use Rattle.std.proofs.lemmas.List.Elements.{Contains-push}
use Rattle.std.proofs.lemmas.List.Sums.{sum_by_push, sum_by-append}
use Rattle.bac_check.specs.declared.tally.Hole.{Hole}
use Rattle.bac_check.specs.declared.tally.Span.{Span}
use Rattle.bac_check.specs.declared.tally.Tally.{Tally}
use Rattle.bac_check.specs.Holes.{AreHoles, Has, Have, end_of, front_of, stretch}
use Rattle.bac_check.specs.Lines.{HolesAreMissing}
use Rattle.bac_check.specs.Tallies.{AllAreCounted, IsTally, doubted_numbers, hole_numbers, is_doubted, is_sure, last_in, missing_numbers, numbers_of, sure_numbers}
use Rattle.bac_check.proofs.HoleLemmas.{from_beginning, have_cases, have_new, have_old, in_none, more_holes, rise_more}

abbrev row : ℕ → Option ℕ → Bool → Span
row n last d = record { number = n; last = last; doubtful = d }

-- a row is a record, a gap or a doubtful one
ones_at : (n : ℕ) (last : Option ℕ) (d : Bool) → (if is_none last then 1 else 0) + (if is_sure (row n last d) then 1 else 0) + (if is_doubted (row n last d) then 1 else 0) ≡ 1
ones_at n None d = refl
ones_at n (Some l) true = refl
ones_at n (Some l) false = refl

ones : (span : Span) → (if is_none span.last then 1 else 0) + (if is_sure span then 1 else 0) + (if is_doubted span then 1 else 0) ≡ 1
ones span = ones_at span.number span.last span.doubtful

-- which has all its numbers
parts_at : (n : ℕ) (last : Option ℕ) (d : Bool) → (if is_none last then 1 else 0) + sure_numbers (row n last d) + doubted_numbers (row n last d) ≡ numbers_of (row n last d)
parts_at n None d = omega arith
parts_at n (Some l) true = omega arith
parts_at n (Some l) false = omega arith

parts : (span : Span) → (if is_none span.last then 1 else 0) + sure_numbers span + doubted_numbers span ≡ numbers_of span
parts span = parts_at span.number span.last span.doubtful

-- a stretch has the numbers between
stretch_has : (from to : ℕ) → from ≤ to → from + missing_numbers (stretch from to) ≡ to
stretch_has from to le = go (cases_lt from to)
  where
    go : (from < to) ⊎ (to ≤ from) → from + missing_numbers (stretch from to) ≡ to
    go (inl lt) = subst (λ (b : Bool). from + missing_numbers (if b then record { first = from; last = to - 1 } ∷ [] else []) ≡ to) (sym (lt-ltb from to lt)) (omega (arith, lt))
    go (inr ge) = subst (λ (b : Bool). from + missing_numbers (if b then record { first = from; last = to - 1 } ∷ [] else []) ≡ to) (sym (le-ltb from to ge)) (omega (arith, le, ge))

missing_both : (a b : List Hole) → missing_numbers (a ++ b) ≡ missing_numbers a + missing_numbers b
missing_both a b = sum_by-append hole_numbers a b

module _ (spans : List Span) (old t : Tally) (span : Span) (was : IsTally spans old) (up : last_in old < span.number) (in_order : span.number ≤ end_of span)
    (first : t.first ≡ old.first) (newest : t.newest ≡ span)
    (records : t.records ≡ old.records + (if is_none span.last then 1 else 0))
    (gaps : t.gaps ≡ old.gaps + (if is_sure span then 1 else 0))
    (gone : t.gone ≡ old.gone + sure_numbers span)
    (doubtful : t.doubtful ≡ old.doubtful + (if is_doubted span then 1 else 0))
    (doubted : t.doubted ≡ old.doubted + doubted_numbers span)
    (holes : t.holes.items ≡ old.holes.items ++ stretch (last_in old + 1) span.number) where
  last : last_in t ≡ end_of span
  last = ap end_of newest

  least : (n : ℕ) → Have (spans ++ span ∷ []) n → t.first ≤ n
  least n have = go (have_cases spans span n have)
    where
      go : Have spans n ⊎ Has span n → t.first ≤ n
      go (inl before) = omega (arith, first, was.least n before)
      go (inr new) = omega (arith, first, was.least (last_in old) was.last, up, new.0)

  greatest : (n : ℕ) → Have (spans ++ span ∷ []) n → n ≤ last_in t
  greatest n have = go (have_cases spans span n have)
    where
      go : Have spans n ⊎ Has span n → n ≤ last_in t
      go (inl before) = omega (arith, last, was.greatest n before, up, in_order)
      go (inr new) = omega (arith, last, new.1)

  missing : missing_numbers t.holes.items ≡ missing_numbers old.holes.items + missing_numbers (stretch (last_in old + 1) span.number)
  missing = ap missing_numbers holes ∙ missing_both old.holes.items (stretch (last_in old + 1) span.number)

  pub one_more : IsTally (spans ++ span ∷ []) t
  one_more = record {
    rise = rise_more 0 (last_in old) spans span was.rise was.greatest (omega arith) up in_order;
    first = subst (Have (spans ++ span ∷ [])) (sym first) (have_old spans span old.first was.first);
    least = least;
    newest = subst (Contains (spans ++ span ∷ [])) (sym newest) (Contains-push spans span);
    last = subst (Have (spans ++ span ∷ [])) (sym last) (have_new spans span (end_of span) (in_order, omega arith));
    greatest = greatest;
    records = records ∙ ap (λ n. n + (if is_none span.last then 1 else 0)) was.records ∙ sym (sum_by_push (λ (s : Span). cond (is_none s.last) 1 0) spans span);
    gaps = gaps ∙ ap (λ n. n + (if is_sure span then 1 else 0)) was.gaps ∙ sym (sum_by_push (λ (s : Span). cond (is_sure s) 1 0) spans span);
    gone = gone ∙ ap (λ n. n + sure_numbers span) was.gone ∙ sym (sum_by_push sure_numbers spans span);
    doubtful = doubtful ∙ ap (λ n. n + (if is_doubted span then 1 else 0)) was.doubtful ∙ sym (sum_by_push (λ (s : Span). cond (is_doubted s) 1 0) spans span);
    doubted = doubted ∙ ap (λ n. n + doubted_numbers span) was.doubted ∙ sym (sum_by_push doubted_numbers spans span);
    few = omega (arith, records, gaps, doubtful, last, was.few, up, in_order, ones span);
    holes = subst (AreHoles None (spans ++ span ∷ [])) (sym holes) (more_holes spans span old.holes.items (last_in old) was.holes was.last was.greatest up in_order);
    once = omega (arith, first, records, gone, doubted, missing, last, was.once, up, in_order, parts span, stretch_has (last_in old + 1) span.number (omega (arith, up)));
  }

-- each number from the beginning on is counted once
pub all_counted : AllAreCounted
all_counted from spans t it le =
    omega (arith, it.once, missing_both (front_of (Some from) t.first) t.holes.items, stretch_has from t.first le)

no_holes : (from : Option ℕ) → AreHoles from [] []
no_holes from = record {
  apart = tt;
  each = λ n. (λ lies. absurd (in_none lies.0 lies.1), λ it. absurd (in_none it.later.2.0 it.later.2.1));
}

-- what is told as the holes of an epoch is missing
pub holes_are : HolesAreMissing
holes_are from spans None it = subst (λ (l : List Span). AreHoles from l []) (sym it) (no_holes from)
holes_are from spans (Some t) it = from_beginning spans t.holes.items t.first it.holes it.first it.least from
