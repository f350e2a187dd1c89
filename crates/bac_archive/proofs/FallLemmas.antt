-- Spans that fall: those of an archive's items, from the greatest id on.
use Rattle.std.proofs.Common.{◌≡◌, ℕ, ◌+◌, ◌<◌, ◌≤◌, pos, Bool, true, false, cond, List, [], ◌∷◌, ◌++◌, map, filter, reverse, take, zero, suc, refl, sym, ap, subst, ◌∙◌, arith, Less}
use Rattle.std.specs.Bool.{⊤}
use Rattle.std.specs.Cmp.{IsTotalOrder}
use Rattle.std.specs.List.{AllByRecursion}
use Rattle.std.specs.List.Sorted.{IsPermutation, IsSorted}
use Rattle.std.proofs.lemmas.Cmp.{back_total, on_total}
use Rattle.std.proofs.lemmas.List.{reverse-append}
use Rattle.std.proofs.lemmas.List.Elements.{filter-append}
use Rattle.std.proofs.lemmas.List.Sorted.{IsPermutation-map, IsPermutation-reverse, IsPermutation-sym, IsPermutation-trans}
use Rattle.std.proofs.lemmas.Simd.{map-map}
use Rattle.sqlite_keyed.proofs.SortLemmas.{sorted_unique}
use Rattle.sqlite_value.proofs.OrderLemmas.{value_cmp_total}
use Rattle.sqlite_value.specs.declared.value.Value.TheVariants.{Int}
use Rattle.sqlite_value.specs.Order.{Row as Values, column}
use Rattle.sqlite_trees.specs.Tree.{IsAscending, rowid}
use Rattle.bac_archive.specs.Archive.{EndsAt, Follows, LieApart, RiseFrom}
use Rattle.bac_archive.specs.Ask.{falls, first, shown}
use Rattle.bac_archive.proofs.ApartLemmas.{ends_behind, lower}
use Rattle.bac_archive.proofs.NewestLemmas.{sorted_map}
use Rattle.bac_archive.proofs.SpanLemmas.{RiseTo, one_span_more}

-- spans fall, each behind the next, and end below this id
abbrev pub FallFrom : ℕ → List Values → Type 0
FallFrom top [] = ⊤
FallFrom top (row ∷ rows) = (id : ℕ) × (end : ℕ) × (column row 0 ≡ Int (pos id)) × EndsAt (column row 1) id end × (end < top) × FallFrom id rows

pub fall_higher : (low top : ℕ) (rows : List Values) → low ≤ top → FallFrom low rows → FallFrom top rows
fall_higher low top [] le fall = tt
fall_higher low top (row ∷ rows) le (id, end, is, ends, less, rest) = (id, end, is, ends, omega (arith, less, le), rest)

pub fall_filter : (p : Values → Bool) (top : ℕ) (rows : List Values) → FallFrom top rows → FallFrom top (filter p rows)
fall_filter p top [] fall = tt
fall_filter p top (row ∷ rows) (id, end, is, ends, less, rest) = go (p row) (fall_filter p id rows rest)
  where
    go : (b : Bool) → FallFrom id (filter p rows) → FallFrom top (cond b (row ∷ filter p rows) (filter p rows))
    go true rest = (id, end, is, ends, less, rest)
    go false rest = fall_higher id top (filter p rows) (let e = ends_behind (column row 1) id end ends in omega (arith, e, less)) rest

pub fall_take : (n top : ℕ) (rows : List Values) → FallFrom top rows → FallFrom top (take n rows)
fall_take zero top rows fall = tt
fall_take (suc n) top [] fall = tt
fall_take (suc n) top (row ∷ rows) (id, end, is, ends, less, rest) = (id, end, is, ends, less, fall_take n id rows rest)

turn_cons : {X : Type 0} (x : X) (xs : List X) → reverse (x ∷ xs) ≡ reverse xs ++ x ∷ []
turn_cons x xs = reverse-append (x ∷ []) xs

-- turned round they rise
pub fall_rises : (top : ℕ) (rows : List Values) → FallFrom top rows → (to : ℕ) × RiseTo 0 (reverse rows) to × (to ≤ top)
fall_rises top [] fall = (0, refl, omega arith)
fall_rises top (row ∷ rows) (id, end, is, ends, less, rest) =
    let it = fall_rises id rows rest in
    let one : Follows row it.0 (end + 1) = (id, end, is, ends, it.2, refl) in
    (end + 1, subst (λ l. RiseTo 0 l (end + 1)) (sym (turn_cons row rows)) (one_span_more 0 it.0 (end + 1) (reverse rows) row it.1 one), omega (arith, less))

-- one lies below those that fall down to here
fall_behind : (top free : ℕ) (rows : List Values) (row : Values) (id end : ℕ) → column row 0 ≡ Int (pos id) → EndsAt (column row 1) id end → end < free → free ≤ top
    → AllByRecursion (λ r. (n : ℕ) × (column r 0 ≡ Int (pos n)) × (free ≤ n)) rows → FallFrom top rows → FallFrom top (rows ++ row ∷ [])
fall_behind top free [] row id end is ends less le above fall = (id, end, is, ends, omega (arith, less, le), tt)
fall_behind top free (r ∷ rows) row id end is ends less le above (n, e, at, stops, under, rest) =
    let same : above.0.0 ≡ n = let both : Int (pos above.0.0) ≡ Int (pos n) = sym above.0.1 ∙ at in cc in
    (n, e, at, stops, under, fall_behind n free rows row id end is ends less (omega (arith, same, above.0.2)) above.1 rest)

all_both : (P : Values → Type 0) (xs ys : List Values) → AllByRecursion P xs → AllByRecursion P ys → AllByRecursion P (xs ++ ys)
all_both P [] ys p q = q
all_both P (x ∷ xs) ys p q = (p.0, all_both P xs ys p.1 q)

-- spans that rise fall when they are turned round
rise_falls : (free : ℕ) (rows : List Values) → RiseFrom free rows
    → (top : ℕ) × FallFrom top (reverse rows) × (free ≤ top) × AllByRecursion (λ r. (n : ℕ) × (column r 0 ≡ Int (pos n)) × (free ≤ n)) (reverse rows)
rise_falls free [] rise = (free, tt, omega arith, tt)
rise_falls free (row ∷ rows) (next, (id, end, is, ends, from, behind), rise) =
    let it = rise_falls next rows rise in
    let high = ends_behind (column row 1) id end ends in (
      it.0,
      subst (FallFrom it.0) (sym (turn_cons row rows)) (fall_behind it.0 next (reverse rows) row id end is ends (omega (arith, behind)) it.2 it.3 it.1),
      omega (arith, it.2, behind, high, from),
      subst (AllByRecursion (λ r. (n : ℕ) × (column r 0 ≡ Int (pos n)) × (free ≤ n))) (sym (turn_cons row rows))
          (all_both _ (reverse rows) (row ∷ []) (weaker (reverse rows) (omega (arith, behind, high, from)) it.3) ((id, is, from), tt)),
    )
  where
    weaker : (rs : List Values) → free ≤ next → AllByRecursion (λ r. (n : ℕ) × (column r 0 ≡ Int (pos n)) × (next ≤ n)) rs → AllByRecursion (λ r. (n : ℕ) × (column r 0 ≡ Int (pos n)) × (free ≤ n)) rs
    weaker [] le all = tt
    weaker (r ∷ rs) le all = ((all.0.0, all.0.1, omega (arith, le, all.0.2)), weaker rs le all.1)

falls_total : IsTotalOrder falls
falls_total = back_total (on_total rowid value_cmp_total)

-- rows that fall have one order by their ids
abbrev IsUnder : ℕ → Values → Type 0
IsUnder top row = (id : ℕ) × (rowid row ≡ Int (pos id)) × (id < top)

fall_on : (top : ℕ) (rows : List Values) → FallFrom top rows → AllByRecursion (IsUnder top) rows × IsAscending (λ a b. falls a b ≡ Less) rows
fall_on top [] fall = (tt, tt)
fall_on top (row ∷ rows) (id, end, is, ends, less, rest) =
    let it = fall_on id rows rest in
    let high = ends_behind (column row 1) id end ends in
    (((id, is, omega (arith, high, less)), under rows (omega (arith, high, less)) it.0), (above rows it.0, it.1))
  where
    under : (rs : List Values) → id ≤ top → AllByRecursion (IsUnder id) rs → AllByRecursion (IsUnder top) rs
    under [] le all = tt
    under (r ∷ rs) le all = ((all.0.0, all.0.1, omega (arith, le, all.0.2)), under rs le all.1)

    above : (rs : List Values) → AllByRecursion (IsUnder id) rs → AllByRecursion (λ b. falls row b ≡ Less) rs
    above [] all = tt
    above (r ∷ rs) all = (lower r row all.0.0 id all.0.1 is all.0.2, above rs all.1)

-- what columns a span has
cut_falls : (top : ℕ) (rows : List Values) → FallFrom top (map (first 2) rows) → FallFrom top rows
cut_falls top [] fall = tt
cut_falls top (row ∷ rows) (id, end, is, ends, less, rest) = (id, end, is, ends, less, cut_falls id rows rest)

-- items that lie apart fall by falling ids
pub apart_fall : (items all : List Values) → IsPermutation (map (shown 5) items) all → IsSorted falls all → LieApart items → (top : ℕ) × FallFrom top all
apart_fall items all each sorted (spans, of, rise) =
    let down = rise_falls 0 spans rise in
    let cut : IsPermutation (map (shown 1) items) (map (first 2) all) = subst (λ l. IsPermutation l (map (first 2) all)) (map-map (first 2) (shown 5) items) (IsPermutation-map (first 2) _ _ each) in
    let same = IsPermutation-trans _ _ _ (IsPermutation-trans _ _ _ (IsPermutation-sym _ _ (IsPermutation-reverse spans)) (IsPermutation-sym _ _ of)) cut in
    let one : map (first 2) all ≡ reverse spans = sorted_unique falls falls_total (reverse spans) (map (first 2) all) (fall_on down.0 (reverse spans) down.1).1 same (sorted_map (first 2) (λ r. refl) all sorted) in
    (down.0, cut_falls down.0 all (subst (FallFrom down.0) (sym one) down.1))

pub filter_turned : {X : Type 0} (p : X → Bool) (xs : List X) → filter p (reverse xs) ≡ reverse (filter p xs)
filter_turned {X = X} p [] = refl
filter_turned {X = X} p (x ∷ xs) = ap (filter p) (turn_cons x xs) ∙ filter-append p (reverse xs) (x ∷ []) ∙ ap (λ l. l ++ filter p (x ∷ [])) (filter_turned p xs) ∙ go (p x) refl
  where
    go : (b : Bool) → p x ≡ b → reverse (filter p xs) ++ filter p (x ∷ []) ≡ reverse (filter p (x ∷ xs))
    go true is = rw is (sym (turn_cons x (filter p xs)))
    go false is = rw is (nothing (reverse (filter p xs)))
      where
        nothing : (l : List X) → l ++ [] ≡ l
        nothing [] = refl
        nothing (y ∷ ys) = ap (λ t. y ∷ t) (nothing ys)

pub map_turned : {X Y : Type 0} (f : X → Y) (xs : List X) → map f (reverse xs) ≡ reverse (map f xs)
map_turned {X = X} f [] = refl
map_turned {X = X} f (x ∷ xs) = ap (map f) (turn_cons x xs) ∙ appended (reverse xs) ∙ ap (λ l. l ++ f x ∷ []) (map_turned f xs) ∙ sym (turn_cons (f x) (map f xs))
  where
    appended : (ys : List X) → map f (ys ++ x ∷ []) ≡ map f ys ++ f x ∷ []
    appended [] = refl
    appended (y ∷ ys) = ap (λ t. f y ∷ t) (appended ys)
