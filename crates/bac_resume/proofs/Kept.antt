-- What is told of a log is what its archive has.
use Rattle.std.proofs.Common.{arith, ◌≡◌, ℕ, zero, suc, ◌+◌, ◌/◌, ◌%◌, ◌<◌, ◌≤◌, ◌==◌, pos, int_cmp, Less, subst₂, nat_le, Bool, true, false, if◌then◌else◌, not, List, [], ◌∷◌, map, take, Option, None, Some, IsPermutation, is_lt, refl, sym, ap, subst, ◌∙◌}
use Rattle.std.specs.Cmp.{IsStrictWeakOrder, IsTotalOrder}
use Rattle.std.specs.List.{AllByRecursion, Contains, filter, slice_get}
use Rattle.std.proofs.lemmas.Bool.{and_from, and_parts, cond-true, eq-eqb, eqb-true, le-leb, not-true, or_left, or_right, false≢true}
use Rattle.std.proofs.lemmas.Bool.Decides.{nat_tests}
use Rattle.std.proofs.lemmas.Cmp.{back_total, on_total}
use Rattle.std.proofs.lemmas.List.Elements.{All-contains, All-from_recursion, Contains-append_right}
use Rattle.std.proofs.lemmas.List.Kept.{IsSortedBy-filter}
use Rattle.std.proofs.lemmas.List.MinMax.{IsStrictWeakOrder-flip, ranks_by}
use Rattle.std.proofs.lemmas.List.Sorted.{Contains-permutation, IsPermutation-sym, IsPermutation-trans}
use Rattle.std.proofs.lemmas.Option.{none-some, same_Some}
use Rattle.hex.proofs.HexLemmas.{decode_of-encode_lower}
use Rattle.sqlite_keyed.proofs.ListLemmas.{IsPermutation-filter}
use Rattle.sqlite_keyed.proofs.SortLemmas.{sorted_unique}
use Rattle.sqlite_value.proofs.OrderLemmas.{value_cmp-Int, value_cmp_total}
use Rattle.sqlite_value.specs.Order.{Row as Values, column, value_cmp}
use Rattle.sqlite_value.specs.declared.value.Value.{Value}
use Rattle.sqlite_value.specs.declared.value.Value.TheVariants.{Int}
use Rattle.sqlite_trees.specs.Tree.{Trees, rowid}
use Rattle.bac_archive.specs.Ask.{falls, shown}
use Rattle.bac_archive.specs.Items.{number_at, number_in}
use Rattle.bac_archive.specs.Put.{beginning_columns, item_columns}
use Rattle.bac_archive.specs.Read.{numbers}
use Rattle.bac_archive.specs.Stands.{StandsAs, epochs, is_at, is_in, is_last}
use Rattle.bac_archive.specs.declared.row.BeginningRow.{BeginningRow}
use Rattle.bac_archive.specs.declared.standing.Standing.{Standing}
use Rattle.bac_link.specs.Ordinals.{is_number}
use Rattle.bac_poll.specs.Turns.{behind, number_before}
use Rattle.bac_resume.specs.Laws.{GoesOnWhereItStopped, KnownAreKept, NewestAreTold, NextIsNumber, NoneIsNewer, RestartIsReadBack, before, place_of, told_in, with_rows}
use Rattle.bac_resume.specs.Met.{log_in}
use Rattle.bac_resume.specs.Resumed.{IsStamped, StandsBy}
use Rattle.bac_resume.specs.Rows.{begins_of, items_of}
use Rattle.bac_resume.specs.Stands.{is_gap, is_record_of, known_at, known_before, last_number}
use Rattle.bac_resume.specs.Texts.{moment_of}
use Rattle.bac_resume.proofs.Behind.{behind_records}
use Rattle.bac_resume.proofs.Rowed.{begins_at, filtered_passes, filtered_there, first_there, item_at}

pub restart_back : RestartIsReadBack
restart_back values are = ap moment_of (decode_of-encode_lower values are)

number_is : (m : ℕ) → is_number (m % 4294967295 + 1) ≡ true
number_is m =
    and_from (nat_le 1 (m % 4294967295 + 1)) (nat_le (m % 4294967295 + 1) 4294967295) (le-leb 1 (m % 4294967295 + 1) (omega arith)) (le-leb (m % 4294967295 + 1) 4294967295 (omega arith))

pub next_number : NextIsNumber
next_number begins [] is = is
next_number begins (item ∷ items) is = number_is (last_number item + 1 + 4294967294)

-- ---- the records that are known

abbrev KnownAs : ℕ → List Values → ℕ → Values → Type 0
KnownAs next items back item = Contains items item × (is_gap item ≡ false) × (number_in item ≡ before next (suc back))

known_cons : (b : Bool) (next : ℕ) (x : Values) (xs : List Values) (back : ℕ) (item : Values) → is_record_of (number_before next) x ≡ b →
    ((further : ℕ) → slice_get (known_before (number_before next) xs) further ≡ Some item → KnownAs (number_before next) xs further item) →
    slice_get (if b then x ∷ known_before (number_before next) xs else []) back ≡ Some item → KnownAs next (x ∷ xs) back item
known_cons false next x xs back item test others is = absurd (none-some item is)
known_cons true next x xs zero item test others is =
    let parts = and_parts (not (is_gap x)) (number_in x == number_before next) test in
    subst (λ (y : Values). KnownAs next (x ∷ xs) 0 y) (same_Some x item is)
    ((0, omega arith, refl), not-true (is_gap x) parts.0, eqb-true (number_in x) (number_before next) parts.1)
known_cons true next x xs (suc back) item test others is =
    let rest = others back is in
    (Contains-append_right (x ∷ []) xs item rest.0, rest.1, rest.2)

known_is : (next : ℕ) (items : List Values) (back : ℕ) (item : Values) → known_at next items back ≡ Some item → KnownAs next items back item
known_is next [] back item is = absurd (none-some item is)
known_is next (x ∷ xs) back item is =
    known_cons (is_record_of (number_before next) x) next x xs back item refl (λ further has. known_is (number_before next) xs further item has) is

-- ---- the rows that are told

there_by : (trees : Trees) (s : Standing) (log : ℕ) (item : Values) (begins : Option Values) → StandsAs trees s → begins_of log (map beginning_columns s.last.items) ≡ begins →
    Contains (items_of begins (map item_columns s.newest.items)) item → Contains (map (shown 5) (trees 5)) item × (log_in item ≡ log)
there_by trees s log item None stands told there = absurd (omega (arith, there.1))
there_by trees s log item (Some begins) stands told there =
    let era = number_at (column begins 0) in (
      stands.newest.there item (filtered_there (is_in numbers era) (map item_columns s.newest.items) item there),
      item_at log era item (begins_at log (map beginning_columns s.last.items) begins told) (filtered_passes (is_in numbers era) (map item_columns s.newest.items) item there),
    )

pub known_kept : KnownAreKept
known_kept trees s log next back item stands is =
    let known = known_is next (told_in s log).newest back item is in
    let row = there_by trees s log item (begins_of log (map beginning_columns s.last.items)) stands refl known.0 in
    record { there = row.0; of_log = row.1; is_record = known.1; number_is = known.2 }

-- the epoch of a beginning that is told is the last of its log
last_is : (last : List BeginningRow) (begins : Values) → Contains (map beginning_columns last) begins → is_last last (number_at (column begins 0)) ≡ true
last_is [] begins there = absurd (omega (arith, there.1))
last_is (b ∷ last) begins (zero, less, is) =
    or_left (b.id == number_at (column begins 0)) (is_last last (number_at (column begins 0)))
    (eq-eqb b.id (number_at (column begins 0)) (ap (λ (v : Values). number_at (column v 0)) is))
last_is (b ∷ last) begins (suc k, less, is) =
    or_right (b.id == number_at (column begins 0)) (is_last last (number_at (column begins 0))) (last_is last begins (k, omega (arith, less), is))

-- ids fall in one order
falls_total : IsTotalOrder falls
falls_total = back_total (on_total rowid value_cmp_total)

falls_weak : IsStrictWeakOrder (λ (a b : Values). is_lt (falls a b))
falls_weak = IsStrictWeakOrder-flip (λ (a b : Values). is_lt (value_cmp (rowid a) (rowid b))) (ranks_by value_cmp_total rowid)

pub newest_told : NewestAreTold
newest_told trees s log begins rows stands told has =
    let era = number_at (column begins 0) in
    let p = is_in numbers era in
    let items = map item_columns s.newest.items in
    let beginnings = map beginning_columns s.last.items in
    let kept = map (shown 5) (trees 5) in
    let all = stands.newest.all in
    let begun = filtered_there (is_in epochs log) beginnings begins (first_there (filter (is_in epochs log) beginnings) begins told) in
    let same : IsPermutation rows (filter p all) = IsPermutation-trans rows (filter p kept) (filter p all) (IsPermutation-sym (filter p kept) rows has.each) (IsPermutation-filter p kept all stands.newest.each) in
    let one : filter p all ≡ rows =
    sorted_unique falls falls_total rows (filter p all) has.fall same (IsSortedBy-filter (λ (a b : Values). is_lt (falls a b)) falls_weak p all stands.newest.falling) in
    ap (λ (o : Option Values). items_of o items) told ∙ stands.newest.first era
    ∙ cond-true (is_last s.last.items era) (take 3 (filter p all)) [] (last_is s.last.items begins begun)
    ∙ ap (take 3) one

-- ---- the newest of them

passing_stays : (p : Values → Bool) (xs : List Values) (x : Values) → Contains xs x → p x ≡ true → Contains (filter p xs) x
passing_stays p [] x there is = absurd (omega (arith, there.1))
passing_stays p (y ∷ xs) x (zero, less, same) is =
    subst (λ (l : List Values). Contains l x) (sym (cond-true (p y) (y ∷ filter p xs) (filter p xs) (ap p same ∙ is))) (0, omega arith, same)
passing_stays p (y ∷ xs) x (suc k, less, same) is = by (p y) (passing_stays p xs x (k, omega (arith, less), same) is)
  where
    by : (b : Bool) → Contains (filter p xs) x → Contains (if b then y ∷ filter p xs else filter p xs) x
    by true rest = Contains-append_right (y ∷ []) (filter p xs) x rest
    by false rest = rest

id_of : (era : ℕ) (v : Value) → is_at numbers era v ≡ true → (id : ℕ) × (v ≡ Int (pos id)) × (id / numbers ≡ era)
id_of era (Int (pos id)) is = (id, refl, eqb-true (id / numbers) era is)
id_of era _ is = absurd (false≢true is)

less_of : (m n : ℕ) → int_cmp (pos m) (pos n) ≡ Less → m < n
less_of m n is = grind (arith, nat_tests)

rises_within : (era m n : ℕ) → m / numbers ≡ era → n / numbers ≡ era → m < n → m % numbers ≤ n % numbers
rises_within era m n one two less = omega (arith, one, two, less)

falls_within : (era : ℕ) (newest item : Values) → is_in numbers era newest ≡ true → is_in numbers era item ≡ true → falls newest item ≡ Less → number_in item ≤ number_in newest
falls_within era newest item top low fall =
    let m = id_of era (column item 0) low in
    let n = id_of era (column newest 0) top in
    let less : m.0 < n.0 = less_of m.0 n.0 (sym (value_cmp-Int (pos m.0) (pos n.0)) ∙ subst₂ (λ (v w : Value). value_cmp v w ≡ Less) m.1 n.1 fall) in
    subst₂ (λ (v w : Value). number_at v % numbers ≤ number_at w % numbers) (sym m.1) (sym n.1) (rises_within era m.0 n.0 m.2 n.2 less)

newer_by : (era : ℕ) (kept rows : List Values) (newest item : Values) → IsPermutation (filter (is_in numbers era) kept) (newest ∷ rows) → AllByRecursion (λ b. falls newest b ≡ Less) rows →
    Contains kept item → is_in numbers era item ≡ true → number_in item ≤ number_in newest
newer_by era kept rows newest item each fall there is =
    by (Contains-permutation (filter (is_in numbers era) kept) (newest ∷ rows) item each (passing_stays (is_in numbers era) kept item there is))
  where
    top : is_in numbers era newest ≡ true
    top =
        filtered_passes (is_in numbers era) kept newest
        (Contains-permutation (newest ∷ rows) (filter (is_in numbers era) kept) newest (IsPermutation-sym (filter (is_in numbers era) kept) (newest ∷ rows) each) (0, omega arith, refl))

    by : Contains (newest ∷ rows) item → number_in item ≤ number_in newest
    by (zero, less, same) = subst (λ (v : Values). number_in v ≤ number_in newest) same (omega arith)
    by (suc k, less, same) =
        falls_within era newest item top is
        (All-contains (λ (b : Values). falls newest b ≡ Less) rows item (All-from_recursion (λ (b : Values). falls newest b ≡ Less) rows fall) (k, omega (arith, less), same))

pub no_newer : NoneIsNewer
no_newer trees begins newest item rows has there is = newer_by (number_at (column begins 0)) (map (shown 5) (trees 5)) rows newest item has.each has.fall.0 there is

-- ---- once rows are put

pub where_stopped : GoesOnWhereItStopped
where_stopped trees s log begins rows items p records last stands told has stood say is =
    let behind_them = behind_records (number_at (column begins 1)) rows items p records last stood say is in
    let newest = sym (newest_told trees s log begins (with_rows rows items) stands told has) in (
      subst (λ (l : List Values). StandsBy (number_at (column begins 1)) l (place_of (behind p records last))) newest behind_them.0,
      subst (λ (l : List Values). IsStamped l (place_of (behind p records last))) newest behind_them.1,
    )
