-- What the spans that are listed tell of the items of an archive.
use Rattle.std.proofs.Common.{◌≡◌, sym, subst, ◌∙◌, ℕ, ◌<◌, ◌≤◌, pos, List, [], ◌∷◌, ◌++◌, map, arith, int_cmp, Less}
use Rattle.std.specs.Cmp.{IsTotalOrder}
use Rattle.std.specs.List.{AllByRecursion}
use Rattle.std.specs.List.Sorted.{IsPermutation, IsSorted}
use Rattle.std.proofs.lemmas.Bool.Decides.{nat_tests}
use Rattle.std.proofs.lemmas.Cmp.{on_total}
use Rattle.std.proofs.lemmas.List.Elements.{Contains-append_left}
use Rattle.std.proofs.lemmas.List.Sorted.{Contains-permutation, IsPermutation-sym, IsPermutation-trans}
use Rattle.sqlite_keyed.proofs.SortLemmas.{sorted_unique}
use Rattle.sqlite_value.proofs.OrderLemmas.{value_cmp-Int, value_cmp_total}
use Rattle.sqlite_value.specs.declared.value.Value.{Value}
use Rattle.sqlite_value.specs.declared.value.Value.TheVariants.{Null, Int}
use Rattle.sqlite_value.specs.Order.{Row as Values, column}
use Rattle.sqlite_trees.specs.Tree.{IsAscending, rowid}
use Rattle.sqlite.specs.State.{State}
use Rattle.bac_archive.specs.Archive.{AreBegun, DoNotRise, EndsAt, HasOrphan, IsBegunBy, LieApart, RiseFrom}
use Rattle.bac_archive.specs.Ask.{rises as by_id, shown}
use Rattle.bac_archive.specs.Schema.{HasArchive}
use Rattle.bac_archive.specs.declared.asking.Question.TheVariants.{Spans}
use Rattle.bac_archive.proofs.AskLemmas.{answers_first}
use Rattle.bac_archive.proofs.OrphanLemmas.{from_map}

-- ---- spans that rise have one order by their ids

by_id_total : IsTotalOrder by_id
by_id_total = on_total rowid value_cmp_total

pub lower : (a b : Values) (m n : ℕ) → rowid a ≡ Int (pos m) → rowid b ≡ Int (pos n) → m < n → by_id a b ≡ Less
lower a b m n one two lt = rw (one, two) (value_cmp-Int (pos m) (pos n) ∙ less m n lt)
  where
    less : (m n : ℕ) → m < n → int_cmp (pos m) (pos n) ≡ Less
    less m n lt = grind (arith, nat_tests)

pub ends_behind : (v : Value) (id last : ℕ) → EndsAt v id last → id ≤ last
ends_behind Null id last is = omega (arith, is)
ends_behind (Int (pos to)) id last (from, below, is) = omega (arith, from, below, is)
ends_behind _ id last is = absurd is

-- a row has an id from this one on
abbrev IsFrom : ℕ → Values → Type 0
IsFrom free row = (id : ℕ) × (rowid row ≡ Int (pos id)) × (free ≤ id)

later : (low free : ℕ) (rows : List Values) → low ≤ free → AllByRecursion (IsFrom free) rows → AllByRecursion (IsFrom low) rows
later low free [] le all = tt
later low free (row ∷ rows) le all = ((all.0.0, all.0.1, omega (arith, le, all.0.2)), later low free rows le all.1)

above : (row : Values) (id free : ℕ) (rows : List Values) → rowid row ≡ Int (pos id) → id < free → AllByRecursion (IsFrom free) rows → AllByRecursion (λ other. by_id row other ≡ Less) rows
above row id free [] is lt all = tt
above row id free (other ∷ rows) is lt all = (lower row other id all.0.0 is all.0.1 (omega (arith, lt, all.0.2)), above row id free rows is lt all.1)

rise_on : (free : ℕ) (rows : List Values) → RiseFrom free rows → AllByRecursion (IsFrom free) rows × IsAscending (λ a b. by_id a b ≡ Less) rows
rise_on free [] rise = (tt, tt)
rise_on free (row ∷ rows) (next, (id, last, is, ends, from, behind), rise) =
    let rest = rise_on next rows rise in
    let up : id < next = let e = ends_behind (column row 1) id last ends in omega (arith, e, behind) in
    (((id, is, from), later free next rows (omega (arith, from, up)) rest.0), (above row id next rows is up rest.0, rest.1))

front_rises : (free : ℕ) (rows more : List Values) → RiseFrom free (rows ++ more) → RiseFrom free rows
front_rises free [] more rise = tt
front_rises free (row ∷ rows) more (next, one, rise) = (next, one, front_rises next rows more rise)

-- items that lie apart rise by their ids
pub apart_rise : (items rows : List Values) → IsPermutation (map (shown 1) items) rows → IsSorted by_id rows → LieApart items → RiseFrom 0 rows
apart_rise items rows each sorted (spans, of, rise) =
    let one = sorted_unique by_id by_id_total spans rows (rise_on 0 spans rise).1 (IsPermutation-trans _ _ _ (IsPermutation-sym _ _ of) each) sorted in
    subst (RiseFrom 0) (sym one) rise

-- ---- what `open` finds

-- spans that don't rise are of items that lie over one another
pub lie_over : (s : State) → HasArchive s.now.schema → DoNotRise s → ¬ LieApart (s.now.trees 5)
lie_over s has (rows, begins, none) apart =
    let (more, are) = answers_first Spans s rows has begins in
    none (front_rises 0 rows more (apart_rise (s.now.trees 5) (rows ++ more) are.each are.order apart))

-- an item without a log or a beginning
pub not_begun : (s : State) → HasArchive s.now.schema → HasOrphan s → ¬ AreBegun s.now.trees
not_begun s has (rows, row, begins, there, none) all =
    let (more, are) = answers_first Spans s rows has begins in
    let back = from_map (shown 1) (s.now.trees 5) row (Contains-permutation _ _ row (IsPermutation-sym _ _ are.each) (Contains-append_left rows more row there)) in
    let it = all back.0 back.1 in
    none (subst (IsBegunBy (s.now.trees 6) (s.now.trees 3)) back.2 (it.0, it.1, it.2, it.3))
