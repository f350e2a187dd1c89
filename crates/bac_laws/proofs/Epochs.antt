-- What a file has of each epoch where none of its numbers is missing.
use Rattle.std.proofs.Common.{◌≡◌, ◌∙◌, ◌∷◌, [], inl, inr, refl, sym, ap, subst, arith, ℕ, true, List, map, None, Some}
use Rattle.std.specs.List.{AllZip, Contains, filter}
use Rattle.std.proofs.lemmas.List.Elements.{Contains-append_cases, Contains-append_left, Contains-append_right, Contains-push, Contains-push_cases}
use Rattle.sqlite_trees.specs.Tree.{Trees}
use Rattle.sqlite.specs.Effect.{Database}
use Rattle.bac_archive.specs.Archive.{IsArchive}
use Rattle.bac_archive.specs.declared.row.BeginningRow.{BeginningRow}
use Rattle.bac_archive.specs.declared.row.LogRow.{LogRow}
use Rattle.bac_check.specs.Counted.{CountsPart, IsEmpty, begun_of, course_of, is_unknown, with_begun}
use Rattle.bac_check.specs.Joins.{log_of}
use Rattle.bac_check.specs.Lines.{has_all}
use Rattle.bac_check.specs.Rows.{CountsCourse, is_behind, span_of}
use Rattle.bac_check.specs.Whole.{HasEach, WholeHasEach}
use Rattle.bac_check.specs.declared.counts.Counts.{Counts}
use Rattle.bac_check.specs.declared.course.Beginning.{Beginning}
use Rattle.bac_check.specs.declared.course.Course.{Course}
use Rattle.bac_check.specs.declared.tally.Span.{Span}
use Rattle.bac_files.specs.Parts.{PartRules, Reading}
use Rattle.bac_laws.specs.Checked.{HasEachNumber, IsWhole}
use Rattle.bac_reading.specs.Laws.{CountsOn, EachPart, IsTaken, OnePart}
use Rattle.bac_reading.specs.Taking.{IsClean}

first_of : {X : Type 0} (x : X) (xs : List X) → Contains (x ∷ xs) x
first_of x xs = Contains-append_left (x ∷ []) xs x (Contains-push [] x)

only_one : {X : Type 0} (x y : X) → Contains (x ∷ []) y → x ≡ y
only_one x y has = elim (Contains-push_cases [] x y has) [
  | inl none ↦ absurd (omega (arith, none.1))
  | inr is ↦ is
]

-- no row lies before the first one
all_behind : (spans : List Span) → filter (is_behind []) spans ≡ spans
all_behind [] = refl
all_behind (span ∷ spans) = ap (λ (l : List Span). span ∷ l) (all_behind spans)

-- each epoch that has begun is counted
counted_in : (part : Trees) (rows : List BeginningRow) (courses : List Course) (b : BeginningRow)
    → AllZip (CountsCourse part) (map course_of (filter (is_unknown []) (map begun_of rows))) courses → Contains rows b
    → (course : Course) × Contains courses course × CountsCourse part (course_of (begun_of b)) course
counted_in part [] courses b zip has = absurd (omega (arith, has.1))
counted_in part (row ∷ rows) [] b zip has = absurd zip
counted_in part (row ∷ rows) (course ∷ courses) b (counts, more) has = elim (Contains-append_cases (row ∷ []) rows b has) [
  | inl here ↦ (course, first_of course courses, subst (λ (r : BeginningRow). CountsCourse part (course_of (begun_of r)) course) (only_one row b here) counts)
  | inr there ↦ let it = counted_in part rows courses b more there in (it.0, Contains-append_right (course ∷ []) courses it.0 it.1, it.2)
]

module _ (law : WholeHasEach) (db : Database) (none all : Counts) (archive : IsArchive db) (empty : IsEmpty none) (counts : CountsPart db.trees none all true)
    (whole : has_all all ≡ true) where
  has_each : (log : LogRow) (b : BeginningRow) → Contains counts.rows.known.logs.items log → Contains counts.rows.known.beginnings.items b → log_of b.id ≡ log.id
      → HasEachNumber db b
  has_each log b logged begun of =
      let rows : List BeginningRow = counts.rows.known.beginnings.items in
      let zip = subst (λ (l : List Course). AllZip (CountsCourse db.trees) (with_begun l (map begun_of rows)) all.courses.items) empty.2 counts.rows.counted in
      let it = counted_in db.trees rows all.courses.items b zip begun in
      let course = it.0 in
      let spans = it.2.counted [] refl in
      let there : Contains all.logs.items log = subst (λ l. Contains l.items log) (sym counts.rows.logs) logged in
      let known : log_of course.begun.id ≡ log.id = ap (λ (g : Beginning). log_of g.id) it.2.begun ∙ of in
      let each = (law all log course spans.0 whole there it.1 known spans.2).2 in
      let now : HasEach b.number spans.0 = subst (λ (g : Beginning). HasEach g.number spans.0) it.2.begun each in
      (spans.1.0, spans.1.1, subst (HasEach b.number) (spans.1.2 ∙ all_behind (map span_of spans.1.0)) now)

  is_whole : IsWhole db
  is_whole = (archive, counts.rows.known, counts.rows.told, has_each)

module _ {Q : Type 0} (rules : PartRules Q) (law : WholeHasEach) (none all : Counts) (empty : IsEmpty none) where
  taken : (name : List ℕ) (db : Database) (then : Counts) → IsTaken CountsOn None name db none then → has_all then ≡ true → IsWhole db
  taken name db then (inl (archive, counts)) whole = is_whole law db none then archive empty counts whole
  taken name db then (inr (newest, schema, same)) whole = absurd (let e : None ≡ Some name = newest in cc)

  one : (name : List ℕ) (p mid : Q) (then : Counts) → OnePart rules CountsOn None name p none mid then → has_all then ≡ true
      → (found : Reading) × rules.holds p name found mid × (IsClean found → IsWhole found.found)
  one name p mid then (inl (found, holds, still, took)) whole = (found, holds, λ clean. taken name found.found then (took clean) whole)
  one name p mid then (inr (newest, bars, same)) whole = absurd (let e : None ≡ Some name = newest in cc)

  -- a file is whole
  pub file_whole : (name : List ℕ) (p q : Q) → EachPart rules CountsOn None (name ∷ []) p none q all → has_all all ≡ true
      → (found : Reading) × rules.holds p name found q × (IsClean found → IsWhole found.found)
  file_whole name p q (mid, then, part, (here, same)) whole =
      let it = one name p mid then part (subst (λ (c : Counts). has_all c ≡ true) same whole) in
      (it.0, subst (λ (x : Q). rules.holds p name it.0 x) (sym here) it.1, it.2)
