-- What the statement that puts so many items does under the schema of an archive.
use Rattle.std.proofs.Common.{◌≡◌, ◌≢◌, ℕ, zero, suc, Bool, true, false, not, if◌then◌else◌, ◌==◌, ◌&&◌, ◌+◌, ◌<◌, List, arith, [], ◌∷◌, ◌++◌, map, flat_map, length, take, drop, set, slice_get, Option, Some, None, is_some, Ok, inl, inr, refl, sym, ap, subst, ◌∙◌, append_assoc, append-nil, length-append}
use Rattle.std.specs.List.{AllByRecursion}
use Rattle.std.proofs.lemmas.Bool.{eqb-true, both_ways}
use Rattle.std.proofs.lemmas.List.{map-append, get_or-append-add}
use Rattle.std.proofs.lemmas.Grind.{take-set_at, flat_map-append}
use Rattle.sqlite_value.specs.declared.value.ValueRef.{ValueRef}
use Rattle.sqlite_value.specs.declared.value.Value.TheVariants.{Null, Int}
use Rattle.sqlite_value.specs.Order.{Row, column}
use Rattle.sqlite_sql.specs.Term.{Term, lit, col, eval_all}
use Rattle.sqlite_schema.specs.declared.command.Command.TheVariants.{Insert}
use Rattle.sqlite_schema.specs.declared.command.Source.TheVariants.{Values}
use Rattle.sqlite_schema.specs.declared.schema.Table.{Table}
use Rattle.sqlite_schema.specs.declared.schema.Schema.{Schema}
use Rattle.sqlite_rules.specs.Cast.{cast_row}
use Rattle.sqlite_rules.specs.Edit.{are_fresh, edit_of, is_taken, numbered, put_all}
use Rattle.sqlite_rules.specs.declared.error.Rowids.TheVariants.{Chosen}
use Rattle.sqlite_trees.specs.Tree.{Trees, put_row}
use Rattle.sqlite_tied.specs.Compute.{everything}
use Rattle.sqlite.specs.Values.{bound}
use Rattle.sqlite.specs.Effect.{Database, value_rows}
use Rattle.sqlite.specs.Does.{Tally, Does}
use Rattle.sqlite.specs.Rows.{Written}
use Rattle.sqlite.specs.State.{State, mode_of, Executes}
use Rattle.sqlite.specs.Listing.{understood}
use Rattle.sqlite.proofs.Callers.{IsPlain, command_of, statement_of, runs_as}
use Rattle.bac_archive.specs.Schema.{HasArchive, items}
use Rattle.bac_archive.specs.Put.{AreAtOnce, AreFree, AreMany, IsPut, given, given_all, given_record, is_record, left, many_text, row_of, text_of_all}
use Rattle.bac_archive.specs.declared.row.ItemRow.{ItemRow}
use Rattle.bac_archive.specs.declared.row.Put.{Put}
use Rattle.bac_archive.specs.declared.row.Put.TheVariants.{NewDevice, Device, NewLog, Log, Beginning, Lowered, Item}
use Rattle.bac_archive.proofs.AroundLemmas.{around, is_around, one_step_around}
use Rattle.bac_archive.proofs.RowsLemmas.{cast_int, cast_null, same_value, went}
use Rattle.bac_archive.proofs.InsertLemmas.{Sets, sets_by}

-- ---- the statement

-- what a row of values has from a place on
abbrev terms_from : ℕ → List Term
terms_from at = col 0 at ∷ lit Null ∷ lit Null ∷ col 0 (at + 1) ∷ col 0 (at + 2) ∷ col 0 (at + 3) ∷ col 0 (at + 4) ∷ []

-- and so many rows of values
abbrev terms_of : ℕ → ℕ → List Term
terms_of at zero = []
terms_of at (suc count) = terms_from at ++ terms_of (at + 5) count

abbrev many_terms : List Term
many_terms = terms_of 0 32

many_is : (s : Schema) (has : HasArchive s) → command_of (understood (around s has) many_text) ≡ Insert 3 (Values many_terms 7)
unfolding understood everything
many_is s has = refl

many_plain : (s : Schema) (has : HasArchive s) → IsPlain (understood (around s has) many_text)
unfolding understood everything
many_plain s has = (refl, refl)

-- ---- the rows

abbrev item_row : ItemRow → Row
item_row i = row_of (Item i)

abbrev item_source : ItemRow → Row
item_source i = Int i.id ∷ Null ∷ drop 1 (given (Item i))

row_is : (i : ItemRow) → cast_row (record items { tree = 5 }) (item_source i) ≡ item_row i
row_is i = rw (cast_int i.id, cast_null)

rows_are : (xs : List ItemRow) → map (λ s. cast_row (record items { tree = 5 }) (drop 0 s)) (map item_source xs) ≡ map item_row xs
rows_are [] = refl
rows_are (x ∷ xs) = ap (λ r. r ∷ map (λ s. cast_row (record items { tree = 5 }) (drop 0 s)) (map item_source xs)) (row_is x) ∙ ap (λ rs. item_row x ∷ rs) (rows_are xs)

-- each has its id already
numbered_is : (there : List Row) (xs : List ItemRow) → numbered Chosen there (map item_row xs) ≡ map item_row xs
numbered_is there [] = refl
numbered_is there (x ∷ xs) = ap (λ rs. item_row x ∷ rs) (numbered_is (put_row (item_row x) there) xs)

-- ---- the tables

-- what items leave of a table, whichever it is
left_is : (tree : ℕ) (rows : List Row) (xs : List ItemRow) (b : Bool) → (5 == tree) ≡ b → left tree rows (map Item xs) ≡ (if b then put_all rows (map item_row xs) else rows)
left_is tree rows [] true e = refl
left_is tree rows [] false e = refl
left_is tree rows (x ∷ xs) true e = ap (λ b. left tree (if b then put_row (item_row x) rows else rows) (map Item xs)) e ∙ left_is tree (put_row (item_row x) rows) xs true e
left_is tree rows (x ∷ xs) false e = ap (λ b. left tree (if b then put_row (item_row x) rows else rows) (map Item xs)) e ∙ left_is tree rows xs false e

each_left : (old new : Trees) (xs : List ItemRow) → new 5 ≡ put_all (old 5) (map item_row xs) → (tables : List Table) → AllByRecursion (λ t. t.tree ≢ 5 → new t.tree ≡ old t.tree) tables
    → AllByRecursion (λ t. new t.tree ≡ left t.tree (old t.tree) (map Item xs)) tables
each_left old new xs is [] others = tt
each_left old new xs is (t ∷ tables) others = (go (5 == t.tree) refl, each_left old new xs is tables others.1)
  where
    go : (b : Bool) → (5 == t.tree) ≡ b → new t.tree ≡ left t.tree (old t.tree) (map Item xs)
    go true same = subst (λ n. new n ≡ put_all (old n) (map item_row xs)) (eqb-true 5 t.tree same) is ∙ sym (left_is t.tree (old t.tree) xs true same)
    go false other = others.0 (λ same. both_ways _ other (subst (λ n. (5 == n) ≡ true) (sym same) refl)) ∙ sym (left_is t.tree (old t.tree) xs false other)

both : (a b : Bool) → (not a && b) ≡ true → (a ≡ false) × (b ≡ true)
both false b h = (refl, h)
both true b h = absurd (let e = h in cc)

free_is : (tree : ℕ) (rows : List Row) (xs : List ItemRow) (b : Bool) → (5 == tree) ≡ b → (b ≡ true → are_fresh rows (map item_row xs) ≡ true) → AreFree tree rows (map Item xs)
free_is tree rows [] b e fresh = tt
free_is tree rows (x ∷ xs) true e fresh =
    let parts = both (is_taken rows (item_row x)) _ (fresh refl) in
    ((λ same new. parts.0), subst (λ b. AreFree tree (if b then put_row (item_row x) rows else rows) (map Item xs)) (sym e) (free_is tree (put_row (item_row x) rows) xs true e (λ _. parts.1)))
free_is tree rows (x ∷ xs) false e fresh = (
  (λ same new. absurd (both_ways _ e (subst (λ n. (5 == n) ≡ true) same refl))),
  subst (λ b. AreFree tree (if b then put_row (item_row x) rows else rows) (map Item xs)) (sym e) (free_is tree rows xs false e (λ b. absurd cc)),
)

each_free : (old : Trees) (xs : List ItemRow) → are_fresh (old 5) (map item_row xs) ≡ true → (tables : List Table) → AllByRecursion (λ t. AreFree t.tree (old t.tree) (map Item xs)) tables
each_free old xs fresh [] = tt
each_free old xs fresh (t ∷ tables) =
    (free_is t.tree (old t.tree) xs (5 == t.tree) refl (λ same. subst (λ n. are_fresh (old n) (map item_row xs) ≡ true) (eqb-true 5 t.tree same) fresh), each_free old xs fresh tables)

items_put : (old new : Database) (xs : List ItemRow) → Sets old new 5 (put_all (old.trees 5) (map item_row xs)) → are_fresh (old.trees 5) (map item_row xs) ≡ true → IsPut old new (map Item xs)
items_put old new xs it fresh = record {
  schema = it.schema;
  rows = each_left old.trees new.trees xs it.rows_are old.schema.tables it.others;
  once = each_free old.trees xs fresh old.schema.tables;
}

-- a column behind these
behind : (before row : Row) (at k : ℕ) → length before ≡ at → column (before ++ row) (at + k) ≡ column row k
behind before row at k e = subst (λ n. column (before ++ row) (n + k) ≡ column row k) e (get_or-append-add before row k Null)

-- these are records: none has a last number
abbrev pub AreRecords : List ItemRow → Type 0
AreRecords items = AllByRecursion (λ i. i.last ≡ None) items

-- the rows of values are those of the records
sources_are : (before : Row) (xs : List ItemRow) (at : ℕ) → length before ≡ at → AreRecords xs
    → value_rows (before ++ flat_map given_record (map Item xs)) 7 (length xs) (terms_of at (length xs)) ≡ map item_source xs
sources_are before [] at e records = refl
sources_are before (x ∷ xs) at e records =
    let row = given_record (Item x) ++ flat_map given_record (map Item xs) in
    let first : column (before ++ row) at ≡ Int x.id = subst (λ n. column (before ++ row) n ≡ Int x.id) (omega arith) (behind before row at 0 e) in
    let one = behind before row at 1 e in
    let two = behind before row at 2 e in
    let three = behind before row at 3 e in
    let four = behind before row at 4 e in
    let more = sources_are (before ++ given_record (Item x)) xs (at + 5) (omega (arith, e, length-append before (given_record (Item x)))) records.1 in
    let same = append_assoc before (given_record (Item x)) (flat_map given_record (map Item xs)) in
    let here : eval_all (terms_from at) ((before ++ row) ∷ []) ≡ item_source x = rw (first, one, two, three, four, records.0) in
    ap (λ r. r ∷ value_rows (before ++ row) 7 (length xs) (terms_of (at + 5) (length xs))) here ∙ ap (λ rs. item_source x ∷ rs) (rw same at more)

pub puts_many : (xs : List ItemRow) → length xs ≡ 32 → AreRecords xs → (old new : State) (count : ℕ) → HasArchive old.now.schema → Executes many_text (flat_map given_record (map Item xs)) old new (Ok count)
    → IsPut old.now new.now (map Item xs)
puts_many xs len records old new count has ran =
    let db = old.now.trees in
    let all_given = flat_map given_record (map Item xs) in
    let command = Insert 3 (Values many_terms 7) in
    let schema = around old.now.schema has in
    let at = is_around old.now.schema has in
    let w = runs_as many_text all_given old new schema at command (many_is old.now.schema has) (many_plain old.now.schema has) count ran in
    let text = statement_of many_text (understood schema many_text) in
    let done = went (subst (λ s. Does old.step_limit (mode_of old) all_given (record old.now { schema = s }) text None command (Ok (w.tally, new.now))) at w.changed) in
    let now = ap (λ (p : Tally × Database). p.1) (same_value (went (went done.2).2).2) in
    let sources = went done.1 in
    let written = went (went sources.2).2 in
    let counted = went written.2 in
    let trees : done.0.trees ≡ written.0 = ap (λ (it : Written). it.trees) (same_value counted.2) ∙ same_value counted.1 in
    let edit = edit_of db (record items { tree = 5 }) [] Chosen 0 sources.0 in
    let step = one_step_around old.now.schema has _ db written.0 edit written.1 in
    let these : value_rows all_given 7 32 many_terms ≡ map item_source xs = subst (λ n. value_rows all_given 7 n (terms_of 0 n) ≡ map item_source xs) len (sources_are [] xs 0 refl records) in
    let plain : value_rows (all_given ++ []) 7 32 many_terms ≡ value_rows all_given 7 32 many_terms = ap (λ p. value_rows p 7 32 many_terms) (append-nil all_given) in
    let news : edit.news ≡ map item_row xs =
    ap (λ all. (edit_of db (record items { tree = 5 }) [] Chosen 0 all).news) (sources.1.1 ∙ plain ∙ these) ∙ ap (numbered Chosen (db 5)) (rows_are xs) ∙ numbered_is (db 5) xs in
    let same : new.now.trees ≡ written.0 = ap (λ (d : Database). d.trees) now ∙ trees in
    items_put old.now new.now xs
    (subst (λ all. Sets old.now new.now 5 (put_all (db 5) all)) news (sets_by old.now new.now has _ edit written.0 (ap (λ (d : Database). d.schema) now) same step))
    (subst (λ all. are_fresh (db 5) all ≡ true) news step.fresh)

-- what so many items are put by
pub many_said : (xs : List ItemRow) → length xs ≡ 32 → text_of_all (map Item xs) ≡ many_text
many_said [] len = absurd (omega (arith, len))
many_said (x ∷ []) len = absurd (omega (arith, len))
many_said (x ∷ y ∷ xs) len = refl

-- ---- what is bound

some_same : {X : Type 0} {x y : X} → ◌≡◌ {A = Option X} (Some x) (Some y) → x ≡ y
some_same e = cc

-- the first rows, with the next one
take_suc : {X : Type 0} (xs : List X) (n : ℕ) (x : X) → slice_get xs n ≡ Some x → take (suc n) xs ≡ take n xs ++ x ∷ []
take_suc [] n x e = absurd (let h = e in cc)
take_suc (y ∷ ys) zero x e = ap (λ z. z ∷ []) (some_same e)
take_suc (y ∷ ys) (suc n) x e = ap (λ zs. y ∷ zs) (take_suc ys n x e)

pub take_next : {X : Type 0} (xs : List X) (n : ℕ) (x : X) → slice_get xs n ≡ Some x → take (n + 1) xs ≡ take n xs ++ x ∷ []
take_next xs n x e =
    let one : suc n ≡ n + 1 = omega arith in
    subst (λ k. take k xs ≡ take n xs ++ x ∷ []) one (take_suc xs n x e)

-- a record is an item without a last number
record_is : (put : Put) → is_record put ≡ true → (i : ItemRow) × (put ≡ Item i) × (i.last ≡ None)
record_is (Item i) is = (i, refl, none i.last is)
  where
    none : (last : Option ℕ) → not (is_some last) ≡ true → last ≡ None
    none None is = refl
    none (Some n) is = absurd (let e = is in cc)
record_is (NewDevice d) is = absurd (let e = is in cc)
record_is (Device d) is = absurd (let e = is in cc)
record_is (NewLog l) is = absurd (let e = is in cc)
record_is (Log l) is = absurd (let e = is in cc)
record_is (Beginning b) is = absurd (let e = is in cc)
record_is (Lowered b) is = absurd (let e = is in cc)

-- one more record
record_more : (xs : List ItemRow) (x : ItemRow) → AreRecords xs → x.last ≡ None → AreRecords (xs ++ x ∷ [])
record_more [] x all one = (one, tt)
record_more (y ∷ ys) x all one = (all.0, record_more ys x all.1 one)

-- the first of these are so many records
abbrev pub AreItems : List Put → ℕ → Type 0
AreItems puts n = (items : List ItemRow) × (length items ≡ n) × AreRecords items × (take n puts ≡ map Item items)

pub items_next : (puts : List Put) (n : ℕ) (put : Put) → slice_get puts n ≡ Some put → is_record put ≡ true → AreItems puts n → AreItems puts (n + 1)
items_next puts n put is record_too (items, len, records, front) =
    let it = record_is put record_too in (
      items ++ it.0 ∷ [],
      omega (arith, len, length-append items (it.0 ∷ [])),
      record_more items it.0 records it.2,
      take_next puts n (Item it.0) (is ∙ ap Some it.1) ∙ ap (λ l. l ++ Item it.0 ∷ []) front ∙ sym (map-append Item items (it.0 ∷ [])),
    )

-- what is bound for so many
pub many_given : (xs : List ItemRow) → length xs ≡ 32 → given_all (map Item xs) ≡ flat_map given_record (map Item xs)
many_given [] len = absurd (omega (arith, len))
many_given (x ∷ []) len = absurd (omega (arith, len))
many_given (x ∷ y ∷ xs) len = refl

-- what is bound for the first, with the next one
pub bound_next : (rows : List (List ValueRef)) (puts : List Put) (n : ℕ) (row : List ValueRef) (put : Put) → n < length rows → slice_get puts n ≡ Some put → bound row ≡ given_record put
    → bound (flat_map (λ r. r) (take n rows)) ≡ flat_map given_record (take n puts) → bound (flat_map (λ r. r) (take (n + 1) (set rows n row))) ≡ flat_map given_record (take (n + 1) puts)
bound_next rows puts n row put lt is one was =
    ap (λ l. bound (flat_map (λ r. r) l)) (take-set_at rows n (n + 1) row refl lt)
    ∙ ap bound (flat_map-append (λ (r : List ValueRef). r) (take n rows) (row ∷ []))
    ∙ map-append _ (flat_map (λ r. r) (take n rows)) (row ++ [])
    ∙ ap (λ l. l ++ bound (row ++ [])) was
    ∙ ap (λ l. flat_map given_record (take n puts) ++ l) (ap bound (append-nil row) ∙ one ∙ sym (append-nil (given_record put)))
    ∙ sym (flat_map-append given_record (take n puts) (put ∷ []))
    ∙ ap (flat_map given_record) (sym (take_next puts n put is))

pub one_first : (puts : List Put) → puts ≢ [] → AreAtOnce (take 1 puts)
one_first [] some = absurd (some refl)
one_first (x ∷ xs) some = inl (x, refl)

pub many_of : (puts : List Put) → AreAtOnce puts → length puts ≢ 1 → AreMany puts
many_of puts (inl one) several = absurd (several (ap length one.1))
many_of puts (inr many) several = many
