-- What the statements that put new rows do under the schema of an archive.
use Rattle.std.proofs.Common.{◌≡◌, ◌≢◌, ℕ, ℤ, false, List, [], ◌∷◌, drop, Ok, None, refl, sym, ap, subst, ◌∙◌}
use Rattle.std.specs.List.{AllByRecursion}
use Rattle.sqlite_value.specs.declared.value.Value.{Value}
use Rattle.sqlite_value.specs.declared.value.Value.TheVariants.{Null, Int}
use Rattle.sqlite_value.specs.Order.{Row}
use Rattle.sqlite_sql.specs.Term.{Term, lit, col}
use Rattle.sqlite_schema.specs.declared.command.Command.TheVariants.{Insert}
use Rattle.sqlite_schema.specs.declared.command.Source.TheVariants.{Values}
use Rattle.sqlite_schema.specs.declared.schema.Keys.{Keys}
use Rattle.sqlite_schema.specs.declared.schema.Schema.{Schema}
use Rattle.sqlite_rules.specs.Cast.{cast_all}
use Rattle.sqlite_rules.specs.Edit.{Edit, Applies, edit_of, edited, is_taken, put_all}
use Rattle.sqlite_rules.specs.declared.error.Rowids.TheVariants.{Chosen}
use Rattle.sqlite_trees.specs.Tree.{Trees, put_row}
use Rattle.sqlite_tied.specs.Compute.{everything}
use Rattle.sqlite.specs.Effect.{Database}
use Rattle.sqlite.specs.Does.{Tally, Does}
use Rattle.sqlite.specs.Rows.{Written}
use Rattle.sqlite.specs.State.{State, mode_of, Executes}
use Rattle.sqlite.specs.Listing.{understood}
use Rattle.sqlite.proofs.Callers.{IsPlain, command_of, statement_of, runs_as}
use Rattle.bac_archive.specs.Schema.{HasArchive, devices, logs, items, beginnings}
use Rattle.bac_archive.specs.Put.{device_text, log_text, item_text, beginning_text}
use Rattle.bac_archive.proofs.AroundLemmas.{around, is_around, one_step_around}
use Rattle.bac_archive.proofs.RowsLemmas.{cast_int, cast_null, from_not, same_value, went}

-- one table of a database has these rows, and each other has its own
pub record Sets (old new : Database) (tree : ℕ) (rows : List Row) : Type 0 where
  pub schema : new.schema ≡ old.schema
  pub rows_are : new.trees tree ≡ rows
  pub others : AllByRecursion (λ t. t.tree ≢ tree → new.trees t.tree ≡ old.trees t.tree) old.schema.tables

pub sets_by : (old new : Database) (has : HasArchive old.schema) (keys : Keys) (edit : Edit) (next : Trees) → new.schema ≡ around old.schema has → new.trees ≡ next
    → Applies (around old.schema has) keys old.trees edit next → Sets old new edit.table.tree (edited old.trees edit)
sets_by old new has keys edit next schema same step =
    let at = is_around old.schema has in
    record {
      schema = schema ∙ sym at;
      rows_are = ap (λ (t : Trees). t edit.table.tree) same ∙ step.rows;
      others = subst (λ (s : Schema). AllByRecursion (λ t. t.tree ≢ edit.table.tree → new.trees t.tree ≡ old.trees t.tree) s.tables) (sym at)
          (subst (λ (trees : Trees). AllByRecursion (λ t. t.tree ≢ edit.table.tree → trees t.tree ≡ old.trees t.tree) (around old.schema has).tables) (sym same) step.tables);
    }

-- a new row is put
pub record Adds (old new : Database) (tree : ℕ) (row : Row) : Type 0 where
  pub sets : Sets old new tree (put_row row (old.trees tree))
  pub free : is_taken (old.trees tree) row ≡ false

-- ---- devices

abbrev device_terms : List Term
device_terms = col 0 0 ∷ lit Null ∷ col 0 1 ∷ col 0 2 ∷ col 0 3 ∷ col 0 4 ∷ col 0 5 ∷ col 0 6 ∷ col 0 7 ∷ col 0 8 ∷ col 0 9 ∷ col 0 10 ∷ []

device_is : (s : Schema) (has : HasArchive s) → command_of (understood (around s has) device_text) ≡ Insert 1 (Values device_terms 12)
unfolding understood everything
device_is s has = refl

device_plain : (s : Schema) (has : HasArchive s) → IsPlain (understood (around s has) device_text)
unfolding understood everything
device_plain s has = (refl, refl)

module _ (id : ℤ) (v1 v2 v3 v4 v5 v6 v7 v8 v9 v10 : Value) where
  abbrev device_given : Row
  device_given = Int id ∷ v1 ∷ v2 ∷ v3 ∷ v4 ∷ v5 ∷ v6 ∷ v7 ∷ v8 ∷ v9 ∷ v10 ∷ []

  abbrev device_made : Row
  device_made = Int id ∷ Null ∷ cast_all (drop 1 devices.columns) (v1 ∷ v2 ∷ v3 ∷ v4 ∷ v5 ∷ v6 ∷ v7 ∷ v8 ∷ v9 ∷ v10 ∷ [])

  pub adds_device : (old new : State) (count : ℕ) → HasArchive old.now.schema → Executes device_text device_given old new (Ok count) → Adds old.now new.now 1 device_made
  adds_device old new count has ran =
      let db = old.now.trees in
      let command = Insert 1 (Values device_terms 12) in
      let schema = around old.now.schema has in
      let at = is_around old.now.schema has in
      let w = runs_as device_text device_given old new schema at command (device_is old.now.schema has) (device_plain old.now.schema has) count ran in
      let text = statement_of device_text (understood schema device_text) in
      let done = went (subst (λ s. Does old.step_limit (mode_of old) device_given (record old.now { schema = s }) text None command (Ok (w.tally, new.now))) at w.changed) in
      let now = ap (λ (p : Tally × Database). p.1) (same_value (went (went done.2).2).2) in
      let sources = went done.1 in
      let written = went (went sources.2).2 in
      let counted = went written.2 in
      let trees : done.0.trees ≡ written.0 = ap (λ (it : Written). it.trees) (same_value counted.2) ∙ same_value counted.1 in
      let edit = edit_of db (record devices { tree = 1 }) [] Chosen 0 sources.0 in
      let step = one_step_around old.now.schema has _ db written.0 edit written.1 in
      let news : edit.news ≡ device_made ∷ [] = ap (λ all. (edit_of db (record devices { tree = 1 }) [] Chosen 0 all).news) sources.1.1 ∙ rw (cast_int id, cast_null) in
      let same : new.now.trees ≡ written.0 = ap (λ (d : Database). d.trees) now ∙ trees in
      record {
        sets = subst (λ all. Sets old.now new.now 1 (put_all (db 1) all)) news (sets_by old.now new.now has _ edit written.0 (ap (λ (d : Database). d.schema) now) same step);
        free = from_not _ (rw news at step.fresh);
      }

-- ---- logs

abbrev log_terms : List Term
log_terms = col 0 0 ∷ lit Null ∷ col 0 1 ∷ col 0 2 ∷ col 0 3 ∷ col 0 4 ∷ col 0 5 ∷ col 0 6 ∷ col 0 7 ∷ col 0 8 ∷ col 0 9 ∷ []

log_is : (s : Schema) (has : HasArchive s) → command_of (understood (around s has) log_text) ≡ Insert 2 (Values log_terms 11)
unfolding understood everything
log_is s has = refl

log_plain : (s : Schema) (has : HasArchive s) → IsPlain (understood (around s has) log_text)
unfolding understood everything
log_plain s has = (refl, refl)

module _ (id : ℤ) (v1 v2 v3 v4 v5 v6 v7 v8 v9 : Value) where
  abbrev log_given : Row
  log_given = Int id ∷ v1 ∷ v2 ∷ v3 ∷ v4 ∷ v5 ∷ v6 ∷ v7 ∷ v8 ∷ v9 ∷ []

  abbrev log_made : Row
  log_made = Int id ∷ Null ∷ cast_all (drop 1 logs.columns) (v1 ∷ v2 ∷ v3 ∷ v4 ∷ v5 ∷ v6 ∷ v7 ∷ v8 ∷ v9 ∷ [])

  pub adds_log : (old new : State) (count : ℕ) → HasArchive old.now.schema → Executes log_text log_given old new (Ok count) → Adds old.now new.now 3 log_made
  adds_log old new count has ran =
      let db = old.now.trees in
      let command = Insert 2 (Values log_terms 11) in
      let schema = around old.now.schema has in
      let at = is_around old.now.schema has in
      let w = runs_as log_text log_given old new schema at command (log_is old.now.schema has) (log_plain old.now.schema has) count ran in
      let text = statement_of log_text (understood schema log_text) in
      let done = went (subst (λ s. Does old.step_limit (mode_of old) log_given (record old.now { schema = s }) text None command (Ok (w.tally, new.now))) at w.changed) in
      let now = ap (λ (p : Tally × Database). p.1) (same_value (went (went done.2).2).2) in
      let sources = went done.1 in
      let written = went (went sources.2).2 in
      let counted = went written.2 in
      let trees : done.0.trees ≡ written.0 = ap (λ (it : Written). it.trees) (same_value counted.2) ∙ same_value counted.1 in
      let edit = edit_of db (record logs { tree = 3 }) [] Chosen 0 sources.0 in
      let step = one_step_around old.now.schema has _ db written.0 edit written.1 in
      let news : edit.news ≡ log_made ∷ [] = ap (λ all. (edit_of db (record logs { tree = 3 }) [] Chosen 0 all).news) sources.1.1 ∙ rw (cast_int id, cast_null) in
      let same : new.now.trees ≡ written.0 = ap (λ (d : Database). d.trees) now ∙ trees in
      record {
        sets = subst (λ all. Sets old.now new.now 3 (put_all (db 3) all)) news (sets_by old.now new.now has _ edit written.0 (ap (λ (d : Database). d.schema) now) same step);
        free = from_not _ (rw news at step.fresh);
      }

-- ---- items

abbrev item_terms : List Term
item_terms = col 0 0 ∷ lit Null ∷ col 0 1 ∷ col 0 2 ∷ col 0 3 ∷ col 0 4 ∷ col 0 5 ∷ []

item_is : (s : Schema) (has : HasArchive s) → command_of (understood (around s has) item_text) ≡ Insert 3 (Values item_terms 7)
unfolding understood everything
item_is s has = refl

item_plain : (s : Schema) (has : HasArchive s) → IsPlain (understood (around s has) item_text)
unfolding understood everything
item_plain s has = (refl, refl)

module _ (id : ℤ) (v1 v2 v3 v4 v5 : Value) where
  abbrev item_given : Row
  item_given = Int id ∷ v1 ∷ v2 ∷ v3 ∷ v4 ∷ v5 ∷ []

  abbrev item_made : Row
  item_made = Int id ∷ Null ∷ cast_all (drop 1 items.columns) (v1 ∷ v2 ∷ v3 ∷ v4 ∷ v5 ∷ [])

  pub adds_item : (old new : State) (count : ℕ) → HasArchive old.now.schema → Executes item_text item_given old new (Ok count) → Adds old.now new.now 5 item_made
  adds_item old new count has ran =
      let db = old.now.trees in
      let command = Insert 3 (Values item_terms 7) in
      let schema = around old.now.schema has in
      let at = is_around old.now.schema has in
      let w = runs_as item_text item_given old new schema at command (item_is old.now.schema has) (item_plain old.now.schema has) count ran in
      let text = statement_of item_text (understood schema item_text) in
      let done = went (subst (λ s. Does old.step_limit (mode_of old) item_given (record old.now { schema = s }) text None command (Ok (w.tally, new.now))) at w.changed) in
      let now = ap (λ (p : Tally × Database). p.1) (same_value (went (went done.2).2).2) in
      let sources = went done.1 in
      let written = went (went sources.2).2 in
      let counted = went written.2 in
      let trees : done.0.trees ≡ written.0 = ap (λ (it : Written). it.trees) (same_value counted.2) ∙ same_value counted.1 in
      let edit = edit_of db (record items { tree = 5 }) [] Chosen 0 sources.0 in
      let step = one_step_around old.now.schema has _ db written.0 edit written.1 in
      let news : edit.news ≡ item_made ∷ [] = ap (λ all. (edit_of db (record items { tree = 5 }) [] Chosen 0 all).news) sources.1.1 ∙ rw (cast_int id, cast_null) in
      let same : new.now.trees ≡ written.0 = ap (λ (d : Database). d.trees) now ∙ trees in
      record {
        sets = subst (λ all. Sets old.now new.now 5 (put_all (db 5) all)) news (sets_by old.now new.now has _ edit written.0 (ap (λ (d : Database). d.schema) now) same step);
        free = from_not _ (rw news at step.fresh);
      }

-- ---- beginnings

abbrev beginning_terms : List Term
beginning_terms = col 0 0 ∷ lit Null ∷ col 0 1 ∷ col 0 2 ∷ []

beginning_is : (s : Schema) (has : HasArchive s) → command_of (understood (around s has) beginning_text) ≡ Insert 4 (Values beginning_terms 4)
unfolding understood everything
beginning_is s has = refl

beginning_plain : (s : Schema) (has : HasArchive s) → IsPlain (understood (around s has) beginning_text)
unfolding understood everything
beginning_plain s has = (refl, refl)

module _ (id : ℤ) (v1 v2 : Value) where
  abbrev beginning_given : Row
  beginning_given = Int id ∷ v1 ∷ v2 ∷ []

  abbrev beginning_made : Row
  beginning_made = Int id ∷ Null ∷ cast_all (drop 1 beginnings.columns) (v1 ∷ v2 ∷ [])

  pub adds_beginning : (old new : State) (count : ℕ) → HasArchive old.now.schema → Executes beginning_text beginning_given old new (Ok count) → Adds old.now new.now 6 beginning_made
  adds_beginning old new count has ran =
      let db = old.now.trees in
      let command = Insert 4 (Values beginning_terms 4) in
      let schema = around old.now.schema has in
      let at = is_around old.now.schema has in
      let w = runs_as beginning_text beginning_given old new schema at command (beginning_is old.now.schema has) (beginning_plain old.now.schema has) count ran in
      let text = statement_of beginning_text (understood schema beginning_text) in
      let done = went (subst (λ s. Does old.step_limit (mode_of old) beginning_given (record old.now { schema = s }) text None command (Ok (w.tally, new.now))) at w.changed) in
      let now = ap (λ (p : Tally × Database). p.1) (same_value (went (went done.2).2).2) in
      let sources = went done.1 in
      let written = went (went sources.2).2 in
      let counted = went written.2 in
      let trees : done.0.trees ≡ written.0 = ap (λ (it : Written). it.trees) (same_value counted.2) ∙ same_value counted.1 in
      let edit = edit_of db (record beginnings { tree = 6 }) [] Chosen 0 sources.0 in
      let step = one_step_around old.now.schema has _ db written.0 edit written.1 in
      let news : edit.news ≡ beginning_made ∷ [] = ap (λ all. (edit_of db (record beginnings { tree = 6 }) [] Chosen 0 all).news) sources.1.1 ∙ rw (cast_int id, cast_null) in
      let same : new.now.trees ≡ written.0 = ap (λ (d : Database). d.trees) now ∙ trees in
      record {
        sets = subst (λ all. Sets old.now new.now 6 (put_all (db 6) all)) news (sets_by old.now new.now has _ edit written.0 (ap (λ (d : Database). d.schema) now) same step);
        free = from_not _ (rw news at step.fresh);
      }
