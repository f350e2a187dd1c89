-- What may stand beside an archive.
use Rattle.std.proofs.Common.{◌≡◌, ◌↔◌, true, false, sym, ap, subst, ◌∙◌, List, [], ◌∷◌, ◌++◌, ℕ, drop}
use Rattle.std.specs.List.{Contains}
use Rattle.std.proofs.lemmas.List.Elements.{All-contains, All-push, Contains-append_left, Contains-push}
use Rattle.sqlite_schema.specs.declared.schema.Table.{Table}
use Rattle.sqlite_schema.specs.declared.schema.Index.{Index}
use Rattle.sqlite_schema.specs.declared.schema.View.{View}
use Rattle.sqlite_schema.specs.declared.schema.Schema.{Schema}
use Rattle.sqlite_catalog.specs.Change.{with_table, with_index, with_view}
use Rattle.bac_archive.specs.Schema.{HasArchive, HasView, RefersNowhere, lets_in}
use Rattle.bac_archive.specs.Beside.{StandBeside}

abbrev Admits : Index → Type 0
Admits i = lets_in i ≡ true

abbrev IsNoTrigger : View → Type 0
IsNoTrigger v = v.binds ≡ false

still_there : (name sql : List ℕ) (views : List View) (v : View) → HasView name sql views → HasView name sql (views ++ v ∷ [])
still_there name sql views v (w, there, is) = (w, Contains-append_left views (v ∷ []) w there, is)

module _ (s : Schema) (has : HasArchive s) where
  table_beside : (t : Table) → HasArchive (with_table s t) ↔ RefersNowhere t
  table_beside t = (
    λ it.
        let same : has.tables.others ++ t ∷ [] ≡ it.tables.others = ap (drop 5) (sym (ap (λ l. l ++ t ∷ []) has.tables.are) ∙ it.tables.are) in
        All-contains RefersNowhere it.tables.others t it.tables.alone (subst (λ l. Contains l t) same (Contains-push has.tables.others t)),
    λ nowhere. record {
      tables = record { others = has.tables.others ++ t ∷ []; are = ap (λ l. l ++ t ∷ []) has.tables.are; alone = All-push RefersNowhere has.tables.others t has.tables.alone nowhere };
      indexes = has.indexes;
      views = has.views;
    },
  )

  index_beside : (i : Index) → HasArchive (with_index s i) ↔ (lets_in i ≡ true)
  index_beside i = (
    λ it.
        let same : has.indexes.others ++ i ∷ [] ≡ it.indexes.others = ap (drop 2) (sym (ap (λ l. l ++ i ∷ []) has.indexes.are) ∙ it.indexes.are) in
        All-contains Admits it.indexes.others i it.indexes.let_in (subst (λ l. Contains l i) same (Contains-push has.indexes.others i)),
    λ lets. record {
      tables = has.tables;
      indexes = record { others = has.indexes.others ++ i ∷ []; are = ap (λ l. l ++ i ∷ []) has.indexes.are; let_in = All-push Admits has.indexes.others i has.indexes.let_in lets };
      views = has.views;
    },
  )

  view_beside : (v : View) → HasArchive (with_view s v) ↔ (v.binds ≡ false)
  view_beside v = (
    λ it. All-contains IsNoTrigger (s.views ++ v ∷ []) v it.views.no_trigger (Contains-push s.views v),
    λ plain. record {
      tables = has.tables;
      indexes = has.indexes;
      views = record {
        records = still_there _ _ s.views v has.views.records;
        gaps = still_there _ _ s.views v has.views.gaps;
        epochs = still_there _ _ s.views v has.views.epochs;
        newest = still_there _ _ s.views v has.views.newest;
        no_trigger = All-push IsNoTrigger s.views v has.views.no_trigger plain;
      };
    },
  )

pub stand_beside : StandBeside
stand_beside s has = (table_beside s has, (index_beside s has, view_beside s has))
