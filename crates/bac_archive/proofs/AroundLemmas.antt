-- A schema that has what an archive has to have, written with that first and the others behind it.
use Rattle.std.proofs.Common.{◌≡◌, refl, sym, ap, subst, ◌∙◌, ℕ, true, false, codes, Ok, List, [], ◌∷◌, ◌++◌, arith, flat_map, filter_map}
use Rattle.std.specs.Fmt.{digits}
use Rattle.std.specs.List.{All, AllByRecursion}
use Rattle.std.proofs.lemmas.List.Elements.{All-nil, All-from_recursion, recursion_from_All}
use Rattle.sqlite_value.specs.Order.{Row}
use Rattle.sqlite_trees.specs.Tree.{Trees}
use Rattle.sqlite_schema.specs.declared.schema.Keys.{Keys}
use Rattle.sqlite_schema.specs.declared.schema.Table.{Table}
use Rattle.sqlite_schema.specs.declared.schema.Index.{Index}
use Rattle.sqlite_schema.specs.declared.schema.View.{View}
use Rattle.sqlite_schema.specs.declared.schema.Schema.{Schema}
use Rattle.sqlite_rules.specs.Edit.{Edit, Applies, taken_by}
use Rattle.sqlite_rules.specs.Action.{work_for, Writes}
use Rattle.sqlite.proofs.Callers.{one_step}
use Rattle.bac_archive.specs.Schema.{HasArchive, HasView, HasViews, RefersNowhere, archive_schema, archive_tables, archive_views, gaps_text, epochs_text, records_text, newest_text, lets_in, own_indexes, plain_view}

pub parts_are : archive_schema ≡ record { tables = archive_tables; indexes = own_indexes; views = archive_views }
unfolding digits
parts_are = refl

-- the tables and the index of an archive, with these others behind them
abbrev pub wide : List Table → List Index → List View → Schema
wide others more views = record { tables = archive_tables ++ others; indexes = own_indexes ++ more; views = views }

abbrev pub around : (s : Schema) → HasArchive s → Schema
around s has = wide has.tables.others has.indexes.others s.views

pub is_around : (s : Schema) (has : HasArchive s) → s ≡ around s has
is_around s has =
    ap (λ t. record { tables = t; indexes = s.indexes; views = s.views }) has.tables.are
    ∙ ap (λ i. record { tables = archive_tables ++ has.tables.others; indexes = i; views = s.views }) has.indexes.are

-- what a database has that has the schema of another
pub has_still : (old new : Schema) → HasArchive old → new ≡ old → HasArchive new
has_still old new has same = subst HasArchive (sym same) has

-- tables without foreign keys set off no action
none_follow : (schema : Schema) (keys : Keys) (tree : ℕ) (olds news : List Row) (others : List Table) → AllByRecursion RefersNowhere others
    → flat_map (λ (child : Table). filter_map (work_for schema keys 0 tree olds news child) child.references) others ≡ []
none_follow schema keys tree olds news [] alone = refl
none_follow schema keys tree olds news (t ∷ ts) alone = rw alone.0 (none_follow schema keys tree olds news ts alone.1)

-- so a write is its one step
pub one_step_around : (s : Schema) (has : HasArchive s) (keys : Keys) (db next : Trees) (edit : Edit) → Writes (around s has) keys db edit (Ok next) → Applies (around s has) keys db edit next
one_step_around s has keys db next edit wrote =
    one_step (around s has) keys db next edit
    (none_follow (around s has) keys edit.table.tree (taken_by db edit) edit.news has.tables.others (recursion_from_All RefersNowhere has.tables.others has.tables.alone)) wrote

-- a view that is among four, whatever their texts are
four_views : (a b c d p q r s : List ℕ) → HasView a p (plain_view a 7 p ∷ plain_view b 8 q ∷ plain_view c 9 r ∷ plain_view d 10 s ∷ [])
    × HasView b q (plain_view a 7 p ∷ plain_view b 8 q ∷ plain_view c 9 r ∷ plain_view d 10 s ∷ [])
    × HasView c r (plain_view a 7 p ∷ plain_view b 8 q ∷ plain_view c 9 r ∷ plain_view d 10 s ∷ [])
    × HasView d s (plain_view a 7 p ∷ plain_view b 8 q ∷ plain_view c 9 r ∷ plain_view d 10 s ∷ [])
four_views a b c d p q r s = (
  (plain_view a 7 p, (0, omega arith, refl), refl),
  (plain_view b 8 q, (1, omega arith, refl), refl),
  (plain_view c 9 r, (2, omega arith, refl), refl),
  (plain_view d 10 s, (3, omega arith, refl), refl),
)

no_trigger : (a b c d p q r s : List ℕ) → All (λ (view : View). view.binds ≡ false) (plain_view a 7 p ∷ plain_view b 8 q ∷ plain_view c 9 r ∷ plain_view d 10 s ∷ [])
no_trigger a b c d p q r s =
    All-from_recursion (λ (view : View). view.binds ≡ false) (plain_view a 7 p ∷ plain_view b 8 q ∷ plain_view c 9 r ∷ plain_view d 10 s ∷ []) (refl, (refl, (refl, (refl, tt))))

made_views : HasViews archive_views
made_views =
    let all = four_views (codes "records") (codes "gaps") (codes "epochs") (codes "newest") records_text gaps_text epochs_text newest_text in
    record {
      records = all.0;
      gaps = all.1;
      epochs = all.2;
      newest = all.3;
      no_trigger = no_trigger (codes "records") (codes "gaps") (codes "epochs") (codes "newest") records_text gaps_text epochs_text newest_text;
    }

-- a new archive has all
pub made_has : HasArchive archive_schema
made_has = subst HasArchive (sym parts_are) (record {
  tables = record { others = []; are = refl; alone = All-nil RefersNowhere };
  indexes = record { others = []; are = refl; let_in = All-nil (λ (i : Index). lets_in i ≡ true) };
  views = made_views;
})

-- and so has what is as a new archive
pub made_is : (s : Schema) → s ≡ archive_schema → HasArchive s
made_is s is = subst HasArchive (sym is) made_has
