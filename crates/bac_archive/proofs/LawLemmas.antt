-- What is so of every batch.
use Rattle.std.proofs.Common.{◌≡◌, ℤ, pos, false, List, [], ◌∷◌, refl, sym, subst, ◌∙◌}
use Rattle.std.specs.List.{AllByRecursion, Contains}
use Rattle.sqlite_value.specs.Order.{Row as Values}
use Rattle.sqlite_schema.specs.declared.schema.Table.{Table}
use Rattle.bac_archive.specs.Put.{AreFree, HaveOwnIds, IsFree, PutsJoin, PutsKeepVersion, PutsLoseNothing, after, is_counted, left, lowered, row_of}
use Rattle.bac_archive.specs.declared.row.Put.{Put}
use Rattle.bac_archive.specs.declared.row.Put.TheVariants.{NewDevice, Device, NewLog, Log, Beginning, Lowered, Item}
use Rattle.bac_archive.proofs.LeftLemmas.{HasInt, has_left, has_put, kept_lowered, lowered_takes, own_behind, own_left, put_has}
use Rattle.bac_archive.proofs.PutLemmas.{put_then}

-- ---- one put

items_put : (put : Put) (rows : List Values) (row : Values) → IsFree 5 rows put → Contains rows row → Contains (after 5 rows put) row
items_put (NewDevice d) rows row free there = there
items_put (Device d) rows row free there = there
items_put (NewLog l) rows row free there = there
items_put (Log l) rows row free there = there
items_put (Beginning b) rows row free there = there
items_put (Lowered b) rows row free there = there
items_put (Item i) rows row free there = put_has (row_of (Item i)) rows (free refl refl) row there

ids_put : (put : Put) (rows : List Values) (id : ℤ) → IsFree 6 rows put → HasInt rows id → HasInt (after 6 rows put) id
ids_put (NewDevice d) rows id free has = has
ids_put (Device d) rows id free has = has
ids_put (NewLog l) rows id free has = has
ids_put (Log l) rows id free has = has
ids_put (Beginning b) rows id free has = has_put (row_of (Beginning b)) rows (free refl refl) id has
ids_put (Lowered b) rows id free has = has_left (pos b.id) (row_of (Lowered b)) refl rows (lowered (row_of (Lowered b)) rows) (lowered_takes (pos b.id) (row_of (Lowered b)) refl rows) id has
ids_put (Item i) rows id free has = has

own_put : (put : Put) (rows : List Values) → IsFree 6 rows put → HaveOwnIds rows → HaveOwnIds (after 6 rows put)
own_put (NewDevice d) rows free own = own
own_put (Device d) rows free own = own
own_put (NewLog l) rows free own = own
own_put (Log l) rows free own = own
own_put (Beginning b) rows free own = own_behind (row_of (Beginning b)) rows (free refl refl) own
own_put (Lowered b) rows free own = own_left (pos b.id) (row_of (Lowered b)) refl rows (lowered (row_of (Lowered b)) rows) (lowered_takes (pos b.id) (row_of (Lowered b)) refl rows) own
own_put (Item i) rows free own = own

kept_put : (put : Put) (rows : List Values) (row : Values) → IsFree 6 rows put → HaveOwnIds rows → is_counted row ≡ false → Contains rows row → Contains (after 6 rows put) row
kept_put (NewDevice d) rows row free own is there = there
kept_put (Device d) rows row free own is there = there
kept_put (NewLog l) rows row free own is there = there
kept_put (Log l) rows row free own is there = there
kept_put (Beginning b) rows row free own is there = put_has (row_of (Beginning b)) rows (free refl refl) row there
kept_put (Lowered b) rows row free own is there = kept_lowered (pos b.id) (row_of (Lowered b)) refl rows row own is there
kept_put (Item i) rows row free own is there = there

-- ---- a batch

items_left : (puts : List Put) (rows : List Values) (row : Values) → AreFree 5 rows puts → Contains rows row → Contains (left 5 rows puts) row
items_left [] rows row free there = there
items_left (put ∷ puts) rows row free there = items_left puts (after 5 rows put) row free.1 (items_put put rows row free.0 there)

ids_left : (puts : List Put) (rows : List Values) (id : ℤ) → AreFree 6 rows puts → HasInt rows id → HasInt (left 6 rows puts) id
ids_left [] rows id free has = has
ids_left (put ∷ puts) rows id free has = ids_left puts (after 6 rows put) id free.1 (ids_put put rows id free.0 has)

kept_left : (puts : List Put) (rows : List Values) (row : Values) → AreFree 6 rows puts → HaveOwnIds rows → is_counted row ≡ false → Contains rows row → Contains (left 6 rows puts) row
kept_left [] rows row free own is there = there
kept_left (put ∷ puts) rows row free own is there =
    kept_left puts (after 6 rows put) row free.1 (own_put put rows free.0 own) is (kept_put put rows row free.0 own is there)

pub lose_nothing : PutsLoseNothing
lose_nothing old new puts has put =
    let rows = subst (AllByRecursion (λ (t : Table). new.trees t.tree ≡ left t.tree (old.trees t.tree) puts)) has.tables.are put.rows in
    let once = subst (AllByRecursion (λ (t : Table). AreFree t.tree (old.trees t.tree) puts)) has.tables.are put.once in
    record {
      items = λ row there. subst (λ l. Contains l row) (sym rows.1.1.1.0) (items_left puts (old.trees 5) row once.1.1.1.0 there);
      ids = λ row id there is. subst (λ l. HasInt l id) (sym rows.1.1.1.1.0) (ids_left puts (old.trees 6) id once.1.1.1.1.0 (row, there, is));
      beginnings = λ own row there is. subst (λ l. Contains l row) (sym rows.1.1.1.1.0) (kept_left puts (old.trees 6) row once.1.1.1.1.0 own is there);
    }

-- no put is of the table of the version
none_of_version : (puts : List Put) (rows : List Values) → left 0 rows puts ≡ rows
none_of_version [] rows = refl
none_of_version (NewDevice d ∷ puts) rows = none_of_version puts rows
none_of_version (Device d ∷ puts) rows = none_of_version puts rows
none_of_version (NewLog l ∷ puts) rows = none_of_version puts rows
none_of_version (Log l ∷ puts) rows = none_of_version puts rows
none_of_version (Beginning b ∷ puts) rows = none_of_version puts rows
none_of_version (Lowered b ∷ puts) rows = none_of_version puts rows
none_of_version (Item i ∷ puts) rows = none_of_version puts rows

pub keep_version : PutsKeepVersion
keep_version old new puts has put =
    let rows = subst (AllByRecursion (λ (t : Table). new.trees t.tree ≡ left t.tree (old.trees t.tree) puts)) has.tables.are put.rows in
    rows.0 ∙ none_of_version puts (old.trees 0)

pub join : PutsJoin
join = put_then
