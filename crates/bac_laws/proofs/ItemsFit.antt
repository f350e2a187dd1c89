-- The rows of items that puts leave: those that were there, gaps, and records.
use Rattle.std.proofs.Common.{◌≡◌, ◌∙◌, ◌⊎◌, inl, inr, ℕ, pos, ◌+◌, ◌*◌, Bool, true, false, List, [], ◌∷◌, ◌++◌, map, drop, codes}
use Rattle.std.proofs.Common.{refl, sym, ap, subst, append_assoc}
use Rattle.std.specs.List.{AllByRecursion, Contains}
use Rattle.sqlite_rules.specs.Cast.{cast, cast_all}
use Rattle.sqlite_schema.specs.declared.schema.Kind.TheVariants.{Integer, Text as TextKind, Real as RealKind}
use Rattle.sqlite_schema.specs.declared.schema.Table.{Table}
use Rattle.sqlite_sql.specs.Ops.{unary}
use Rattle.sqlite_trees.specs.Tree.{rowid}
use Rattle.sqlite_value.specs.Order.{Row as Values, value_cmp}
use Rattle.sqlite_value.specs.declared.value.Value.{Value}
use Rattle.sqlite_value.specs.declared.value.Value.TheVariants.{Int, Null, Real, Text}
use Rattle.sqlite.specs.Effect.{Database}
use Rattle.sqlite.specs.Values.{bound_value, or_null}
use Rattle.bac_archive.proofs.LeftLemmas.{from_put}
use Rattle.bac_archive.proofs.RowsLemmas.{cast_int, cast_null}
use Rattle.bac_archive.specs.Put.{AreFree, IsFree, IsPut, after, bound_columns, columns_of, left, row_of}
use Rattle.bac_archive.specs.Schema.{HasArchive, items}
use Rattle.bac_archive.specs.declared.row.Put.{Put}
use Rattle.bac_archive.specs.declared.row.Put.TheVariants.{NewDevice, Device, NewLog, Log, Beginning, Lowered, Item}
use Rattle.bac_device_poller.specs.Puts.{PutAs, doubt_text, gap_columns, put_as, record_columns}
use Rattle.bac_print.specs.Entries.{datum_text, flags_text}
use Rattle.bac_row_ids.specs.Rows.{key, stamp_text, value_of}
use Rattle.bac_walk.specs.declared.batch.Numbered.{Numbered}
use Rattle.bac_laws.proofs.RowsFit.{Good, IsItemOf, IsKnown, Sound, known_on}
use Rattle.bac_laws.proofs.TablesFit.{Devices, Logs, all_devices, all_logs}
use Rattle.bac_laws.specs.Added.{IsGapRow, IsRecordRow}

-- what SQLite makes of the columns of an item
made : Values → Values
made columns = rowid (bound_columns columns) ∷ Null ∷ cast_all (drop 1 items.columns) (drop 1 (bound_columns columns))

real_null : cast RealKind Null ≡ Null
unfolding unary value_cmp
real_null = refl

doubts : (doubtful : Bool) → let doubt : Value = cast TextKind (bound_value (or_null Text (doubt_text doubtful))) in (doubt ≡ Null) ⊎ (doubt ≡ Text (codes "or began anew"))
doubts true = inr refl
doubts false = inl refl

gap_made : (era first last : ℕ) (doubtful : Bool) → IsGapRow (made (gap_columns era first last doubtful))
unfolding made
gap_made era first last doubtful =
    let doubt : Value = cast TextKind (bound_value (or_null Text (doubt_text doubtful))) in
    let one : List Value = Int (pos (key era first)) ∷ Null ∷ cast Integer (Int (pos last)) ∷ Null ∷ cast RealKind Null ∷ doubt ∷ Null ∷ [] in (
      pos (key era first),
      last,
      doubt,
      doubts doubtful,
      ap (λ (v : Value). let row : Values = Int (pos (key era first)) ∷ Null ∷ v ∷ Null ∷ cast RealKind Null ∷ doubt ∷ Null ∷ [] in row) (cast_int (pos last))
          ∙ ap (λ (v : Value). let row : Values = Int (pos (key era first)) ∷ Null ∷ Int (pos last) ∷ Null ∷ v ∷ doubt ∷ Null ∷ [] in row) real_null,
    )

record_made : (era : ℕ) (held : Numbered) → IsRecordRow era held (made (record_columns era held))
unfolding made
record_made era held =
    ap (λ (v : Value). let row : Values = Int (pos (key era held.number)) ∷ Null ∷ v ∷ Text (stamp_text held.entry) ∷ cast RealKind (bound_value (or_null Real (value_of held.entry.datum)))
    ∷ Text (datum_text held.entry.datum) ∷ Text (flags_text held.entry.flags) ∷ [] in row) cast_null

module _ (K : ℕ → ℕ → ℕ → Type 0) (V : ℕ → Value → Type 0) (P : ℕ → ℕ → Numbered → Type 0) where
  -- the row of a gap, or of a record that came of a log that is known
  abbrev pub IsNew : List PutAs → Values → Type 0
  IsNew before row = IsGapRow row ⊎ ((log : ℕ) × (epoch : ℕ) × (device : ℕ) × (instance : ℕ) × (held : Numbered)
      × IsKnown K V before log device instance × P device instance held × IsRecordRow (log * 32768 + epoch) held row)

  new_later : (before more : List PutAs) (row : Values) → IsNew before row → IsNew (before ++ more) row
  new_later before more row (inl gap) = inl gap
  new_later before more row (inr (log, epoch, device, instance, held, known, came, is)) =
      inr (log, epoch, device, instance, held, known_on K V before more log device instance known, came, is)

  new_made : (before : List PutAs) (log device instance : ℕ) (columns : Values) → IsKnown K V before log device instance → IsItemOf K V P log device instance columns
      → IsNew before (made columns)
  new_made before log device instance columns known (inl (era, first, last, doubtful, is)) =
      inl (subst (λ (c : Values). IsGapRow (made c)) (sym is) (gap_made era first last doubtful))
  new_made before log device instance columns known (inr (epoch, held, came, is)) =
      inr (log, epoch, device, instance, held, known, came, subst (λ (c : Values). IsRecordRow (log * 32768 + epoch) held (made c)) (sym is) (record_made (log * 32768 + epoch) held))

  -- ---- one put

  abbrev Left : List PutAs → List Values → Values → Type 0
  Left before rows row = Contains rows row ⊎ IsNew before row

  one_left : (before : List PutAs) (put : Put) (rows : List Values) (row : Values) → IsFree 5 rows put → Good K V P before (put_as put)
      → Contains (after 5 rows put) row → Left before rows row
  unfolding made
  one_left before (NewDevice d) rows row free good there = inl there
  one_left before (Device d) rows row free good there = inl there
  one_left before (NewLog l) rows row free good there = inl there
  one_left before (Log l) rows row free good there = inl there
  one_left before (Beginning b) rows row free good there = inl there
  one_left before (Lowered b) rows row free good there = inl there
  one_left before (Item i) rows row free good there = by (from_put (row_of (Item i)) rows (free refl refl) row there)
    where
      by : (row_of (Item i) ≡ row) ⊎ Contains rows row → Left before rows row
      by (inl same) = let it = good.item refl in inr (subst (IsNew before) same (new_made before it.0 it.1 it.2 (columns_of (Item i)) it.3 it.4))
      by (inr was) = inl was

  -- ---- a batch

  all_left : (before : List PutAs) (puts : List Put) (rows : List Values) (row : Values) → AreFree 5 rows puts → Sound K V P before (map put_as puts)
      → Contains (left 5 rows puts) row → Left (before ++ map put_as puts) rows row
  all_left before [] rows row free sound there = inl there
  all_left before (put ∷ puts) rows row free sound there = by (all_left (before ++ put_as put ∷ []) puts (after 5 rows put) row free.1 sound.1 there)
    where
      same : (before ++ put_as put ∷ []) ++ map put_as puts ≡ before ++ map put_as (put ∷ puts)
      same = append_assoc before (put_as put ∷ []) (map put_as puts)

      first : Left before rows row → Left (before ++ map put_as (put ∷ puts)) rows row
      first (inl was) = inl was
      first (inr new) = inr (new_later before (map put_as (put ∷ puts)) row new)

      by : Left ((before ++ put_as put ∷ []) ++ map put_as puts) (after 5 rows put) row → Left (before ++ map put_as (put ∷ puts)) rows row
      by (inl was) = first (one_left before put rows row free.0 sound.0 was)
      by (inr new) = inr (subst (λ (l : List PutAs). IsNew l row) same new)

  -- what puts leave in the tables
  pub tables_left : (text : (device : ℕ) (v : Value) → V device v → (address : List ℕ) × (v ≡ Text address)) (old new : Database) (puts : List Put) → HasArchive old.schema → IsPut old new puts
      → Sound K V P [] (map put_as puts) → Logs K V P [] (old.trees 3) → Devices K V P text (old.trees 1)
      → ((row : Values) → Contains (new.trees 5) row → Contains (old.trees 5) row ⊎ IsNew (map put_as puts) row)
      × Logs K V P (map put_as puts) (new.trees 3) × Devices K V P text (new.trees 1)
  tables_left text old new puts has put sound logs devices =
      let rows = subst (AllByRecursion (λ (t : Table). new.trees t.tree ≡ left t.tree (old.trees t.tree) puts)) has.tables.are put.rows in
      let once = subst (AllByRecursion (λ (t : Table). AreFree t.tree (old.trees t.tree) puts)) has.tables.are put.once in (
        λ row there. all_left [] puts (old.trees 5) row once.1.1.1.0 sound (subst (λ (l : List Values). Contains l row) rows.1.1.1.0 there),
        subst (Logs K V P (map put_as puts)) (sym rows.1.1.0) (all_logs K V P [] puts (old.trees 3) sound once.1.1.0 logs),
        subst (Devices K V P text) (sym rows.1.0) (all_devices K V P text [] puts (old.trees 1) sound once.1.0 devices),
      )
