use Rattle.std.proofs.Common.{◌≡◌, ◌++◌, ◌/◌, ap, map, subst, sym, refl, rules, arith, inl, inr, true, List, Result, Ok, Err, IfOk}
use Rattle.std.specs.List.{Contains}
use Rattle.std.specs.String.{string_bytes}
use Rattle.sqlite_value.specs.declared.value.Value.TheVariants.{Text}
use Rattle.sqlite_value.specs.Order.{Row as Values, column}
use Rattle.sqlite_trees.specs.Tree.{Trees}
use Rattle.sqlite.specs.declared.error.Error.{Error}
use Rattle.sqlite.specs.Effect.{Database}
use Rattle.sqlite.specs.State.{HasCleanDisk}
use Rattle.sqlite.specs.Held.{state}
use Rattle.bac_archive.specs.Ask.{AreAnswers, first, shown}
use Rattle.bac_archive.specs.Put.{beginning_columns, device_columns, item_columns, log_columns}
use Rattle.bac_archive.specs.Read.{numbers}
use Rattle.bac_archive.specs.Stands.{FailsToTell, StandsAs, TellsFirst, TellsNewest, behind, epochs, is_last}
use Rattle.bac_archive.specs.declared.asking.Question.TheVariants.{Beginnings}
use Rattle.bac_archive.specs.declared.asking.Tables.{Tables}
use Rattle.bac_archive.specs.declared.row.BeginningRow.{BeginningRow}
use Rattle.bac_archive.specs.declared.row.ItemRow.{ItemRow}
use Rattle.bac_archive.specs.declared.standing.Standing.{Standing}
use Rattle.bac_archive.proofs.NewestLemmas.{tells_newest}
use Rattle.bac_archive.proofs.ReadLemmas.{moment_of, not_told, not_told_behind, told_rows, unread_row}
use Rattle.bac_archive.proofs.RowsLemmas.{because, if_err}
use Rattle.bac_archive.proofs.standing.stands.Goals as goal

all_told : (r : Result Standing Error) (trees : Trees) (tables : Tables) (last : List BeginningRow) (newest : List ItemRow) → AreAnswers trees tables
    → IfOk r (λ s. (row : Values) × Contains tables.archive.items row × (column row 1 ≡ Text (string_bytes s.made))) → IfOk r (λ s. map device_columns s.devices.items ≡ map (first 11) tables.devices.items)
    → IfOk r (λ s. map log_columns s.logs.items ≡ map (first 10) tables.logs.items) → IfOk r (λ s. (s.last.items ≡ last) × (s.newest.items ≡ newest))
    → IfOk r (λ s. (s.next_device ≡ behind (map (λ d. d.id) s.devices.items)) × (s.next_log ≡ behind (map (λ l. l.id) s.logs.items ++ map (λ b. b.id / epochs) last)))
    → TellsFirst epochs 1 (λ _. true) (map (first 3) tables.beginnings.items) (map beginning_columns last)
    × ((row : Values) → Contains (map beginning_columns last) row → Contains (map (first 3) tables.beginnings.items) row)
    → TellsNewest numbers 3 (is_last last) (map (shown 5) (trees 5)) (map item_columns newest) → IfOk r (StandsAs trees)
all_told (Err e) trees tables last newest are made devices logs rows next begun items = tt
all_told (Ok s) trees tables last newest are made devices logs rows next begun items = record {
  made = moment_of (trees 0) tables.archive.items _ are.archive.each made;
  devices = told_rows 11 10 device_columns (trees 1) tables.devices.items s.devices.items (λ r. refl) are.devices.each devices;
  logs = told_rows 10 9 log_columns (trees 3) tables.logs.items s.logs.items (λ r. refl) are.logs.each logs;
  last = subst (λ l. TellsNewest epochs 1 (λ _. true) (map (shown 2) (trees 6)) (map beginning_columns l)) (sym rows.0)
      (tells_newest epochs 1 (λ _. true) (first 3) (shown 2) (λ r. refl) (λ r. refl) (trees 6) tables.beginnings.items (map beginning_columns last) are.beginnings.each are.beginnings.order begun.0 begun.1);
  newest = subst (λ l. TellsNewest numbers 3 (is_last l) (map (shown 5) (trees 5)) (map item_columns s.newest.items)) (sym rows.0)
      (subst (λ l. TellsNewest numbers 3 (is_last last) (map (shown 5) (trees 5)) (map item_columns l)) (sym rows.1) items);
  next_device = next.0;
  next_log = subst (λ l. s.next_log ≡ behind (map (λ l. l.id) s.logs.items ++ map (λ b. b.id / epochs) l)) (sym rows.0) next.1;
}

both_items : (r : Result Standing Error) (last newest : _) → IfOk r (λ s. (s.last ≡ last) × (s.newest ≡ newest)) → IfOk r (λ s. (s.last.items ≡ last.items) × (s.newest.items ≡ newest.items))
both_items (Ok s) last newest same = (ap (λ v. v.items) same.0, ap (λ v. v.items) same.1)
both_items (Err e) last newest same = tt

pub returns-clause-stands : goal.returns-clause-stands
returns-clause-stands g c clean =
    let old = state g.S.Store c.args.conn.now in
    let mid = state g.S.Store c.tables_of.new.conn in
    let early : HasCleanDisk mid = omega (arith, clean, c.newest_of.ensures.crash.clean) in
    let tables = c.in_ok-tables.tables in
    let last = c.in_ok-last.last in
    let are = c.in_ok-tables.ensures.told early in
    let begun = (rw c.as_slice.ensures.value at c.in_ok-last.ensures.told) are.beginnings.order in
    let one = (c.in_ok-tables.ensures.same early).0.now_is in
    let items = rw c.as_slice-2.ensures.value at (c.in_ok-newest.ensures.told clean) in
    all_told c.told_of.result old.now.trees tables last.items c.in_ok-newest.newest.items are c.told_of.ensures.made c.told_of.ensures.devices c.told_of.ensures.logs
    (both_items c.told_of.result last c.in_ok-newest.newest c.told_of.ensures.last) c.told_of.ensures.next begun
    (subst (λ (d : Database). TellsNewest numbers 3 (is_last last.items) (map (shown 5) (d.trees 5)) (map item_columns c.in_ok-newest.newest.items)) one items)

pub returns-in_err-last-clause-cause : goal.returns-in_err-last-clause-cause
returns-in_err-last-clause-cause g c clean =
    let are = c.in_ok-tables.ensures.told clean in
    because c.from_residual-in_err-last.result c.in_err-last.field-0.0 _ (search rules)
    (inr (inl (unread_row Beginnings (state g.S.Store c.args.conn.now).now.trees c.in_ok-tables.tables.beginnings.items c.in_err-last.field-0.0 are.beginnings (rw c.as_slice.ensures.value at c.in_err-last.ensures.cause))))

pub returns-in_err-newest-clause-cause : goal.returns-in_err-newest-clause-cause
returns-in_err-newest-clause-cause g c clean =
    let early : HasCleanDisk (state g.S.Store c.tables_of.new.conn) = omega (arith, clean, c.newest_of.ensures.crash.clean) in
    because c.from_residual-in_err-newest.result c.in_err-newest.field-0.0 _ (search rules)
    (not_told_behind g.S.Store c.args.conn.now c.tables_of.new.conn c.newest_of.new.conn c.in_err-newest.field-0.0 (c.in_ok-tables.ensures.same early) (c.in_err-newest.ensures.cause clean))

pub returns-clause-cause : goal.returns-clause-cause
returns-clause-cause g c clean =
    let early : HasCleanDisk (state g.S.Store c.tables_of.new.conn) = omega (arith, clean, c.newest_of.ensures.crash.clean) in
    if_err c.told_of.result _ (FailsToTell g.S.Store c.args.conn.now c.newest_of.new.conn) c.told_of.ensures.cause
    (λ e why. not_told g.S.Store c.args.conn.now c.newest_of.new.conn c.in_ok-tables.tables e (c.in_ok-tables.ensures.told early) why)
