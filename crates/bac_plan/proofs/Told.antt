-- What an archive tells once rows are put.
use Rattle.std.proofs.Common.{append_assoc, ◌≡◌, ℕ, pos, ◌≤◌, ◌==◌, ◌&&◌, ◌||◌, not, Bool, true, false, if◌then◌else◌, List, [], ◌∷◌, ◌++◌, map, Ok, Err, Option, Result, refl, sym, ap, subst, ◌∙◌}
use Rattle.std.specs.List.{AllByRecursion, Contains, flat_map}
use Rattle.std.proofs.lemmas.List.Elements.{Contains-append_left, Contains-append_right}
use Rattle.std.proofs.lemmas.List.Sorted.{Contains-permutation, IsPermutation-sym}
use Rattle.sqlite.specs.Effect.{Database}
use Rattle.sqlite_rules.specs.Edit.{is_taken}
use Rattle.sqlite_schema.specs.declared.schema.Table.{Table}
use Rattle.sqlite_trees.specs.Tree.{IsTable, Trees, rowid}
use Rattle.sqlite_trees.proofs.ListLemmas.{ascending-filter}
use Rattle.sqlite_trees.proofs.TreeLemmas.{IsTable-put_row}
use Rattle.sqlite_value.specs.Order.{Row as Values, value_cmp}
use Rattle.bac_archive.specs.Archive.{HasId}
use Rattle.bac_archive.specs.Ask.{shown}
use Rattle.bac_archive.specs.Put.{AreFree, IsFree, IsPut, after, device_columns, left, log_columns, replaced, row_of}
use Rattle.bac_archive.specs.Schema.{HasArchive, devices, logs}
use Rattle.bac_archive.specs.Stands.{StandsAs}
use Rattle.bac_archive.specs.declared.row.DeviceRow.{DeviceRow}
use Rattle.bac_archive.specs.declared.row.LogRow.{LogRow}
use Rattle.bac_archive.specs.declared.row.Put.{Put}
use Rattle.bac_archive.specs.declared.row.Put.TheVariants.{NewDevice, Device, NewLog, Log, Beginning, Lowered, Item}
use Rattle.bac_archive.specs.declared.standing.Standing.{Standing}
use Rattle.bac_archive.proofs.LeftLemmas.{has_left, has_put, replaced_takes}
use Rattle.bac_archive.proofs.OrphanLemmas.{from_map, in_map}
use Rattle.bac_device_poller.specs.Puts.{PutAs, put_as}
use Rattle.bac_device_poller.specs.Rows.{DeviceAs, columns_of_device, device_as, device_put}
use Rattle.bac_plan.specs.Changes.{asks_again, changes_device, device_change, log_change, log_put_again, named_as, names_whole, revision_for, with_stopped}
use Rattle.bac_plan.specs.Fresh.{FreshDevicesAs, FreshLogsAs, ◌>>=◌, with_devices, with_logs}
use Rattle.bac_plan.specs.Naming.{named_rows, new_device_put, new_log_put, rows_of}
use Rattle.bac_plan.specs.NamingLaws.{device_after}
use Rattle.bac_plan.specs.Stopping.{device_stop, log_stop, stops}
use Rattle.bac_plan.specs.StoppingLaws.{stopped_after}
use Rattle.bac_plan.specs.Told.{AreNew, NamedAreTold, PutsKeepIds, PutsKeepRise, RowsRise, StoppedAreTold, TellsDevice, TellsLog, TellsNamed, ToldHaveOwnIds, log_named, log_stopped}
use Rattle.bac_plan.specs.declared.fault.NamingFault.{NamingFault}
use Rattle.bac_plan.specs.declared.fresh_log.FreshLog.{FreshLog}
use Rattle.bac_plan.specs.declared.named.Named.{Named}
use Rattle.bac_plan.proofs.Changed.{AreApart, AreFreeIn, each_changed, elsewhere_both, elsewhere_stays, flat_elsewhere, free_apart, free_front, left_append, left_in, mapped_elsewhere, new_beside, new_comes}
use Rattle.bac_plan.proofs.OwnIds.{apart_of, own_ids}
use Rattle.bac_plan.proofs.Stored.{device_kept, device_same, device_shown, free_devices, free_logs, left_devices, left_logs, log_kept, log_shown, stored, turned}

abbrev in_devices : Values → Values
in_devices = stored devices.columns

abbrev in_logs : Values → Values
in_logs = stored logs.columns

-- the table shows these columns
abbrev ShowsAt : ℕ → List Values → Values → Type 0
ShowsAt n rows columns = (r : Values) × Contains rows r × (shown n r ≡ columns)

-- ---- ids

pub told_own : ToldHaveOwnIds
told_own trees s rise told id = own_ids (λ (d : DeviceRow). d.id) device_columns (λ d. refl) 10 (trees 1) s.devices.items told.devices rise.devices id

devices_apart : (trees : Trees) (s : Standing) → RowsRise trees → StandsAs trees s → AreApart (λ (d : DeviceRow). d.id) s.devices.items
devices_apart trees s rise told = apart_of (λ (d : DeviceRow). d.id) s.devices.items (own_ids (λ (d : DeviceRow). d.id) device_columns (λ d. refl) 10 (trees 1) s.devices.items told.devices rise.devices)

logs_apart : (trees : Trees) (s : Standing) → RowsRise trees → StandsAs trees s → AreApart (λ (l : LogRow). l.id) s.logs.items
logs_apart trees s rise told = apart_of (λ (l : LogRow). l.id) s.logs.items (own_ids (λ (l : LogRow). l.id) log_columns (λ l. refl) 9 (trees 3) s.logs.items told.logs rise.logs)

rise_replaced : (row : Values) (rows : List Values) → IsTable rows → IsTable (replaced row rows)
rise_replaced row rows up = by (is_taken rows row) refl
  where
    by : (b : Bool) → is_taken rows row ≡ b → IsTable (replaced row rows)
    by true is = rw is (IsTable-put_row row _ (ascending-filter (λ a b. value_cmp (rowid a) (rowid b) ≡ _) _ rows up))
    by false is = rw is up

rise_devices : (put : Put) (rows : List Values) → IsTable rows → IsTable (after 1 rows put)
rise_devices (NewDevice d) rows up = IsTable-put_row (row_of (NewDevice d)) rows up
rise_devices (Device d) rows up = rise_replaced (row_of (Device d)) rows up
rise_devices (NewLog l) rows up = up
rise_devices (Log l) rows up = up
rise_devices (Beginning b) rows up = up
rise_devices (Lowered b) rows up = up
rise_devices (Item i) rows up = up

rise_logs : (put : Put) (rows : List Values) → IsTable rows → IsTable (after 3 rows put)
rise_logs (NewDevice d) rows up = up
rise_logs (Device d) rows up = up
rise_logs (NewLog l) rows up = IsTable-put_row (row_of (NewLog l)) rows up
rise_logs (Log l) rows up = rise_replaced (row_of (Log l)) rows up
rise_logs (Beginning b) rows up = up
rise_logs (Lowered b) rows up = up
rise_logs (Item i) rows up = up

all_rise : (tree : ℕ) → ((put : Put) (rows : List Values) → IsTable rows → IsTable (after tree rows put)) → (puts : List Put) (rows : List Values) → IsTable rows → IsTable (left tree rows puts)
all_rise tree each [] rows up = up
all_rise tree each (put ∷ puts) rows up = all_rise tree each puts (after tree rows put) (each put rows up)

abbrev tables_left : Database → Database → List Put → Table → Type 0
tables_left old new puts t = new.trees t.tree ≡ left t.tree (old.trees t.tree) puts

abbrev tables_free : Database → List Put → Table → Type 0
tables_free old puts t = AreFree t.tree (old.trees t.tree) puts

-- what these puts leave of both tables
both_left : (old new : Database) (puts : List Put) → HasArchive old.schema → IsPut old new puts → (new.trees 1 ≡ left 1 (old.trees 1) puts) × (new.trees 3 ≡ left 3 (old.trees 3) puts)
both_left old new puts has put = let rows = subst (AllByRecursion (tables_left old new puts)) has.tables.are put.rows in (rows.1.0, rows.1.1.0)

both_free : (old new : Database) (puts : List Put) → HasArchive old.schema → IsPut old new puts → AreFree 1 (old.trees 1) puts × AreFree 3 (old.trees 3) puts
both_free old new puts has put = let once = subst (AllByRecursion (tables_free old puts)) has.tables.are put.once in (once.1.0, once.1.1.0)

pub keep_rise : PutsKeepRise
keep_rise old new puts has put rise =
    let now = both_left old new puts has put in
    record {
      devices = subst IsTable (sym now.0) (all_rise 1 rise_devices puts (old.trees 1) rise.devices);
      logs = subst IsTable (sym now.1) (all_rise 3 rise_logs puts (old.trees 3) rise.logs);
    }

-- ---- what is shown is told

tells_device : (trees : Trees) (t : Standing) (x : DeviceAs) → StandsAs trees t → ShowsAt 10 (trees 1) (columns_of_device x) → TellsDevice t x
tells_device trees t x told (r, there, is) =
    let back = from_map device_columns t.devices.items (shown 10 r) (Contains-permutation _ _ (shown 10 r) told.devices (in_map (shown 10) (trees 1) r there)) in
    (back.0, back.1, device_same (device_as back.0) x (back.2 ∙ is))

tells_log : (trees : Trees) (t : Standing) (columns : Values) → StandsAs trees t → ShowsAt 9 (trees 3) columns → TellsLog t columns
tells_log trees t columns told (r, there, is) =
    let back = from_map log_columns t.logs.items (shown 9 r) (Contains-permutation _ _ (shown 9 r) told.logs (in_map (shown 9) (trees 3) r there)) in
    (back.0, back.1, back.2 ∙ is)

-- and what is told is shown
shows_device : (trees : Trees) (s : Standing) → StandsAs trees s → (d : DeviceRow) → Contains s.devices.items d → ShowsAt 10 (trees 1) (device_columns d)
shows_device trees s told d there =
    from_map (shown 10) (trees 1) (device_columns d) (Contains-permutation _ _ (device_columns d) (IsPermutation-sym _ _ told.devices) (in_map device_columns s.devices.items d there))

shows_log : (trees : Trees) (s : Standing) → StandsAs trees s → (l : LogRow) → Contains s.logs.items l → ShowsAt 9 (trees 3) (log_columns l)
shows_log trees s told l there =
    from_map (shown 9) (trees 3) (log_columns l) (Contains-permutation _ _ (log_columns l) (IsPermutation-sym _ _ told.logs) (in_map log_columns s.logs.items l there))

-- ---- rows that take the place of others

module _ (changed : DeviceRow → Bool) (revision : DeviceRow → Option ℕ) (whole stopped : DeviceRow → Bool) where
  abbrev device_now : DeviceRow → DeviceAs
  device_now d = turned (revision d) (whole d) (stopped d) d

  abbrev device_then : DeviceRow → DeviceAs
  device_then d = if changed d then device_now d else device_as d

  abbrev device_rows : List DeviceRow → List PutAs
  device_rows ds = flat_map (λ d. if changed d then device_put (device_now d) ∷ [] else []) ds

  columns_then : (d : DeviceRow) → (if changed d then columns_of_device (device_now d) else device_columns d) ≡ columns_of_device (device_then d)
  columns_then d = by (changed d)
    where
      by : (b : Bool) → (if b then columns_of_device (device_now d) else device_columns d) ≡ columns_of_device (if b then device_now d else device_as d)
      by true = refl
      by false = refl

  devices_changed : (rows : List Values) (ds : List DeviceRow) → AreApart (λ (d : DeviceRow). d.id) ds → ((d : DeviceRow) → Contains ds d → ShowsAt 10 rows (device_columns d))
      → (d : DeviceRow) → Contains ds d → ShowsAt 10 (left_in 1 in_devices rows (device_rows ds)) (columns_of_device (device_then d))
  devices_changed rows ds apart all d there =
      subst (ShowsAt 10 (left_in 1 in_devices rows (device_rows ds))) (columns_then d)
      (each_changed 1 in_devices (shown 10) (λ (d : DeviceRow). d.id) device_columns (λ d. columns_of_device (device_now d)) changed (λ r. refl) (λ d. refl) (λ d. refl) (λ d. device_kept d (revision d) (whole d) (stopped d)) ds rows apart all d there)

module _ (changed : LogRow → Bool) (stopped : Bool) where
  abbrev log_then : LogRow → Values
  log_then l = if changed l then with_stopped stopped l else log_columns l

  abbrev log_rows : List LogRow → List PutAs
  log_rows ls = flat_map (λ l. if changed l then log_put_again stopped l ∷ [] else []) ls

  logs_changed : (rows : List Values) (ls : List LogRow) → AreApart (λ (l : LogRow). l.id) ls → ((l : LogRow) → Contains ls l → ShowsAt 9 rows (log_columns l))
      → (l : LogRow) → Contains ls l → ShowsAt 9 (left_in 3 in_logs rows (log_rows ls)) (log_then l)
  logs_changed rows ls apart all l there =
      each_changed 3 in_logs (shown 9) (λ (l : LogRow). l.id) log_columns (with_stopped stopped) changed (λ r. refl) (λ l. refl) (λ l. refl) (λ l. log_kept l stopped) ls rows apart all l there

-- ---- what is stopped

abbrev stop_devices : List Named → Standing → List PutAs
stop_devices named s = flat_map (λ d. device_stop named (device_as d)) s.devices.items

abbrev stop_logs : List Named → Standing → List PutAs
stop_logs named s = flat_map (log_stop named s.devices.items) s.logs.items

stopped_devices : (named : List Named) (old new : Database) (s t : Standing) (puts : List Put) → HasArchive old.schema → RowsRise old.trees → StandsAs old.trees s
    → map put_as puts ≡ stop_devices named s ++ stop_logs named s → IsPut old new puts → StandsAs new.trees t → (d : DeviceRow) → Contains s.devices.items d → TellsDevice t (stopped_after named (device_as d))
stopped_devices named old new s t puts has rise stands are put told d there =
    let first = stop_devices named s in
    let second = stop_logs named s in
    let now : new.trees 1 ≡ left_in 1 in_devices (old.trees 1) (first ++ second) =
    (both_left old new puts has put).0 ∙ left_devices puts (old.trees 1) ∙ ap (left_in 1 in_devices (old.trees 1)) are in
    let cut : left_in 1 in_devices (old.trees 1) (first ++ second) ≡ left_in 1 in_devices (old.trees 1) first =
    left_append 1 in_devices first second (old.trees 1)
    ∙ elsewhere_stays 1 in_devices second (left_in 1 in_devices (old.trees 1) first) (flat_elsewhere 1 in_devices (log_put_again true) (λ l. refl) (stops named s.devices.items) s.logs.items) in
    tells_device new.trees t (stopped_after named (device_as d)) told
    (subst (λ (r : List Values). ShowsAt 10 r (columns_of_device (stopped_after named (device_as d)))) (sym (now ∙ cut))
    (devices_changed (λ e. names_whole named (device_as e) && not e.stopped) (λ e. e.revision) (λ e. e.whole) (λ e. true) (old.trees 1) s.devices.items (devices_apart old.trees s rise stands) (shows_device old.trees s stands) d there))

stopped_logs : (named : List Named) (old new : Database) (s t : Standing) (puts : List Put) → HasArchive old.schema → RowsRise old.trees → StandsAs old.trees s
    → map put_as puts ≡ stop_devices named s ++ stop_logs named s → IsPut old new puts → StandsAs new.trees t → (l : LogRow) → Contains s.logs.items l → TellsLog t (log_stopped named s l)
stopped_logs named old new s t puts has rise stands are put told l there =
    let first = stop_devices named s in
    let second = stop_logs named s in
    let now : new.trees 3 ≡ left_in 3 in_logs (old.trees 3) (first ++ second) =
    (both_left old new puts has put).1 ∙ left_logs puts (old.trees 3) ∙ ap (left_in 3 in_logs (old.trees 3)) are in
    let cut : left_in 3 in_logs (old.trees 3) (first ++ second) ≡ left_in 3 in_logs (old.trees 3) second =
    left_append 3 in_logs first second (old.trees 3)
    ∙ ap (λ (r : List Values). left_in 3 in_logs r second)
    (elsewhere_stays 3 in_logs first (old.trees 3)
    (flat_elsewhere 3 in_logs (λ (d : DeviceRow). device_put (record (device_as d) { stopped = true })) (λ d. refl) (λ d. names_whole named (device_as d) && not d.stopped) s.devices.items)) in
    tells_log new.trees t (log_stopped named s l) told
    (subst (λ (r : List Values). ShowsAt 9 r (log_stopped named s l)) (sym (now ∙ cut))
    (logs_changed (stops named s.devices.items) true (old.trees 3) s.logs.items (logs_apart old.trees s rise stands) (shows_log old.trees s stands) l there))

pub stopped_told : StoppedAreTold
stopped_told named old new s t puts has rise stands are put told =
    record { devices = stopped_devices named old new s t puts has rise stands are put told; logs = stopped_logs named old new s t puts has rise stands are put told }

-- ---- what is named

abbrev done : List PutAs → Result (List PutAs) NamingFault
done a = Ok a

same_rows : (a b : List PutAs) → done a ≡ done b → a ≡ b
same_rows a b e = cc

-- the rows are these
rows_are : (named : List Named) (s : Standing) (f : FreshDevicesAs) (g : FreshLogsAs) (all : List PutAs)
    → with_devices named s.devices.items (record { devices = []; next = s.next_device }) named ≡ Ok f
    → with_logs s.devices.items f.devices s.logs.items (record { logs = []; next = s.next_log }) named ≡ Ok g
    → named_rows s named ≡ Ok all → all ≡ rows_of s named f.devices g.logs
rows_are named s f g all of_devices of_logs is =
    let one : named_rows s named ≡ Ok (rows_of s named f.devices g.logs) =
    ap (λ (r : Result FreshDevicesAs NamingFault). r >>= λ h. with_logs s.devices.items h.devices s.logs.items (record { logs = []; next = s.next_log }) named >>= λ k. Ok (rows_of s named h.devices k.logs)) of_devices
    ∙ ap (λ (r : Result FreshLogsAs NamingFault). r >>= λ k. Ok (rows_of s named f.devices k.logs)) of_logs in
    same_rows all (rows_of s named f.devices g.logs) (sym is ∙ one)

module _ (named : List Named) (old new : Database) (s t : Standing) (puts : List Put) (f : FreshDevicesAs) (g : FreshLogsAs) (has : HasArchive old.schema) (rise : RowsRise old.trees)
    (stands : StandsAs old.trees s) (are : map put_as puts ≡ rows_of s named f.devices g.logs) (put : IsPut old new puts) (told : StandsAs new.trees t) where
  abbrev changed_ds : List PutAs
  changed_ds = flat_map (λ d. device_change named (device_as d)) s.devices.items

  abbrev new_ds : List PutAs
  new_ds = map new_device_put f.devices

  abbrev changed_ls : List PutAs
  changed_ls = flat_map (log_change named s.devices.items) s.logs.items

  abbrev new_ls : List PutAs
  new_ls = map new_log_put g.logs

  all_are : map put_as puts ≡ changed_ds ++ (new_ds ++ (changed_ls ++ new_ls))
  all_are = are ∙ append_assoc (changed_ds ++ new_ds) changed_ls new_ls ∙ append_assoc changed_ds new_ds (changed_ls ++ new_ls)

  -- the table of devices

  abbrev one : List Values
  one = left_in 1 in_devices (old.trees 1) changed_ds

  abbrev two : List Values
  two = left_in 1 in_devices one new_ds

  devices_are : new.trees 1 ≡ two
  devices_are =
      (both_left old new puts has put).0 ∙ left_devices puts (old.trees 1) ∙ ap (left_in 1 in_devices (old.trees 1)) all_are
      ∙ left_append 1 in_devices changed_ds (new_ds ++ (changed_ls ++ new_ls)) (old.trees 1) ∙ left_append 1 in_devices new_ds (changed_ls ++ new_ls) one
      ∙ elsewhere_stays 1 in_devices (changed_ls ++ new_ls) two
      (elsewhere_both 1 changed_ls new_ls (flat_elsewhere 1 in_devices (log_put_again false) (λ l. refl) (asks_again named s.devices.items) s.logs.items) (mapped_elsewhere 1 in_devices new_log_put (λ l. refl) g.logs))

  devices_free : AreFreeIn 1 in_devices one new_ds
  devices_free =
      free_front 1 in_devices new_ds (changed_ls ++ new_ls) one
      (free_apart 1 in_devices changed_ds (new_ds ++ (changed_ls ++ new_ls)) (old.trees 1) (subst (AreFreeIn 1 in_devices (old.trees 1)) all_are (free_devices puts (old.trees 1) (both_free old new puts has put).0)))

  of_devices : (d : DeviceRow) → Contains s.devices.items d → TellsDevice t (device_after named (device_as d))
  of_devices d there =
      let it = devices_changed (λ e. changes_device named (device_as e)) (λ e. revision_for (names_whole named (device_as e)) (device_as e)) (λ e. e.whole || names_whole named (device_as e)) (λ e. false) (old.trees 1) s.devices.items
      (devices_apart old.trees s rise stands) (shows_device old.trees s stands) d there in
      tells_device new.trees t (device_after named (device_as d)) told
      (it.0, subst (λ (r : List Values). Contains r it.0) (sym devices_are) (new_beside 1 in_devices new_device_put (λ x. refl) (λ x. refl) f.devices one devices_free it.0 it.1), it.2)

  put_of : (q : PutAs) → Contains (changed_ds ++ (new_ds ++ (changed_ls ++ new_ls))) q → (p : Put) × (put_as p ≡ q)
  put_of q there = let it = from_map put_as puts q (subst (λ (l : List PutAs). Contains l q) (sym all_are) there) in (it.0, it.2)

  of_new_devices : (d : DeviceAs) → Contains f.devices d → TellsDevice t d
  of_new_devices d there =
      let q = put_of (new_device_put d) (Contains-append_right changed_ds (new_ds ++ (changed_ls ++ new_ls)) (new_device_put d) (Contains-append_left new_ds (changed_ls ++ new_ls) (new_device_put d) (in_map new_device_put f.devices d there))) in
      let is : shown 10 (in_devices (columns_of_device d)) ≡ columns_of_device d =
      subst (λ (p : PutAs). shown 10 (in_devices p.columns) ≡ p.columns) q.1 (device_shown q.0 (ap (λ (p : PutAs). p.tree) q.1)) in
      tells_device new.trees t d told (
        in_devices (columns_of_device d),
        subst (λ (r : List Values). Contains r (in_devices (columns_of_device d))) (sym devices_are)
            (new_comes 1 in_devices new_device_put (λ x. refl) (λ x. refl) f.devices one devices_free d there),
        is,
      )

  -- the table of logs

  abbrev three : List Values
  three = left_in 3 in_logs (left_in 3 in_logs (old.trees 3) changed_ds) new_ds

  abbrev four : List Values
  four = left_in 3 in_logs three changed_ls

  logs_are : new.trees 3 ≡ left_in 3 in_logs four new_ls
  logs_are =
      (both_left old new puts has put).1 ∙ left_logs puts (old.trees 3) ∙ ap (left_in 3 in_logs (old.trees 3)) all_are
      ∙ left_append 3 in_logs changed_ds (new_ds ++ (changed_ls ++ new_ls)) (old.trees 3) ∙ left_append 3 in_logs new_ds (changed_ls ++ new_ls) (left_in 3 in_logs (old.trees 3) changed_ds) ∙ left_append 3 in_logs changed_ls new_ls three

  three_is : three ≡ old.trees 3
  three_is =
      elsewhere_stays 3 in_logs new_ds (left_in 3 in_logs (old.trees 3) changed_ds) (mapped_elsewhere 3 in_logs new_device_put (λ d. refl) f.devices)
      ∙ elsewhere_stays 3 in_logs changed_ds (old.trees 3)
      (flat_elsewhere 3 in_logs (λ (d : DeviceRow). device_put (named_as (names_whole named (device_as d)) (device_as d))) (λ d. refl) (λ d. changes_device named (device_as d)) s.devices.items)

  logs_free : AreFreeIn 3 in_logs four new_ls
  logs_free =
      free_apart 3 in_logs changed_ls new_ls three (free_apart 3 in_logs new_ds (changed_ls ++ new_ls) (left_in 3 in_logs (old.trees 3) changed_ds)
      (free_apart 3 in_logs changed_ds (new_ds ++ (changed_ls ++ new_ls)) (old.trees 3) (subst (AreFreeIn 3 in_logs (old.trees 3)) all_are (free_logs puts (old.trees 3) (both_free old new puts has put).1))))

  of_logs : (l : LogRow) → Contains s.logs.items l → TellsLog t (log_named named s l)
  of_logs l there =
      let it = logs_changed (asks_again named s.devices.items) false three s.logs.items (logs_apart old.trees s rise stands)
      (λ m has. subst (λ (r : List Values). ShowsAt 9 r (log_columns m)) (sym three_is) (shows_log old.trees s stands m has)) l there in
      tells_log new.trees t (log_named named s l) told
      (it.0, subst (λ (r : List Values). Contains r it.0) (sym logs_are) (new_beside 3 in_logs new_log_put (λ x. refl) (λ x. refl) g.logs four logs_free it.0 it.1), it.2)

  of_new_logs : (l : FreshLog) → Contains g.logs l → TellsLog t (new_log_put l).columns
  of_new_logs l there =
      let q = put_of (new_log_put l)
      (Contains-append_right changed_ds (new_ds ++ (changed_ls ++ new_ls)) (new_log_put l) (Contains-append_right new_ds (changed_ls ++ new_ls) (new_log_put l) (Contains-append_right changed_ls new_ls (new_log_put l) (in_map new_log_put g.logs l there)))) in
      let is : shown 9 (in_logs (new_log_put l).columns) ≡ (new_log_put l).columns =
      subst (λ (p : PutAs). shown 9 (in_logs p.columns) ≡ p.columns) q.1 (log_shown q.0 (ap (λ (p : PutAs). p.tree) q.1)) in
      tells_log new.trees t (new_log_put l).columns told (
        in_logs (new_log_put l).columns,
        subst (λ (r : List Values). Contains r (in_logs (new_log_put l).columns)) (sym logs_are)
            (new_comes 3 in_logs new_log_put (λ x. refl) (λ x. refl) g.logs four logs_free l there),
        is,
      )

  all_told : TellsNamed named s t f g
  all_told = record { devices = of_devices; new_devices = of_new_devices; logs = of_logs; new_logs = of_new_logs }

abbrev first_devices : Standing → FreshDevicesAs
first_devices s = record { devices = []; next = s.next_device }

abbrev first_logs : Standing → FreshLogsAs
first_logs s = record { logs = []; next = s.next_log }

-- where there are rows, there are new devices and new logs, or none of each
are_new : (named : List Named) (s : Standing) (all : List PutAs) → named_rows s named ≡ Ok all → (f : FreshDevicesAs) × (g : FreshLogsAs) × AreNew named s f g
are_new named s all is = devices_first (with_devices named s.devices.items (first_devices s) named) refl is
  where
    logs_then : (f : FreshDevicesAs) → with_devices named s.devices.items (first_devices s) named ≡ Ok f → (r : Result FreshLogsAs NamingFault)
        → with_logs s.devices.items f.devices s.logs.items (first_logs s) named ≡ r → (r >>= λ g. Ok (rows_of s named f.devices g.logs)) ≡ Ok all
        → (f : FreshDevicesAs) × (g : FreshLogsAs) × AreNew named s f g
    logs_then f was (Ok g) of e = (f, g, record { devices = was; logs = of })
    logs_then f was (Err x) of e = cc

    devices_first : (r : Result FreshDevicesAs NamingFault) → with_devices named s.devices.items (first_devices s) named ≡ r
        → (r >>= λ f. with_logs s.devices.items f.devices s.logs.items (first_logs s) named >>= λ g. Ok (rows_of s named f.devices g.logs)) ≡ Ok all
        → (f : FreshDevicesAs) × (g : FreshLogsAs) × AreNew named s f g
    devices_first (Ok f) was e = logs_then f was (with_logs s.devices.items f.devices s.logs.items (first_logs s) named) refl e
    devices_first (Err x) was e = cc

pub named_told : NamedAreTold
named_told named old new s t puts has rise stands is put told =
    let it = are_new named s (map put_as puts) is in
    (it.0, it.1, it.2, all_told named old new s t puts it.0 it.1 has rise stands (rows_are named s it.0 it.1 (map put_as puts) it.2.devices it.2.logs is) put told)

-- ---- ids stay

device_ids : (put : Put) (rows : List Values) (n : ℕ) → IsFree 1 rows put → HasId rows n → HasId (after 1 rows put) n
device_ids (NewDevice d) rows n free has = has_put (row_of (NewDevice d)) rows (free refl refl) (pos n) has
device_ids (Device d) rows n free has = has_left (pos d.id) (row_of (Device d)) refl rows (replaced (row_of (Device d)) rows) (replaced_takes (pos d.id) (row_of (Device d)) refl rows) (pos n) has
device_ids (NewLog l) rows n free has = has
device_ids (Log l) rows n free has = has
device_ids (Beginning b) rows n free has = has
device_ids (Lowered b) rows n free has = has
device_ids (Item i) rows n free has = has

log_ids : (put : Put) (rows : List Values) (n : ℕ) → IsFree 3 rows put → HasId rows n → HasId (after 3 rows put) n
log_ids (NewDevice d) rows n free has = has
log_ids (Device d) rows n free has = has
log_ids (NewLog l) rows n free has = has_put (row_of (NewLog l)) rows (free refl refl) (pos n) has
log_ids (Log l) rows n free has = has_left (pos l.id) (row_of (Log l)) refl rows (replaced (row_of (Log l)) rows) (replaced_takes (pos l.id) (row_of (Log l)) refl rows) (pos n) has
log_ids (Beginning b) rows n free has = has
log_ids (Lowered b) rows n free has = has
log_ids (Item i) rows n free has = has

all_ids : (tree : ℕ) → ((put : Put) (rows : List Values) (n : ℕ) → IsFree tree rows put → HasId rows n → HasId (after tree rows put) n) → (puts : List Put) (rows : List Values) (n : ℕ)
    → AreFree tree rows puts → HasId rows n → HasId (left tree rows puts) n
all_ids tree each [] rows n free has = has
all_ids tree each (put ∷ puts) rows n free has = all_ids tree each puts (after tree rows put) n free.1 (each put rows n free.0 has)

pub keep_ids : PutsKeepIds
keep_ids old new puts id has put =
    let now = both_left old new puts has put in
    let once = both_free old new puts has put in (
      λ there. subst (λ (l : List Values). HasId l id) (sym now.0) (all_ids 1 device_ids puts (old.trees 1) id once.0 there),
      λ there. subst (λ (l : List Values). HasId l id) (sym now.1) (all_ids 3 log_ids puts (old.trees 3) id once.1 there),
    )
