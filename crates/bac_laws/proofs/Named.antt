-- What words name puts no item.
use Rattle.std.proofs.Common.{◌≡◌, ◌∙◌, inl, inr, ℕ, pos, Bool, true, false, if◌then◌else◌, List, [], ◌∷◌, ◌++◌, map, Result, Ok, Err, arith, refl, sym, subst}
use Rattle.std.specs.List.{AllByRecursion, Contains, flat_map}
use Rattle.sqlite_schema.specs.declared.schema.Table.{Table}
use Rattle.sqlite_value.specs.Order.{Row as Values}
use Rattle.sqlite.specs.Effect.{Database}
use Rattle.bac_archive.proofs.AroundLemmas.{made_is}
use Rattle.bac_archive.specs.Making.{IsMadeOf}
use Rattle.bac_archive.proofs.LeftLemmas.{own_behind, own_left, replaced_takes}
use Rattle.bac_archive.specs.Put.{AreFree, HaveOwnIds, IsPut, after, left, replaced, row_of}
use Rattle.bac_archive.specs.declared.row.Put.{Put}
use Rattle.bac_archive.specs.declared.row.Put.TheVariants.{NewDevice, Device, NewLog, Log, Beginning, Lowered, Item}
use Rattle.bac_archive.specs.Schema.{HasArchive}
use Rattle.bac_archive.specs.declared.row.DeviceRow.{DeviceRow}
use Rattle.bac_archive.specs.declared.row.LogRow.{LogRow}
use Rattle.bac_archive.specs.declared.standing.Standing.{Standing}
use Rattle.bac_device_poller.specs.Puts.{PutAs, put_as}
use Rattle.bac_device_poller.specs.Rows.{DeviceAs, device_as, device_put}
use Rattle.bac_keeping.proofs.Records.{has_opened}
use Rattle.bac_keeping.specs.Keeping.{IsNamed, IsOpened}
use Rattle.bac_keeping.specs.declared.run.Run.{Run}
use Rattle.bac_plan.specs.Changes.{asks_again, changes_device, device_change, log_change, log_put_again, named_as, names_whole}
use Rattle.bac_plan.specs.Fresh.{FreshDevicesAs, FreshLogsAs, with_devices, with_logs, ◌>>=◌}
use Rattle.bac_plan.specs.Naming.{named_rows, new_device_put, new_log_put, rows_of}
use Rattle.bac_plan.specs.declared.fault.NamingFault.{NamingFault}
use Rattle.bac_plan.specs.declared.fresh_log.FreshLog.{FreshLog}
use Rattle.bac_plan.specs.declared.named.Named.{Named}

no_item : (n : ℕ) → n ≡ 1 → n ≡ 5 → ⊥
no_item n one is = omega (arith, one, is)

no_row : (n : ℕ) → n ≡ 3 → n ≡ 5 → ⊥
no_row n one is = omega (arith, one, is)

-- no item comes, and ids stay each once
pub record Quiet (old new : Database) : Type 0 where
  pub items : (row : Values) → Contains (new.trees 5) row → Contains (old.trees 5) row
  pub devices : HaveOwnIds (old.trees 1) → HaveOwnIds (new.trees 1)
  pub logs : HaveOwnIds (old.trees 3) → HaveOwnIds (new.trees 3)

pub quiet_same : (old new : Database) → new ≡ old → Quiet old new
quiet_same old new is = record {
  items = λ row there. subst (λ (d : Database). Contains (d.trees 5) row) is there;
  devices = λ own. subst (λ (d : Database). HaveOwnIds (d.trees 1)) (sym is) own;
  logs = λ own. subst (λ (d : Database). HaveOwnIds (d.trees 3)) (sym is) own;
}

pub quiet_on : (a b c : Database) → Quiet a b → Quiet b c → Quiet a c
quiet_on a b c one two = record {
  items = λ row there. one.items row (two.items row there);
  devices = λ own. two.devices (one.devices own);
  logs = λ own. two.logs (one.logs own);
}

-- ---- rows of what words name

-- none is an item
abbrev NoItem : PutAs → Type 0
NoItem put = put.tree ≡ 5 → ⊥

abbrev NoItems : List PutAs → Type 0
NoItems [] = Unit {0}
NoItems (put ∷ puts) = NoItem put × NoItems puts

none_more : (xs ys : List PutAs) → NoItems xs → NoItems ys → NoItems (xs ++ ys)
none_more [] ys all more = more
none_more (x ∷ xs) ys all more = (all.0, none_more xs ys all.1 more)

each_none : {X : Type 0} (f : X → List PutAs) → ((x : X) → NoItems (f x)) → (xs : List X) → NoItems (flat_map f xs)
each_none f one [] = tt
each_none f one (x ∷ xs) = none_more (f x) (flat_map f xs) (one x) (each_none f one xs)

mapped_none : {X : Type 0} (f : X → PutAs) → ((x : X) → NoItem (f x)) → (xs : List X) → NoItems (map f xs)
mapped_none f one [] = tt
mapped_none f one (x ∷ xs) = (one x, mapped_none f one xs)

device_none : (named : List Named) (d : DeviceAs) → NoItems (device_change named d)
device_none named d = by (changes_device named d)
  where
    by : (b : Bool) → NoItems (if b then device_put (named_as (names_whole named d) d) ∷ [] else [])
    by true = (λ is. no_item 1 refl is, tt)
    by false = tt

log_none : (named : List Named) (devices : List DeviceRow) (l : LogRow) → NoItems (log_change named devices l)
log_none named devices l = by (asks_again named devices l)
  where
    by : (b : Bool) → NoItems (if b then log_put_again false l ∷ [] else [])
    by true = (λ is. no_row 3 refl is, tt)
    by false = tt

rows_none : (s : Standing) (named : List Named) (devices : List DeviceAs) (logs : List FreshLog) → NoItems (rows_of s named devices logs)
rows_none s named devices logs =
    let one : List PutAs = flat_map (λ d. device_change named (device_as d)) s.devices.items in
    let two : List PutAs = map new_device_put devices in
    let three : List PutAs = flat_map (log_change named s.devices.items) s.logs.items in
    none_more ((one ++ two) ++ three) (map new_log_put logs)
    (none_more (one ++ two) three
    (none_more one two (each_none (λ (d : DeviceRow). device_change named (device_as d)) (λ d. device_none named (device_as d)) s.devices.items)
    (mapped_none new_device_put (λ d is. no_item 1 refl is) devices))
    (each_none (log_change named s.devices.items) (λ l. log_none named s.devices.items l) s.logs.items))
    (mapped_none new_log_put (λ l is. no_row 3 refl is) logs)

named_none : (s : Standing) (named : List Named) (rows : List PutAs) → named_rows s named ≡ Ok rows → NoItems rows
named_none s named rows is = by (with_devices named s.devices.items (record { devices = []; next = s.next_device }) named) is
  where
    logs : (f : FreshDevicesAs) (g : Result FreshLogsAs NamingFault) → (g >>= λ g. Ok (rows_of s named f.devices g.logs)) ≡ Ok rows → NoItems rows
    logs f (Err e) is = absurd (let e : ◌≡◌ {A = Result _ _} (Err e) (Ok rows) = is in cc)
    logs f (Ok g) is =
        subst NoItems (let e : ◌≡◌ {A = Result (List PutAs) NamingFault} (Ok (rows_of s named f.devices g.logs)) (Ok rows) = is in cc)
        (rows_none s named f.devices g.logs)

    by : (f : Result FreshDevicesAs NamingFault)
        → (f >>= λ f. with_logs s.devices.items f.devices s.logs.items (record { logs = []; next = s.next_log }) named
        >>= λ g. Ok (rows_of s named f.devices g.logs)) ≡ Ok rows → NoItems rows
    by (Err e) is = absurd (let e : ◌≡◌ {A = Result _ _} (Err e) (Ok rows) = is in cc)
    by (Ok f) is = logs f (with_logs s.devices.items f.devices s.logs.items (record { logs = []; next = s.next_log }) named) is

-- ---- what they leave

none_left : (puts : List Put) (rows : List Values) (row : Values) → NoItems (map put_as puts) → Contains (left 5 rows puts) row → Contains rows row
none_left [] rows row none there = there
none_left (NewDevice d ∷ puts) rows row none there = none_left puts rows row none.1 there
none_left (Device d ∷ puts) rows row none there = none_left puts rows row none.1 there
none_left (NewLog l ∷ puts) rows row none there = none_left puts rows row none.1 there
none_left (Log l ∷ puts) rows row none there = none_left puts rows row none.1 there
none_left (Beginning b ∷ puts) rows row none there = none_left puts rows row none.1 there
none_left (Lowered b ∷ puts) rows row none there = none_left puts rows row none.1 there
none_left (Item i ∷ puts) rows row none there = absurd (none.0 refl)

own_devices : (puts : List Put) (rows : List Values) → AreFree 1 rows puts → HaveOwnIds rows → HaveOwnIds (left 1 rows puts)
own_devices [] rows free own = own
own_devices (NewDevice d ∷ puts) rows free own = own_devices puts (after 1 rows (NewDevice d)) free.1 (own_behind (row_of (NewDevice d)) rows (free.0 refl refl) own)
own_devices (Device d ∷ puts) rows free own =
    own_devices puts (after 1 rows (Device d)) free.1
    (own_left (pos d.id) (row_of (Device d)) refl rows (replaced (row_of (Device d)) rows) (replaced_takes (pos d.id) (row_of (Device d)) refl rows) own)
own_devices (NewLog l ∷ puts) rows free own = own_devices puts rows free.1 own
own_devices (Log l ∷ puts) rows free own = own_devices puts rows free.1 own
own_devices (Beginning b ∷ puts) rows free own = own_devices puts rows free.1 own
own_devices (Lowered b ∷ puts) rows free own = own_devices puts rows free.1 own
own_devices (Item i ∷ puts) rows free own = own_devices puts rows free.1 own

own_logs : (puts : List Put) (rows : List Values) → AreFree 3 rows puts → HaveOwnIds rows → HaveOwnIds (left 3 rows puts)
own_logs [] rows free own = own
own_logs (NewLog l ∷ puts) rows free own = own_logs puts (after 3 rows (NewLog l)) free.1 (own_behind (row_of (NewLog l)) rows (free.0 refl refl) own)
own_logs (Log l ∷ puts) rows free own =
    own_logs puts (after 3 rows (Log l)) free.1
    (own_left (pos l.id) (row_of (Log l)) refl rows (replaced (row_of (Log l)) rows) (replaced_takes (pos l.id) (row_of (Log l)) refl rows) own)
own_logs (NewDevice d ∷ puts) rows free own = own_logs puts rows free.1 own
own_logs (Device d ∷ puts) rows free own = own_logs puts rows free.1 own
own_logs (Beginning b ∷ puts) rows free own = own_logs puts rows free.1 own
own_logs (Lowered b ∷ puts) rows free own = own_logs puts rows free.1 own
own_logs (Item i ∷ puts) rows free own = own_logs puts rows free.1 own

put_quiet : (old new : Database) (puts : List Put) → HasArchive old.schema → IsPut old new puts → NoItems (map put_as puts) → Quiet old new
put_quiet old new puts has put none =
    let rows = subst (AllByRecursion (λ (t : Table). new.trees t.tree ≡ left t.tree (old.trees t.tree) puts)) has.tables.are put.rows in
    let once = subst (AllByRecursion (λ (t : Table). AreFree t.tree (old.trees t.tree) puts)) has.tables.are put.once in
    record {
      items = λ row there. none_left puts (old.trees 5) row none (subst (λ (l : List Values). Contains l row) rows.1.1.1.0 there);
      devices = λ own. subst HaveOwnIds (sym rows.1.0) (own_devices puts (old.trees 1) once.1.0 own);
      logs = λ own. subst HaveOwnIds (sym rows.1.1.0) (own_logs puts (old.trees 3) once.1.1.0 own);
    }

-- ---- an archive that is opened, and named

none_own : HaveOwnIds []
none_own one two (k, less, is) second tied = absurd (omega (arith, less))

made_quiet : (old new : Database) (moment : List ℕ) → IsMadeOf moment new [] → Quiet old new
made_quiet old new moment (made, is, put) =
    let has : HasArchive made.schema = made_is made.schema is.schema in
    let rows = subst (AllByRecursion (λ (t : Table). new.trees t.tree ≡ left t.tree (made.trees t.tree) [])) has.tables.are put.rows in
    record {
      items = λ row there. absurd (none row (subst (λ (l : List Values). Contains l row) (rows.1.1.1.0 ∙ is.items) there));
      devices = λ own. subst HaveOwnIds (sym (rows.1.0 ∙ is.devices)) none_own;
      logs = λ own. subst HaveOwnIds (sym (rows.1.1.0 ∙ is.logs)) none_own;
    }
  where
    none : (row : Values) → Contains [] row → ⊥
    none row (k, less, is) = omega (arith, less)

pub opened_quiet : (moment : List ℕ) (old new : Database) → IsOpened moment old new → Quiet old new
opened_quiet moment old new (inl same) = quiet_same old new same.1
opened_quiet moment old new (inr made) = made_quiet old new moment made.1

pub named_quiet : (run : Run) (old new : Database) → IsNamed run old new → Quiet old new
named_quiet run old new named =
    quiet_on old named.opened new (opened_quiet _ old named.opened named.is_told.0)
    (put_quiet named.opened new named.put.0 (has_opened _ old named.opened named.is_told.0) named.put.2
    (named_none named.told run.named.items (map put_as named.put.0) named.put.1))
