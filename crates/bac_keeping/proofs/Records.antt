-- What is on record as a poll begins.
use Rattle.std.proofs.Common.{◌≡◌, ◌⊎◌, inl, inr, ℕ, ◌&&◌, not, Bool, true, false, if◌then◌else◌, List, [], map, refl, sym, ap, subst, ◌∙◌}
use Rattle.std.specs.List.{AllByRecursion, Contains, list_any}
use Rattle.std.proofs.lemmas.List.Elements.{Contains-append_cases}
use Rattle.std.proofs.lemmas.List.Folds.{Any-from_list_any}
use Rattle.sqlite.specs.Effect.{Database}
use Rattle.sqlite_schema.specs.declared.schema.Table.{Table}
use Rattle.sqlite_trees.specs.Tree.{IsTable}
use Rattle.bac_archive.specs.Making.{IsMadeOf}
use Rattle.bac_archive.specs.Put.{left, log_columns}
use Rattle.bac_archive.specs.Schema.{HasArchive}
use Rattle.bac_archive.specs.declared.row.DeviceRow.{DeviceRow}
use Rattle.bac_archive.specs.declared.row.LogRow.{LogRow}
use Rattle.bac_archive.specs.declared.standing.Standing.{Standing}
use Rattle.bac_archive.proofs.AroundLemmas.{made_is}
use Rattle.bac_archive.proofs.OrphanLemmas.{from_map}
use Rattle.bac_archive.proofs.ReplaceLemmas.{any_of}
use Rattle.bac_device_poller.specs.Rows.{DeviceAs, device_as}
use Rattle.bac_plan.specs.Changes.{asks_again, with_stopped}
use Rattle.bac_plan.specs.Fresh.{FreshDevicesAs, FreshLogsAs}
use Rattle.bac_plan.specs.Laws.{EachIsPolledOnce}
use Rattle.bac_plan.specs.Naming.{new_log_put}
use Rattle.bac_plan.specs.NamingLaws.{FreshLogsAreAsked, LogNow, NamedArePolled, NamedLogsAreAsked, device_after, devices_after, fresh_after, log_after, logs_after}
use Rattle.bac_plan.specs.Told.{NamedAreTold, PutsKeepRise, RowsRise, TellsNamed, ToldHaveOwnIds}
use Rattle.bac_plan.specs.declared.fresh_log.FreshLog.{FreshLog}
use Rattle.bac_plan.specs.declared.named.Named.{Named}
use Rattle.bac_plan.proofs.Stored.{at, bit_same, int_same}
use Rattle.bac_keeping.specs.Keeping.{IsNamed, IsOpened}
use Rattle.bac_keeping.specs.RecordLaws.{KeepNames, KeepPollsAll, RiseThere}
use Rattle.bac_keeping.specs.declared.run.Run.{Run}

-- what a test finds is there
from_any : {X : Type 0} (p : X → Bool) (xs : List X) → list_any p xs ≡ true → (x : X) × Contains xs x × (p x ≡ true)
from_any p xs some = let it = Any-from_list_any p xs some in (it.1, (it.0, it.2, it.3), it.4)

-- ---- an archive as it was opened

new_rows : (moment : List ℕ) (new : Database) → IsMadeOf moment new [] → HasArchive new.schema × RowsRise new.trees
new_rows moment new (made, is, put) =
    let has : HasArchive made.schema = made_is made.schema is.schema in
    let rows = subst (AllByRecursion (λ (t : Table). new.trees t.tree ≡ left t.tree (made.trees t.tree) [])) has.tables.are put.rows in (
      made_is new.schema (put.schema ∙ is.schema),
      record { devices = subst IsTable (sym (rows.1.0 ∙ is.devices)) tt; logs = subst IsTable (sym (rows.1.1.0 ∙ is.logs)) tt },
    )

pub has_opened : (moment : List ℕ) (old new : Database) → IsOpened moment old new → HasArchive new.schema
has_opened moment old new (inl here) = subst (λ (db : Database). HasArchive db.schema) (sym here.1) here.0
has_opened moment old new (inr made) = (new_rows moment new made.1).0

rise_opened : (moment : List ℕ) (old new : Database) → RiseThere old → IsOpened moment old new → RowsRise new.trees
rise_opened moment old new rise (inl here) = subst (λ (db : Database). RowsRise db.trees) (sym here.1) (rise here.0)
rise_opened moment old new rise (inr made) = (new_rows moment new made.1).1

rise_named : (run : Run) (old new : Database) → PutsKeepRise → RiseThere old → IsNamed run old new → RowsRise new.trees
rise_named run old new keep rise named =
    keep named.opened new named.put.0 (has_opened _ old named.opened named.is_told.0) named.put.2 (rise_opened _ old named.opened rise named.is_told.0)

pub has_named : (run : Run) (old new : Database) → IsNamed run old new → HasArchive new.schema
has_named run old new named = subst HasArchive (sym named.put.2.schema) (has_opened _ old named.opened named.is_told.0)

pub polls_all : EachIsPolledOnce → PutsKeepRise → ToldHaveOwnIds → KeepPollsAll
polls_all once keep own run old begun site rise set =
    once run.options set.told site set.site_is (own begun.trees set.told (rise_named run old begun keep rise set.named) set.stands)

-- ---- what is named is told

module _ (named : List Named) (s t : Standing) (f : FreshDevicesAs) (g : FreshLogsAs) (tells : TellsNamed named s t f g) where
  any_device : (p : DeviceAs → Bool) → list_any p (devices_after s named f) ≡ true → list_any (λ d. p (device_as d)) t.devices.items ≡ true
  any_device p some =
      let it = from_any p (devices_after s named f) some in
      go it.0 it.2 (Contains-append_cases (map (λ d. device_after named (device_as d)) s.devices.items) f.devices it.0 it.1)
    where
      told : (x : DeviceAs) → p x ≡ true → (e : DeviceRow) × Contains t.devices.items e × (device_as e ≡ x) → list_any (λ d. p (device_as d)) t.devices.items ≡ true
      told x is (e, there, same) = any_of (λ d. p (device_as d)) t.devices.items e there (ap p same ∙ is)

      go : (x : DeviceAs) → p x ≡ true → Contains (map (λ d. device_after named (device_as d)) s.devices.items) x ⊎ Contains f.devices x → list_any (λ d. p (device_as d)) t.devices.items ≡ true
      go x is (inl there) =
          let back = from_map (λ d. device_after named (device_as d)) s.devices.items x there in
          let e = tells.devices back.0 back.1 in told x is (e.0, e.1, e.2 ∙ back.2)
      go x is (inr there) = told x is (tells.new_devices x there)

  abbrev now_of : LogRow → LogNow
  now_of m = record { device = m.device; instance = m.instance; stopped = m.stopped }

  abbrev now_by : ℕ → ℕ → Bool → LogNow
  now_by device instance stopped = record { device = device; instance = instance; stopped = stopped }

  any_log : (q : LogNow → Bool) → list_any q (logs_after s named g) ≡ true → list_any (λ m. q (now_of m)) t.logs.items ≡ true
  any_log q some =
      let it = from_any q (logs_after s named g) some in
      go it.0 it.2 (Contains-append_cases (map (log_after named s.devices.items) s.logs.items) (map fresh_after g.logs) it.0 it.1)
    where
      none_then : (b : Bool) → false ≡ (b && not true)
      none_then true = refl
      none_then false = refl

      same_then : (b : Bool) → b ≡ (b && not false)
      same_then true = refl
      same_then false = refl

      old_now : (m l : LogRow) (b : Bool) → log_columns m ≡ (if b then with_stopped false l else log_columns l) → now_of m ≡ now_by l.device l.instance (l.stopped && not b)
      old_now m l true is = rw (int_same m.device l.device (at 1 is), int_same m.instance l.instance (at 2 is), bit_same m.stopped false (at 9 is)) (ap (now_by l.device l.instance) (none_then l.stopped))
      old_now m l false is = rw (int_same m.device l.device (at 1 is), int_same m.instance l.instance (at 2 is), bit_same m.stopped l.stopped (at 9 is)) (ap (now_by l.device l.instance) (same_then l.stopped))

      new_now : (m : LogRow) (k : FreshLog) → log_columns m ≡ (new_log_put k).columns → now_of m ≡ fresh_after k
      new_now m k is = rw (int_same m.device k.device (at 1 is), int_same m.instance k.instance (at 2 is), bit_same m.stopped false (at 9 is)) refl

      go : (x : LogNow) → q x ≡ true → Contains (map (log_after named s.devices.items) s.logs.items) x ⊎ Contains (map fresh_after g.logs) x → list_any (λ m. q (now_of m)) t.logs.items ≡ true
      go x is (inl there) =
          let back = from_map (log_after named s.devices.items) s.logs.items x there in
          let m = tells.logs back.0 back.1 in
          any_of (λ l. q (now_of l)) t.logs.items m.0 m.1 (ap q (old_now m.0 back.0 (asks_again named s.devices.items back.0) m.2 ∙ back.2) ∙ is)
      go x is (inr there) =
          let back = from_map fresh_after g.logs x there in
          let m = tells.new_logs back.0 back.1 in
          any_of (λ l. q (now_of l)) t.logs.items m.0 m.1 (ap q (new_now m.0 back.0 m.2 ∙ back.2) ∙ is)

pub keep_names : NamedAreTold → NamedArePolled → NamedLogsAreAsked → FreshLogsAreAsked → ToldHaveOwnIds → KeepNames
keep_names are_told are_polled are_asked fresh_asked own run old begun site rise set n there =
    let s = set.named.told in
    let opened = set.named.opened in
    let risen : RowsRise opened.trees = rise_opened _ old opened rise set.named.is_told.0 in
    let it = are_told run.named.items opened begun s set.told set.named.put.0 (has_opened _ old opened set.named.is_told.0) risen set.named.is_told.1 set.named.put.1 set.named.put.2 set.stands in
    let f = it.0 in
    let g = it.1 in (
      any_device run.named.items s set.told f g it.3 _ (are_polled s run.named.items f n it.2.devices there),
      λ id instance has at. any_log run.named.items s set.told f g it.3 _ (are_asked s run.named.items f g n id instance (own opened.trees s risen set.named.is_told.1) it.2.logs there has at),
      (f, g, it.2, λ id instance has at none. any_log run.named.items s set.told f g it.3 _ (fresh_asked s run.named.items f g n id instance it.2.logs there has at none)),
    )
