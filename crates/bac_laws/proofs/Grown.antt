-- What a run over an archive in files adds to its items.
use Rattle.std.proofs.Common.{◌≡◌, ◌≢◌, ◌∙◌, ◌⊎◌, inl, inr, ℕ, pos, zero, suc, Bool, true, false, List, [], ◌∷◌, All, map, Option, None, Some, String, Global, IfErr, IfOk, IfSome, IsSome, IsTrue, OnErr, OnOk, Result, Ok, Err, arith, refl, sym, ap, subst}
use Rattle.std.specs.List.{AllZip, Contains, filter}
use Rattle.std.proofs.lemmas.List.Elements.{All-cons, All-nil}
use Rattle.sqlite_disk.specs.declared.Disk as disk
use Rattle.sqlite_disk.specs.declared.Files.{Files}
use Rattle.sqlite_disk.specs.declared.start.Start as start
use Rattle.sqlite_store.specs.declared.store.FileStore.{FileStore}
use Rattle.sqlite_trees.specs.declared.store.Store.{Ghosts}
use Rattle.sqlite_wal.specs.Reads.{AreClean}
use Rattle.sqlite_wal.specs.Recovery.{Image}
use Rattle.sqlite.specs.Closing.{IsCopied}
use Rattle.sqlite.specs.Effect.{Database}
use Rattle.sqlite.specs.Files.{file_state, over_files}
use Rattle.sqlite.specs.Held.{Held, state}
use Rattle.sqlite.specs.State.{HasCleanDisk}
use Rattle.sqlite.specs.declared.error.Error.{Error}
use Rattle.sqlite_value.specs.Order.{Row as Values, column}
use Rattle.sqlite_value.specs.declared.value.Value.{Value}
use Rattle.sqlite_value.specs.declared.value.Value.TheVariants.{Int, Text}
use Rattle.std.proofs.lemmas.Bool.{eqb-true}
use Rattle.std.proofs.lemmas.List.Sorted.{Contains-permutation, IsPermutation-sym}
use Rattle.std.specs.List.Sorted.{IsPermutation}
use Rattle.std.specs.String.{string_bytes}
use Rattle.bac_archive.proofs.ReplaceLemmas.{from_filter, from_map}
use Rattle.bac_archive.specs.Ask.{shown}
use Rattle.bac_archive.specs.Put.{PutsJoin, device_columns, log_columns}
use Rattle.bac_archive.specs.Schema.{no_schema}
use Rattle.bac_archive.specs.declared.row.DeviceRow.{DeviceRow}
use Rattle.bac_archive.specs.declared.row.LogRow.{LogRow}
use Rattle.bac_archive.specs.declared.standing.Standing.{Standing}
use Rattle.bac_batch.proofs.Happening.{steps_happen}
use Rattle.bac_batch.specs.Batch.{Batched, fresh_batch}
use Rattle.bac_device_poller.specs.Poller.{PollerAs}
use Rattle.bac_device_poller.specs.Puts.{put_as}
use Rattle.bac_device_poller.specs.declared.status.Status.{Status}
use Rattle.bac_drive.proofs.Putting.{runs_put}
use Rattle.bac_drive.specs.Chain.{Chain}
use Rattle.bac_drive.specs.Event.{Event}
use Rattle.bac_drive.specs.Happens.{Acts, Fails, Happens, Scene}
use Rattle.bac_drive.specs.Laws.{puts_of}
use Rattle.bac_drive.specs.declared.driving.Fault.{Fault as PollFault}
use Rattle.bac_drive.specs.declared.driving.Fault.TheVariants as poll
use Rattle.bac_files.specs.Files.{FileOf, IsClosedBy, IsDoneTo, IsUnused}
use Rattle.bac_files.specs.declared.disk_files.DiskFiles.{DiskFiles}
use Rattle.bac_files.specs.declared.folder.Place.{Place}
use Rattle.bac_historian.proofs.Closed.{left_at}
use Rattle.bac_historian.specs.Files.{RunsAt, ended}
use Rattle.bac_historian.specs.Kept.{FollowsOne, HaltsFrom, IsCommitted, IsReady, KeepsFrom}
use Rattle.bac_historian.specs.declared.fault.Fault.{Fault as RunFault}
use Rattle.bac_historian.specs.declared.fault.Fault.TheVariants as run
use Rattle.bac_keeping.proofs.Records.{has_named}
use Rattle.bac_keeping.specs.Keeping.{Around, Halts, HaltsEarly, IsSet, Keeps, at_first}
use Rattle.bac_keeping.specs.declared.run.KeepFault.{KeepFault}
use Rattle.bac_keeping.specs.declared.run.KeepFault.TheVariants as fault
use Rattle.bac_keeping.specs.declared.run.Run.{Run}
use Rattle.bac_parts.specs.Archives.{IsShut}
use Rattle.bac_parts.specs.declared.fault.FileFault.{FileFault}
use Rattle.bac_plan.specs.Devices.{called_of, is_polled}
use Rattle.bac_plan.specs.Logs.{is_of as is_log_of, record_of}
use Rattle.bac_plan.specs.Site.{IsSeatOf, IsSite}
use Rattle.bac_plan.specs.declared.options.Options.{Options}
use Rattle.bac_ports.specs.Port.{Receiving, Sending}
use Rattle.bac_resume.specs.Rows.{LogTold}
use Rattle.bac_site_poller.specs.Site.{SiteState}
use Rattle.bac_site_poller.specs.SiteLaws.{IsNew as IsNewSeat, IsUnasked}
use Rattle.bac_site_poller.specs.declared.seat.Seat.{Seat}
use Rattle.bac_socket_notes.specs.Ports.{Event as PortEvent, Happen}
use Rattle.bac_laws.proofs.Batches.{batches_fit}
use Rattle.bac_laws.proofs.ItemsFit.{IsNew, tables_left}
use Rattle.bac_laws.proofs.Named.{Quiet, named_quiet, opened_quiet, quiet_on, quiet_same}
use Rattle.bac_laws.proofs.Noted.{CameThere, acts, came_there, goes, noted}
use Rattle.bac_laws.proofs.RowsFit.{AreLogsOf, IsKnown, Sound}
use Rattle.bac_laws.proofs.DeviceFits.{CameIn, Fits, sound_later}
use Rattle.bac_laws.proofs.TablesFit.{Devices, HasDeviceRow, HasLogRow, Logs}
use Rattle.bac_laws.specs.Added.{AddsOnly, IsGapRow, IsOfRecord}

-- ---- what is told of an archive

-- a log is told, under this id, of this device, with this instance
abbrev Told : Standing → ℕ → ℕ → ℕ → Type 0
Told told log device instance = (l : LogRow) × Contains told.logs.items l × (l.id ≡ log) × (l.device ≡ device) × (l.instance ≡ instance)

-- a device is, under this id, at this address
abbrev ToldAt : Standing → ℕ → Value → Type 0
ToldAt told device address = (d : DeviceRow) × Contains told.devices.items d × (d.id ≡ device) × (address ≡ Text (string_bytes d.address))

text_of : (told : Standing) (device : ℕ) (v : Value) → ToldAt told device v → (address : List ℕ) × (v ≡ Text address)
text_of told device v it = (string_bytes it.0.address, it.3)

in_map : {X Y : Type 0} (f : X → Y) (xs : List X) (x : X) → Contains xs x → Contains (map f xs) (f x)
in_map f [] x (k, less, is) = absurd (omega (arith, less))
in_map f (y ∷ ys) x (zero, less, is) = (0, omega arith, ap f is)
in_map f (y ∷ ys) x (suc k, less, is) = let it = in_map f ys x (k, omega (arith, less), is) in (suc it.0, (let l = it.1 in omega (arith, l)), it.2)

head_of : {X : Type 0} (x : X) (xs : List X) → Contains (x ∷ xs) x
head_of x xs = (0, omega arith, refl)

more_of_list : {X : Type 0} (x y : X) (xs : List X) → Contains xs y → Contains (x ∷ xs) y
more_of_list x y xs (i, less, is) = (suc i, omega (arith, less), is)

-- the site that begins
module _ (told : Standing) where
  K : ℕ → ℕ → ℕ → Type 0
  K = Told told

  logs_fit : (device : ℕ) (called : List ℕ) (at : List LogTold) (ls : List LogRow) → ((l : LogRow) → Contains ls l → Contains told.logs.items l × (l.device ≡ device))
      → AreLogsOf (Told told) (ToldAt told) (CameIn (Told told) (ToldAt told) []) [] device (map (record_of called at) ls)
  logs_fit device called at [] all = tt
  logs_fit device called at (l ∷ ls) all =
      let it = all l (head_of l ls) in
      ((it.1, inl (l, it.0, refl, refl, refl), refl), logs_fit device called at ls (λ m has. all m (more_of_list l m ls has)))

  seats_fit : (options : Options) (at : List LogTold) (logs : List LogRow) (ds : List DeviceRow) (seats : List Seat)
      → ((l : LogRow) → Contains logs l → Contains told.logs.items l) → ((d : DeviceRow) → Contains ds d → Contains told.devices.items d)
      → AllZip (IsSeatOf options at logs) ds seats
      → All (λ seat. Fits (Told told) (ToldAt told) [] [] seat.poller) seats × All IsNewSeat seats
  seats_fit options at logs [] [] of_logs of_devices zip = (All-nil (λ seat. Fits (Told told) (ToldAt told) [] [] seat.poller), All-nil IsNewSeat)
  seats_fit options at logs (d ∷ ds) (seat ∷ seats) of_logs of_devices ((p, poller, is), more) =
      let rest = seats_fit options at logs ds seats of_logs (λ e has. of_devices e (more_of_list d e ds has)) more in
      let here : ToldAt told d.id (Text (string_bytes d.address)) = (d, of_devices d (head_of d ds), refl, refl) in
      let own_logs = logs_fit d.id (called_of d) at (filter (is_log_of d.id) logs)
      (λ l has. let it = from_filter (is_log_of d.id) logs l has in (of_logs l it.0, eqb-true l.device d.id it.1)) in
      let fits : Fits (Told told) (ToldAt told) [] [] p = subst (Fits (Told told) (ToldAt told) [] []) (sym poller.is) (record {
        device = d.id;
        held = tt;
        empty = refl;
        logs = own_logs;
        own = (refl, here);
        at = (string_bytes d.address, here, poller.way_is.peer);
      }) in
      let new : IsNewSeat (record { poller = p; due = 0; sent = 0; is_repeated = false; stray = None }) =
      (ap (λ (x : PollerAs). x.doing) poller.is, ap (λ (x : PollerAs). x.transactions.pending) poller.is, refl) in (
        All-cons (λ x. Fits (Told told) (ToldAt told) [] [] x.poller) seat seats (subst (λ (x : Seat). Fits (Told told) (ToldAt told) [] [] x.poller) (sym is) fits) rest.0,
        All-cons IsNewSeat seat seats (subst IsNewSeat (sym is) new) rest.1,
      )
  seats_fit options at logs [] (seat ∷ seats) of_logs of_devices zip = absurd zip
  seats_fit options at logs (d ∷ ds) [] of_logs of_devices zip = absurd zip

  site_begins : (options : Options) (site : SiteState) → IsSite options told site
      → IsUnasked site × All (λ seat. Fits (Told told) (ToldAt told) [] [] seat.poller) site.waiting
  site_begins options site it =
      let of_logs : (l : LogRow) → Contains it.logs l → Contains told.logs.items l =
      λ l has. Contains-permutation it.logs told.logs.items l (IsPermutation-sym told.logs.items it.logs it.each_log) has in
      let of_devices : (d : DeviceRow) → Contains (filter is_polled it.devices) d → Contains told.devices.items d =
      λ d has. Contains-permutation it.devices told.devices.items d (IsPermutation-sym told.devices.items it.devices it.each_device) (from_filter is_polled it.devices d has).0 in
      let all = seats_fit options it.told it.logs (filter is_polled it.devices) it.seats of_logs of_devices it.seats_are in
      let S : SiteState → Type 0 = λ x. IsUnasked x × All (λ seat. Fits (Told told) (ToldAt told) [] [] seat.poller) x.waiting in
      subst S (sym it.is) ((refl, all.1, refl), all.0)

  -- what is told has its row
  log_there : (rows : List Values) → IsPermutation (map (shown 9) rows) (map log_columns told.logs.items) → (log device instance : ℕ) → Told told log device instance
      → HasLogRow rows log device instance
  log_there rows same log device instance (l, has, id, dev, ins) =
      let there = Contains-permutation (map log_columns told.logs.items) (map (shown 9) rows) (log_columns l)
      (IsPermutation-sym (map (shown 9) rows) (map log_columns told.logs.items) same) (in_map log_columns told.logs.items l has) in
      let it = from_map (shown 9) rows (log_columns l) there in (
        it.0,
        it.1,
        ap (λ (r : Values). column r 0) it.2 ∙ ap (λ (n : ℕ). Int (pos n)) id,
        ap (λ (r : Values). column r 1) it.2 ∙ ap (λ (n : ℕ). Int (pos n)) dev,
        ap (λ (r : Values). column r 2) it.2 ∙ ap (λ (n : ℕ). Int (pos n)) ins,
      )

  device_there : (rows : List Values) → IsPermutation (map (shown 10) rows) (map device_columns told.devices.items) → (device : ℕ) (address : List ℕ) → ToldAt told device (Text address)
      → HasDeviceRow rows device address
  device_there rows same device address (d, has, id, at) =
      let there = Contains-permutation (map device_columns told.devices.items) (map (shown 10) rows) (device_columns d)
      (IsPermutation-sym (map (shown 10) rows) (map device_columns told.devices.items) same) (in_map device_columns told.devices.items d has) in
      let it = from_map (shown 10) rows (device_columns d) there in
      (it.0, it.1, ap (λ (r : Values). column r 0) it.2 ∙ ap (λ (n : ℕ). Int (pos n)) id, ap (λ (r : Values). column r 1) it.2 ∙ sym at)

module _ {P C : Type 0} (sends : P → List ℕ → List ℕ → Sending → P → Type 0) (receives : P → Receiving → P → Type 0)
    (within : P → ℕ → Receiving → P → Type 0) (tells : C → ℕ → C → Type 0) (join : PutsJoin) where
  abbrev a : Acts (Batched SiteState) P C
  a = acts sends receives within tells

  abbrev At : Type 0
  At = Scene (Batched SiteState) P C

  abbrev Over : List PortEvent → P → P → Type 0
  Over es old new = Happen sends receives within es old new

  -- what happened over the port, and what it adds
  abbrev Grown : P → P → Database → Database → Type 0
  Grown port last found left = (es : List PortEvent) × Over es port last × AddsOnly es found left

  -- after quiet steps
  quiet_adds : (es : List PortEvent) (old mid new : Database) → Quiet old mid → AddsOnly es mid new → AddsOnly es old new
  quiet_adds es old mid new quiet adds devices logs row there = by (adds (quiet.devices devices) (quiet.logs logs) row there)
    where
      by : Contains (mid.trees 5) row ⊎ (IsGapRow row ⊎ IsOfRecord es new row) → Contains (old.trees 5) row ⊎ (IsGapRow row ⊎ IsOfRecord es new row)
      by (inl was) = inl (quiet.items row was)
      by (inr new_row) = inr new_row

  only_quiet : (es : List PortEvent) (old new : Database) → Quiet old new → AddsOnly es old new
  only_quiet es old new quiet devices logs row there = inl (quiet.items row there)

  polls : (order : Run) (old begun : Database) (site : SiteState) (by : Around P C) (es : List Event) (last : At) → IsSet order old begun site
      → Chain (Happens a) (at_first by site begun) es last → Grown by.port last.port old last.database
  polls order old begun site by es last set happen =
      (noted es, goes sends receives within tells es (at_first by site begun) last happen, quiet_adds (noted es) old begun last.database (named_quiet order old begun set.named) adds)
    where
      kept : Sound (Told set.told) (ToldAt set.told) (CameIn (Told set.told) (ToldAt set.told) es) [] (map put_as (puts_of es))
      kept =
          let first = site_begins set.told order.options site set.site_is in
          batches_fit (Told set.told) (ToldAt set.told) (fresh_batch site) last.machine es (refl, refl) first.0 first.1 (steps_happen a (at_first by site begun) last es happen)

      there : Sound (Told set.told) (ToldAt set.told) (CameThere (ToldAt set.told) (noted es)) [] (map put_as (puts_of es))
      there = sound_later (Told set.told) (ToldAt set.told) (CameIn (Told set.told) (ToldAt set.told) es) (CameThere (ToldAt set.told) (noted es))
          (λ device instance held came. came_there (Told set.told) (ToldAt set.told) es device instance held came) [] (map put_as (puts_of es)) kept

      adds : AddsOnly (noted es) begun last.database
      adds devices logs row has =
          let it = tables_left (Told set.told) (ToldAt set.told) (CameThere (ToldAt set.told) (noted es)) (text_of set.told) begun last.database (puts_of es) (has_named order old begun set.named)
          (runs_put a join (at_first by site begun) last es happen) there
          (logs, λ log device instance known. first_log log device instance known)
          (devices, λ device address known. device_there set.told (begun.trees 1) set.stands.devices device address known) in
          by_row it (it.0 row has)
        where
          first_log : (log device instance : ℕ) → IsKnown (Told set.told) (ToldAt set.told) [] log device instance → HasLogRow (begun.trees 3) log device instance
          first_log log device instance (inl known) = log_there set.told (begun.trees 3) set.stands.logs log device instance known
          first_log log device instance (inr none) = absurd none

          by_row : (((row : Values) → Contains (last.database.trees 5) row → Contains (begun.trees 5) row ⊎ IsNew (Told set.told) (ToldAt set.told) (CameThere (ToldAt set.told) (noted es)) (map put_as (puts_of es)) row)
              × Logs (Told set.told) (ToldAt set.told) (CameThere (ToldAt set.told) (noted es)) (map put_as (puts_of es)) (last.database.trees 3)
              × Devices (Told set.told) (ToldAt set.told) (CameThere (ToldAt set.told) (noted es)) (text_of set.told) (last.database.trees 1))
              → Contains (begun.trees 5) row ⊎ IsNew (Told set.told) (ToldAt set.told) (CameThere (ToldAt set.told) (noted es)) (map put_as (puts_of es)) row
              → Contains (begun.trees 5) row ⊎ (IsGapRow row ⊎ IsOfRecord (noted es) last.database row)
          by_row tables (inl was) = inl was
          by_row tables (inr (inl gap)) = inr (inl gap)
          by_row tables (inr (inr (log, epoch, device, instance, held, known, (address, at, from, peer, came), is))) =
              let d = tables.2.1 device address at in
              let l = tables.1.1 log device instance known in
              inr (inr (log, epoch, held, is, instance, from, (device, (l.0, l.1, l.2, l.3, l.4), (d.0, d.1, d.2, address, d.3, peer)), came))

  moved : (port last left : P) (found kept new : Database) → left ≡ last → new ≡ kept → Grown port last found kept → Grown port left found new
  moved port last left found kept new same is (es, over, grew) = (
    es,
    subst (λ (p : P). Over es port p) (sym same) over,
    subst (λ (d : Database). AddsOnly es found d) (sym is) grew,
  )

  keeps : (order : Run) (by left : Around P C) (old new : Database) (status : Status) → Keeps a order by left old new status → Grown by.port left.port old new
  keeps order by left old new status (begun, site, end, set, (es, last, happen, ends), told) =
      moved by.port last.port left.port old last.database new (ap (λ (x : At). x.port) ends.1) (ap (λ (x : At). x.database) ends.1)
      (polls order old begun site by es last set happen)

  fails : {D : Type 0} (g : Ghosts D) (at left : At) (why : PollFault) → Fails g a at left why → left.port ≡ at.port
  fails g at left (poll.Archive error) is = ap (λ (s : At). s.port) is.0
  fails g at left poll.Output is = ap (λ (s : At). s.port) is.0
  fails g at left poll.Errors is = ap (λ (s : At). s.port) is.0
  fails g at left poll.Memory is = ap (λ (s : At). s.port) is
  fails g at left poll.Unending is = ap (λ (s : At). s.port) is

  -- before the poll
  early : {D : Type 0} (g : Ghosts D) (order : Run) (old new : Held D) (why : KeepFault) → IsTrue (state g new).is_open → HaltsEarly g order old new why
      → Quiet (state g old).now (state g new).now
  early g order old new (fault.Refused why) is_open halts = quiet_same (state g old).now (state g new).now (halts.left is_open)
  early g order old new (fault.Untold e) is_open (inl halts) =
      quiet_on (state g old).now (state g halts.0).now (state g new).now (opened_quiet _ (state g old).now (state g halts.0).now halts.1)
      (quiet_same (state g halts.0).now (state g new).now (halts.3 is_open))
  early g order old new (fault.Untold e) is_open (inr halts) =
      quiet_on (state g old).now (state g halts.0).now (state g new).now (named_quiet order (state g old).now (state g halts.0).now halts.1)
      (quiet_same (state g halts.0).now (state g new).now (halts.3 is_open))
  early g order old new (fault.Naming e) is_open halts = opened_quiet _ (state g old).now (state g new).now halts.1.0
  early g order old new (fault.Unput e) is_open (at, told, is_told, (puts, rows, cannot, left)) =
      quiet_on (state g old).now (state g at).now (state g new).now (opened_quiet _ (state g old).now (state g at).now is_told.0)
      (quiet_same (state g at).now (state g new).now (left is_open))
  early g order old new (fault.Plan e) is_open halts = named_quiet order (state g old).now (state g new).now halts.0
  early g order old new (fault.Poll e) is_open halts = absurd halts

  halts : {D : Type 0} (g : Ghosts D) (order : Run) (by left : Around P C) (old new : Held D) (why : KeepFault) → Halts g a order by left old new why
      → (es : List PortEvent) × Over es by.port left.port × (IsTrue (state g new).is_open → AddsOnly es (state g old).now (state g new).now)
  halts g order by left old new why (inl (before, same)) =
      ([], ap (λ (x : Around P C). x.port) same, λ is_open. only_quiet [] (state g old).now (state g new).now (early g order old new why is_open before))
  halts g order by left old new why (inr (of_poll, is, (begun, site, end, set, (es, last, happen, (stops, untouched), unending)))) =
      let it = polls order (state g old).now begun site by es last set happen in (
        it.0,
        subst (λ (p : P). Over it.0 by.port p) (sym (fails g last _ of_poll stops)) it.1,
        λ is_open. subst (λ (d : Database). AddsOnly it.0 (state g old).now d) (sym (untouched is_open)) it.2,
      )

  module _ {F G : Type 0} {s : start.Ghosts F} {t : start.Ghosts G} (f : disk.Ghosts (FileOf s)) (file : Image) (g : disk.Ghosts (FileOf t))
      (part : Image) where
    -- the file had something, or no part before it was read
    abbrev StandsAlone : DiskFiles G t → Database → Type 0
    StandsAlone parts found = (found.schema ≢ no_schema) ⊎ (parts.closed ≡ None)

    follows_none : (before : Option (String Global)) (parts : DiskFiles G t) (found ready : Database) → StandsAlone parts found → FollowsOne g part before parts found ready → ⊥
    follows_none before parts found ready (inl some) follows = absurd (some follows.0)
    follows_none None parts found ready (inr none) follows = absurd follows.1
    follows_none (Some path) parts found ready (inr none) follows =
        let e : IsSome {T = Files (FileOf t)} None = subst (λ (o : Option (Files (FileOf t))). IsSome o) none follows.1.1 in
        absurd (let bad : false ≡ true = e in cc)

    ready_quiet : (before : Option (String Global)) (parts : DiskFiles G t) (found ready : Database) → StandsAlone parts found → IsReady g part before parts found ready → Quiet found ready
    ready_quiet before parts found ready alone (inl same) = quiet_same found ready same.0
    ready_quiet before parts found ready alone (inr follows) = absurd (follows_none before parts found ready alone follows)

    -- what closed files hold
    abbrev pub HoldsGrown : DiskFiles F s → DiskFiles G t → List PortEvent → Type 0
    HoldsGrown closed parts es = IfSome closed.closed (IsDoneTo f file (λ found left. (found.schema ≢ no_schema) ⊎ (parts.closed ≡ None) → AddsOnly es found left))

    -- the archive is no use, and nothing was done; or it is so
    abbrev pub Ran : Result Status RunFault → P → P → DiskFiles F s → DiskFiles F s → DiskFiles G t → Type 0
    Ran result port last files closed parts = ((why : FileFault) × (result ≡ Err (run.File why)) × (last ≡ port))
        ⊎ ((es : List PortEvent) × Over es port last × (IsUnused files → HoldsGrown closed parts es))

    clean : (last : Held (FileStore (FileOf s) f)) (files closed : DiskFiles F s) (shut : Result (Unit {0}) Error) → IsShut last files closed shut
        → (closed.unclosed ≡ None) × IfSome closed.closed (λ c. AreClean f c.log c.db) → HasCleanDisk (file_state last)
    clean last files closed (Err error) (unclosed, same) honest = absurd (let e : Some error ≡ None = sym unclosed ∙ honest.0 in cc)
    clean last files closed (Ok none) ((some, copied), same) honest = by closed.closed some copied honest.1
      where
        by : (o : Option (Files (FileOf s))) → IsSome o → IfSome o (λ c. AreClean f c.log c.db → IsCopied last c) → IfSome o (λ c. AreClean f c.log c.db)
            → HasCleanDisk (file_state last)
        by None some copied honest = absurd (let no : false ≡ true = some in cc)
        by (Some c) some copied honest = (copied honest).was_clean

    copied_so : (last : Held (FileStore (FileOf s) f)) (files closed : DiskFiles F s) (shut : Result (Unit {0}) Error) → IsShut last files closed shut
        → OnOk shut (IsClosedBy last closed.closed) × OnErr shut (closed.closed ≡ files.closed)
    copied_so last files closed (Ok none) is = (is.0, tt)
    copied_so last files closed (Err error) is = (tt, is.1)

    file_ends : (why : FileFault) (shut : Result (Unit {0}) Error) → ended (Err (run.File why)) shut ≡ Err (run.File why)
    file_ends why (Ok none) = refl
    file_ends why (Err error) = refl

    pub ran : (order : Run) (place : Place) (blames : Bool) (files closed : DiskFiles F s) (parts : DiskFiles G t) (by left : Around P C)
        (result : Result Status RunFault) → RunsAt f file g part a order place blames files closed parts by left result
        → (closed.unclosed ≡ None) × IfSome closed.closed (λ c. AreClean f c.log c.db) → Ran result by.port left.port files closed parts
    ran order place blames files closed parts by left result (inl (why, is, blame, same, unopened, stays, unclosed)) honest =
        inl (why, is, ap (λ (x : Around P C). x.port) same)
    ran order place blames files closed parts by left result (inr over) honest = of over.came over.keeps over.halts over.committed (over.ends)
      where
        honestly : HasCleanDisk (file_state over.last)
        honestly = clean over.last files closed over.shut over.is_shut honest

        earlier : HasCleanDisk (file_state over.last) → HasCleanDisk (file_state over.opened)
        earlier now = let crash = over.crash.clean in omega (arith, now, crash)

        holds : (es : List PortEvent) → (IsTrue (file_state over.opened).is_open → (file_state over.opened).committed ≡ (file_state over.opened).now → IsTrue (file_state over.last).is_open
            → StandsAlone parts (file_state over.opened).now → AddsOnly es (file_state over.opened).now (file_state over.last).committed)
            → IsUnused files → HoldsGrown closed parts es
        holds es grows unused =
            let so = copied_so over.last files closed over.shut over.is_shut in
            left_at file over.opened over.last files closed over.is earlier (λ found left. (found.schema ≢ no_schema) ⊎ (parts.closed ≡ None) → AddsOnly es found left) over.shut unused
            (λ now was settled is_open. grows was settled is_open) so.0 so.1

        of : (came : Result Status RunFault)
            → (HasCleanDisk (file_state over.last) → IfOk came (KeepsFrom g part a order place.before parts by left (file_state over.opened).now (file_state over.last).now))
            → IfErr came (HaltsFrom g part over_files a order place.before blames parts by left over.opened over.last)
            → (HasCleanDisk (file_state over.last) → IsCommitted (file_state over.opened) (file_state over.last) came)
            → result ≡ ended came over.shut → Ran result by.port left.port files closed parts
        of (Ok status) kept halted committed is =
            let it = kept honestly in
            let grown = keeps order by left it.0 (file_state over.last).now status it.2 in
            inr (
              grown.0,
              grown.1,
              holds grown.0 (λ was settled is_open alone.
                  subst (λ (d : Database). AddsOnly grown.0 (file_state over.opened).now d) (sym (committed honestly))
                  (quiet_adds grown.0 (file_state over.opened).now it.0 (file_state over.last).now (ready_quiet place.before parts (file_state over.opened).now it.0 alone it.1) grown.2)),
            )
        of (Err (run.File why)) kept halted committed is = inl (why, is ∙ file_ends why over.shut, ap (λ (x : Around P C). x.port) halted.1)
        of (Err (run.Run why)) kept halted committed is =
            let it = halted.1 honestly in
            let grown = halts over_files order by left it.0 over.last why it.2 in
            inr (
              grown.0,
              grown.1,
              holds grown.0 (λ was settled is_open alone.
                  subst (λ (d : Database). AddsOnly grown.0 (file_state over.opened).now d) (sym (committed honestly settled is_open))
                  (quiet_adds grown.0 (file_state over.opened).now (file_state it.0).now (file_state over.last).now
                  (ready_quiet place.before parts (file_state over.opened).now (file_state it.0).now alone (Rattle.bac_historian.proofs.Remains.ready_in g part over_files place.before parts over.opened it.0 it.1))
                  (grown.2 is_open))),
            )
