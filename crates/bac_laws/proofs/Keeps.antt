-- What `keep` leaves whole: it reads alone.
use Rattle.std.proofs.Common.{◌≡◌, ℕ, inl, inr, Bool, true, false, List, [], ◌∷◌, All, Option, None, Some, String, Global, IfErr, IfOk, IfSome, IsSome, Result, Ok, Err, ap, refl, subst, sym, ◌∙◌}
use Rattle.std.proofs.lemmas.List.Elements.{All-head, All-tail}
use Rattle.sqlite_disk.specs.declared.Disk as disk
use Rattle.sqlite_disk.specs.declared.Files.{Files}
use Rattle.sqlite_disk.specs.declared.start.Start as start
use Rattle.sqlite_store.specs.declared.store.FileStore.{FileStore}
use Rattle.sqlite_trees.specs.declared.store.Store.{Ghosts}
use Rattle.sqlite_wal.specs.Reads.{AreClean}
use Rattle.sqlite_wal.specs.Recovery.{Image}
use Rattle.sqlite.specs.Closing.{IsCopied}
use Rattle.sqlite.specs.Effect.{Database}
use Rattle.sqlite.specs.Files.{file_state, over_files}
use Rattle.sqlite.specs.Held.{Held}
use Rattle.sqlite.specs.State.{HasCleanDisk}
use Rattle.sqlite.specs.declared.error.Error.{Error}
use Rattle.bac_batch.proofs.Happening.{steps_happen}
use Rattle.bac_batch.specs.Batch.{Batched, fresh_batch}
use Rattle.bac_device_poller.specs.declared.status.Status.{Status}
use Rattle.bac_drive.specs.Chain.{Chain}
use Rattle.bac_drive.specs.Event.{Event, Kept, Printed, Read, Sent, Waited, Warned}
use Rattle.bac_drive.specs.Happens.{Acts, Changes, Fails, Happens, Scene}
use Rattle.bac_drive.specs.declared.driving.Fault.{Fault as PollFault}
use Rattle.bac_drive.specs.declared.driving.Fault.TheVariants as poll
use Rattle.bac_files.specs.Files.{FileOf}
use Rattle.bac_files.specs.declared.disk_files.DiskFiles.{DiskFiles}
use Rattle.bac_files.specs.declared.folder.Place.{Place}
use Rattle.bac_historian.specs.Files.{RunsAt}
use Rattle.bac_historian.specs.Kept.{HaltsFrom, KeepsFrom}
use Rattle.bac_historian.specs.declared.fault.Fault.{Fault as RunFault}
use Rattle.bac_historian.specs.declared.fault.Fault.TheVariants as run
use Rattle.bac_keep_command_line.specs.declared.orders.Order.{Order}
use Rattle.bac_keeper.specs.Machine.{Hands, hands}
use Rattle.bac_keeper.specs.Runs.{RunsOrder, RunsPlaced, RunsTool}
use Rattle.bac_keeper.specs.declared.fault.Fault.{Fault}
use Rattle.bac_keeping.specs.Keeping.{Around, Halts, IsSet, at_first}
use Rattle.bac_keeping.specs.declared.run.KeepFault.{KeepFault}
use Rattle.bac_keeping.specs.declared.run.Run.{Run}
use Rattle.bac_laws.proofs.Over.{StaysWhole, still, used}
use Rattle.bac_laws.proofs.Polled.{Reads, SendsRead, batches_read, site_unasked}
use Rattle.bac_laws.specs.Sends.{GaveBack, Seal}
use Rattle.bac_parts.specs.Archives.{IsShut}
use Rattle.bac_ports.specs.Sockets.{SocketRules}
use Rattle.bac_run.specs.Keeping.{KeepsAsked, KeepsBy, KeepsDevices, KeepsOf, RunsFrom}
use Rattle.bac_run.specs.Setup.{Setup, hands_of}
use Rattle.bac_site_poller.specs.Site.{SiteState}
use Rattle.bac_site_poller.specs.SiteLaws.{site_acts}
use Rattle.bac_wire.specs.Stamp.{CivilTime}
use Rattle.bac_command_line.specs.Jobs.{reads_input, with_groups}
use Rattle.bac_command_line.specs.declared.group.Group.{Group}
use Rattle.bac_command_line.specs.declared.job.Keep.{Keep}
use Rattle.bac_command_line.specs.declared.listing.ListFault.{ListFault}

module _ {S P C : Type 0} {rules : SocketRules S P} {changes : S → S → Type 0} {may : List ℕ → List ℕ → Type 0}
    (seal : Seal rules changes may) (ok : (octets to : List ℕ) → Reads octets → may octets to) (tells : C → ℕ → C → Type 0) where
  -- a site that is polled over a port
  abbrev acts : Acts (Batched SiteState) P C
  acts = site_acts rules.sends rules.receives_within tells

  abbrev At : Type 0
  At = Scene (Batched SiteState) P C

  happens : (e : Event) (old new : At) → SendsRead e → Changes acts old e new → StaysWhole seal old.port new.port
  happens (Sent octets to answer) old new reads (sends, same) = λ whole. seal.sends old.port new.port octets to answer (ok octets to reads) whole sends
  happens (Waited within heard) old new reads (receives, same) = λ whole. seal.waits old.port new.port within heard whole receives
  happens (Read ms) old new reads (told, same) = still seal old.port new.port (ap (λ (s : At). s.port) same)
  happens (Kept puts) old new reads (put, same) = still seal old.port new.port (ap (λ (s : At). s.port) same)
  happens (Printed text) old new reads (put, same) = still seal old.port new.port (ap (λ (s : At). s.port) same)
  happens (Warned text) old new reads (put, same) = still seal old.port new.port (ap (λ (s : At). s.port) same)

  chain : (es : List Event) (old new : At) → All SendsRead es → Chain (Happens acts) old es new → StaysWhole seal old.port new.port
  chain [] old new all same = still seal old.port new.port (ap (λ (s : At). s.port) same)
  chain (e ∷ es) old new all (mid, (wanted, half, gives, does, told, changes), more) =
      λ whole. chain es mid new (All-tail SendsRead e es all) more (happens e old mid (All-head SendsRead e es all) changes whole)

  -- the site of an archive is polled
  polls : (order : Run) (old begun : Database) (site : SiteState) (by : Around P C) (es : List Event) (last : At) → IsSet order old begun site
      → Chain (Happens acts) (at_first by site begun) es last → StaysWhole seal by.port last.port
  polls order old begun site by es last set happen =
      chain es (at_first by site begun) last
      (batches_read (fresh_batch site) last.machine es (refl, refl) (site_unasked order.options set.told site set.site_is)
      (steps_happen acts (at_first by site begun) last es happen)) happen

  -- it fails, and the port is as it was then
  fails : {D : Type 0} (g : Ghosts D) (at left : At) (why : PollFault) → Fails g acts at left why → left.port ≡ at.port
  fails g at left (poll.Archive error) is = ap (λ (s : At). s.port) is.0
  fails g at left poll.Output is = ap (λ (s : At). s.port) is.0
  fails g at left poll.Errors is = ap (λ (s : At). s.port) is.0
  fails g at left poll.Memory is = ap (λ (s : At). s.port) is
  fails g at left poll.Unending is = ap (λ (s : At). s.port) is

  halts : {D : Type 0} (g : Ghosts D) (order : Run) (by left : Around P C) (old new : Held D) (why : KeepFault) → Halts g acts order by left old new why
      → StaysWhole seal by.port left.port
  halts g order by left old new why (inl (early, same)) = still seal by.port left.port (ap (λ (a : Around P C). a.port) same)
  halts g order by left old new why (inr (fault, is, (begun, site, end, set, (es, last, happen, (stops, untouched), unending)))) =
      λ whole. still seal last.port left.port (fails g last _ fault stops) (polls order _ begun site by es last set happen whole)

  module _ {F G : Type 0} {s : start.Ghosts F} {t : start.Ghosts G} (f : disk.Ghosts (FileOf s)) (file : Image) (g : disk.Ghosts (FileOf t))
      (part : Image) where
    keeps : (order : Run) (before : Option (String Global)) (parts : DiskFiles G t) (by left : Around P C) (found kept : Database) (status : Status)
        → KeepsFrom g part acts order before parts by left found kept status → StaysWhole seal by.port left.port
    keeps order before parts by left found kept status (ready, is, (begun, site, end, set, (es, last, happen, ends), told)) =
        λ whole. still seal last.port left.port (ap (λ (x : At). x.port) ends.1) (polls order ready begun site by es last set happen whole)

    -- the disk gave back what was written
    clean : (last : Held (FileStore (FileOf s) f)) (files closed : DiskFiles F s) (shut : Result (Unit {0}) Error) → IsShut last files closed shut
        → GaveBack f closed → HasCleanDisk (file_state last)
    clean last files closed (Err error) (unclosed, same) honest = absurd (let e : Some error ≡ None = sym unclosed ∙ honest.0 in cc)
    clean last files closed (Ok none) ((some, copied), same) honest = by closed.closed some copied honest.1
      where
        by : (o : Option (Files (FileOf s))) → IsSome o → IfSome o (λ c. AreClean f c.log c.db → IsCopied last c) → IfSome o (λ c. AreClean f c.log c.db)
            → HasCleanDisk (file_state last)
        by None some copied honest = absurd (let no : false ≡ true = some in cc)
        by (Some c) some copied honest = (copied honest).was_clean

    ran : (order : Run) (place : Place) (blames : Bool) (files closed : DiskFiles F s) (parts : DiskFiles G t) (by left : Around P C)
        (result : Result Status RunFault) → RunsAt f file g part acts order place blames files closed parts by left result
        → GaveBack f closed → StaysWhole seal by.port left.port
    ran order place blames files closed parts by left result (inl (why, is, blame, same, unopened, stays, unclosed)) honest =
        still seal by.port left.port (ap (λ (a : Around P C). a.port) same)
    ran order place blames files closed parts by left result (inr over) honest = of over.came over.keeps over.halts
      where
        honestly : HasCleanDisk (file_state over.last)
        honestly = clean over.last files closed over.shut over.is_shut honest

        of : (came : Result Status RunFault)
            → (HasCleanDisk (file_state over.last) → IfOk came (KeepsFrom g part acts order place.before parts by left (file_state over.opened).now (file_state over.last).now))
            → IfErr came (HaltsFrom g part over_files acts order place.before blames parts by left over.opened over.last) → StaysWhole seal by.port left.port
        of (Ok status) kept halted = keeps order place.before parts by left _ _ status (kept honestly)
        of (Err (run.File why)) kept halted = still seal by.port left.port (ap (λ (a : Around P C). a.port) halted.1)
        of (Err (run.Run why)) kept halted = let it = halted.1 honestly in halts over_files order by left it.0 over.last why it.2

    placed : (order : Order) (place : Place) (old new : Hands S C s t) (result : Result ℕ Fault)
        → RunsPlaced rules acts f file g part order place old new result → GaveBack f new.files
        → seal.sockets old.room.port ≡ true → seal.sockets new.room.port ≡ true
    placed order place old new result (inl (why, (opens, same), is)) honest whole =
        (seal.opens old.room.port new.room.port order.local order.run.options.limits.wait_ms (Err why) whole opens).0
    placed order place old new result (inr (blames, came, told, runs, ends)) honest whole =
        used seal order.local order.run.options.limits.wait_ms old.room.port _ new.room.port
        (λ port last over. ran order.run place blames old.files new.files new.parts _ _ came over.runs honest) runs whole

    order_kept : (keep : Keep) (order : Order) (old new : Hands S C s t) (result : Result ℕ Fault)
        → RunsOrder rules acts f file g part keep order old new result → GaveBack f new.files
        → seal.sockets old.room.port ≡ true → seal.sockets new.room.port ≡ true
    order_kept keep order old new result (inl (places, same, parts)) honest whole =
        subst (λ (x : S). seal.sockets x ≡ true) (sym (ap (λ (a : Around S C). a.port) same)) whole
    order_kept keep order old new result (inr (place, is, files, untouched, runs)) honest whole =
        placed order place (hands old.room files old.parts) new result runs honest whole

    pub tool_kept : (keep : Keep) (begun : CivilTime) (old new : Hands S C s t) (result : Result ℕ Fault)
        → RunsTool rules acts f file g part keep begun old new result → GaveBack f new.files
        → seal.sockets old.room.port ≡ true → seal.sockets new.room.port ≡ true
    tool_kept keep begun old new result (inl (refused, same)) honest whole =
        subst (λ (x : S). seal.sockets x ≡ true) (sym (ap (λ (h : Hands S C s t). h.room.port) same)) whole
    tool_kept keep begun old new result (inr (order, is, runs)) honest whole = order_kept keep order old new result runs honest whole

-- ---- by the words

-- the site that is polled over such sockets
abbrev pub site_over : {S P W : Type 0} → SocketRules S P → (W → ℕ → W → Type 0) → Acts (Batched SiteState) P W
site_over rules reads = site_acts rules.sends rules.receives_within reads

module _ {S P C W Q F G : Type 0} {s : start.Ghosts F} {t : start.Ghosts G} (rules : SocketRules S P) (f : disk.Ghosts (FileOf s)) (file : Image)
    (g : disk.Ghosts (FileOf t)) (part : Image) (waits : W) (reads : W → ℕ → W → Type 0) (tells : C → Option CivilTime → C → Type 0) where
  -- the sockets are as they were
  abbrev StillOpen : Setup S C Q s t → Setup S C Q s t → Type 0
  StillOpen old new = new.streams.sockets ≡ old.streams.sockets

  stops : (stop : Bool) (asked : Keep) (old : Setup S C Q s t) (status : ℕ) (new : Setup S C Q s t) → stop ≡ true
      → KeepsBy rules (site_over rules reads) f file g part waits tells stop asked old status new → StillOpen old new
  stops true asked old status new is (ran, only) = only.0
  stops false asked old status new is ran = absurd (let e : false ≡ true = is in cc)

  devices_stop : (asked : Keep) (list : Result (List Group) ListFault) (old : Setup S C Q s t) (status : ℕ) (new : Setup S C Q s t) → asked.stop ≡ true
      → KeepsDevices rules (site_over rules reads) f file g part waits tells asked list old status new → StillOpen old new
  devices_stop asked (Ok groups) old status new is ran = stops asked.stop (with_groups asked groups) old status new is ran
  devices_stop asked (Err fault) old status new is (told, clock) = told.2

  stops_of : (lists : Bool) (asked : Keep) (old : Setup S C Q s t) (status : ℕ) (new : Setup S C Q s t) → asked.stop ≡ true
      → KeepsOf rules (site_over rules reads) f file g part waits tells lists asked old status new → StillOpen old new
  stops_of false asked old status new is (ran, unread) = stops asked.stop asked old status new is ran
  stops_of true asked old status new is (list, within, ran) = devices_stop asked list old status new is ran

  -- with `--stop` no socket is opened
  pub keep_stops : (asked : Keep) (old : Setup S C Q s t) (status : ℕ) (new : Setup S C Q s t) → asked.stop ≡ true
      → KeepsAsked rules (site_over rules reads) f file g part waits tells asked old status new → StillOpen old new
  keep_stops asked old status new is (ran, folders) = stops_of (reads_input asked) asked old status new is ran

  module _ {changes : S → S → Type 0} {may : List ℕ → List ℕ → Type 0} (seal : Seal rules changes may)
      (ok : (octets to : List ℕ) → Reads octets → may octets to) where
    -- the seal stays whole over them
    abbrev IsWhole : Setup S C Q s t → Setup S C Q s t → Type 0
    IsWhole old new = seal.sockets old.streams.sockets ≡ true → seal.sockets new.streams.sockets ≡ true

    same_whole : (old new : Setup S C Q s t) → StillOpen old new → IsWhole old new
    same_whole old new is whole = subst (λ (x : S). seal.sockets x ≡ true) (sym is) whole

    from : (moment : Option CivilTime) (asked : Keep) (old : Setup S C Q s t) (status : ℕ) (new : Setup S C Q s t)
        → RunsFrom rules (site_over rules reads) f file g part waits moment asked old status new → GaveBack f new.files → IsWhole old new
    from None asked old status new told honest = same_whole old new told.2
    from (Some begun) asked old status new (waited, result, said, ran, ends) honest =
        tool_kept seal ok reads f file g part asked begun (hands_of waits old.streams.errors old) (hands_of waited said new) result ran honest

    by : (stop : Bool) (asked : Keep) (old : Setup S C Q s t) (status : ℕ) (new : Setup S C Q s t)
        → KeepsBy rules (site_over rules reads) f file g part waits tells stop asked old status new → GaveBack f new.files → IsWhole old new
    by true asked old status new (ran, only) honest = same_whole old new only.0
    by false asked old status new (moment, told, ran) honest = from moment asked old status new ran honest

    devices : (asked : Keep) (list : Result (List Group) ListFault) (old : Setup S C Q s t) (status : ℕ) (new : Setup S C Q s t)
        → KeepsDevices rules (site_over rules reads) f file g part waits tells asked list old status new → GaveBack f new.files → IsWhole old new
    devices asked (Ok groups) old status new ran honest = by asked.stop (with_groups asked groups) old status new ran honest
    devices asked (Err fault) old status new (told, clock) honest = same_whole old new told.2

    of : (lists : Bool) (asked : Keep) (old : Setup S C Q s t) (status : ℕ) (new : Setup S C Q s t)
        → KeepsOf rules (site_over rules reads) f file g part waits tells lists asked old status new → GaveBack f new.files → IsWhole old new
    of false asked old status new (ran, unread) honest = by asked.stop asked old status new ran honest
    of true asked old status new (list, within, ran) honest = devices asked list old status new ran honest

    -- it reads alone
    pub keep_whole : (asked : Keep) (old : Setup S C Q s t) (status : ℕ) (new : Setup S C Q s t)
        → KeepsAsked rules (site_over rules reads) f file g part waits tells asked old status new → GaveBack f new.files → IsWhole old new
    keep_whole asked old status new (ran, folders) honest = of (reads_input asked) asked old status new ran honest
