-- What `keep` adds to the items of an archive.
use Rattle.std.proofs.Common.{◌≡◌, ◌∙◌, ◌⊎◌, inl, inr, ℕ, Bool, true, false, List, [], Option, None, Some, Result, Ok, Err, refl, ap, subst}
use Rattle.sqlite_disk.specs.declared.Disk as disk
use Rattle.sqlite_disk.specs.declared.start.Start as start
use Rattle.sqlite_wal.specs.Files.{image_at}
use Rattle.sqlite_wal.specs.Recovery.{Image}
use Rattle.bac_archive.specs.Put.{PutsJoin}
use Rattle.bac_batch.specs.Batch.{Batched}
use Rattle.bac_command_line.specs.Jobs.{is_traced, reads_input, with_groups}
use Rattle.bac_command_line.specs.declared.group.Group.{Group}
use Rattle.bac_command_line.specs.declared.job.Job.TheVariants as job
use Rattle.bac_command_line.specs.declared.job.Keep.{Keep}
use Rattle.bac_command_line.specs.declared.listing.ListFault.{ListFault}
use Rattle.bac_device_poller.specs.declared.status.Status.{Status}
use Rattle.bac_drive.specs.Happens.{Acts}
use Rattle.bac_files.specs.Files.{FileOf}
use Rattle.bac_files.specs.Parts.{PartRules}
use Rattle.bac_files.specs.declared.disk_files.DiskFiles.{DiskFiles}
use Rattle.bac_files.specs.declared.folder.Place.{Place}
use Rattle.bac_files.specs.declared.not_opened.NotOpened.{NotOpened}
use Rattle.bac_files.specs.declared.not_opened.NotOpened.TheVariants as unopened
use Rattle.bac_historian.specs.declared.fault.Fault.{Fault as RunFault}
use Rattle.bac_historian.specs.declared.fault.Fault.TheVariants as run
use Rattle.bac_keep_command_line.specs.declared.orders.Order.{Order}
use Rattle.bac_keeper.specs.Ends.{EndsRun, EndsTold}
use Rattle.bac_keeper.specs.Machine.{Hands, hands}
use Rattle.bac_keeper.specs.Runs.{RunsOrder, RunsPlaced, RunsTool, path_told}
use Rattle.bac_keeper.specs.declared.fault.Fault.{Fault}
use Rattle.bac_keeper.specs.declared.fault.Fault.TheVariants as keeper
use Rattle.bac_keeping.specs.Keeping.{Around}
use Rattle.bac_parts.proofs.FileLemmas.{none_closed}
use Rattle.bac_parts.specs.Faults.{fault_status}
use Rattle.bac_parts.specs.declared.fault.FileFault.{FileFault}
use Rattle.bac_parts.specs.declared.fault.FileFault.TheVariants as fault
use Rattle.bac_ports.specs.Sockets.{SocketRules}
use Rattle.bac_print.specs.Output.{Held}
use Rattle.bac_run.specs.Faults.{keep_ending}
use Rattle.bac_run.specs.Keeping.{KeepsAsked, KeepsBy, KeepsDevices, KeepsOf, RunsFrom}
use Rattle.bac_run.specs.Run.{RunsAll}
use Rattle.bac_run.specs.Setup.{Setup, hands_of, with_output, with_sockets}
use Rattle.bac_site_poller.specs.Site.{SiteState}
use Rattle.bac_site_poller.specs.SiteLaws.{site_acts}
use Rattle.bac_socket_notes.specs.Notes.{nothing}
use Rattle.bac_socket_notes.specs.Ports.{Event}
use Rattle.bac_socket_notes.specs.declared.notes.Passed.{Passed}
use Rattle.bac_tools.specs.Run.{Ends}
use Rattle.bac_wire.specs.Stamp.{CivilTime}
use Rattle.bac_laws.proofs.Captured.{captured_behind, captured_over, captured_unopened, nothing_captured}
use Rattle.bac_laws.proofs.Grown.{ran}
use Rattle.bac_laws.proofs.Statuses.{Ended as HasStatus, ended}
use Rattle.bac_laws.specs.Added.{AddsWhatCame, IsUseless}
use Rattle.bac_laws.specs.Events.{IsCaptured}
use Rattle.bac_laws.specs.Sends.{GaveBack}

-- ---- how the tool ends

-- its archive is of no use, or memory is wanting
abbrev Useless : Result ℕ Fault → Type 0
Useless result = (result ≡ Ok 6) ⊎ ((result ≡ Ok 7) ⊎ (result ≡ Err keeper.Memory))

unopened_status : (why : NotOpened) → (fault_status (fault.Unopened why) ≡ 6) ⊎ (fault_status (fault.Unopened why) ≡ 7)
unopened_status unopened.InUse = inr refl
unopened_status unopened.Absent = inl refl
unopened_status unopened.Empty = inl refl
unopened_status (unopened.Barred obstacle) = inl refl
unopened_status unopened.Memory = inl refl
unopened_status (unopened.Database error) = inl refl

status_so : (why : FileFault) → (fault_status why ≡ 6) ⊎ (fault_status why ≡ 7)
status_so (fault.Unopened why) = unopened_status why
status_so (fault.Database error) = inl refl
status_so (fault.Refused why) = inl refl

answered_so : (n answered : ℕ) → answered ≡ n → (n ≡ 6) ⊎ (n ≡ 7) → Useless (Ok answered)
answered_so n answered is (inl six) = inl (ap (λ (k : ℕ). let r : Result ℕ Fault = Ok k in r) (is ∙ six))
answered_so n answered is (inr seven) = inr (inl (ap (λ (k : ℕ). let r : Result ℕ Fault = Ok k in r) (is ∙ seven)))

told_useless : (lines : List ℕ → Type 0) (why : FileFault) (old new : Held) (result : Result ℕ Fault) → EndsTold lines (fault_status why) old new result → Useless result
told_useless lines why old new (Ok answered) (is, told) = answered_so (fault_status why) answered is (status_so why)
told_useless lines why old new (Err other) (is, same) = inr (inr (ap (λ (e : Fault). let r : Result ℕ Fault = Err e in r) is))

useless_status : (result : Result ℕ Fault) (said now : Held) (status : ℕ) → Useless result → Ends nothing (keep_ending result) said now status → IsUseless status
useless_status (Ok n) said now status (inl is) ends = inr (inl (ends.0 ∙ (let e : ◌≡◌ {A = Result ℕ Fault} (Ok n) (Ok 6) = is in let f : n ≡ 6 = cc in f)))
useless_status (Ok n) said now status (inr (inl is)) ends = inr (inr (ends.0 ∙ (let e : ◌≡◌ {A = Result ℕ Fault} (Ok n) (Ok 7) = is in let f : n ≡ 7 = cc in f)))
useless_status (Ok n) said now status (inr (inr is)) ends = absurd (let e : ◌≡◌ {A = Result ℕ Fault} (Ok n) (Err keeper.Memory) = is in cc)
useless_status (Err why) said now status (inl is) ends = absurd (let e : ◌≡◌ {A = Result ℕ Fault} (Err why) (Ok 6) = is in cc)
useless_status (Err why) said now status (inr (inl is)) ends = absurd (let e : ◌≡◌ {A = Result ℕ Fault} (Err why) (Ok 7) = is in cc)
useless_status (Err why) said now status (inr (inr is)) ends =
    five (ended nothing (keep_ending (Err why)) Rattle.bac_tools.specs.declared.fault.Fault.TheVariants.Memory said now status
    (ap keep_ending is) ends)
  where
    five : HasStatus 5 status → IsUseless status
    five (inl is) = inl is
    five (inr (more, is)) = inl is

module _ {S P W F G : Type 0} {s : start.Ghosts F} {t : start.Ghosts G} (rules : SocketRules S P) (traces : S → Bool → S → Type 0)
    (reads : W → ℕ → W → Type 0) (join : PutsJoin) (f : disk.Ghosts (FileOf s)) (g : disk.Ghosts (FileOf t)) (part : Image) where
  abbrev acts : Acts (Batched SiteState) P W
  acts = site_acts rules.sends rules.receives_within reads

  -- what happened over the sockets, and what the closed files hold; or the archive is of no use, and nothing did
  abbrev pub Added : S → S → DiskFiles F s → DiskFiles F s → DiskFiles G t → Type 0 → Type 0
  Added old new files closed parts useless = (es : List Event) × IsCaptured rules traces old new es
      × (((es ≡ []) × useless) ⊎ AddsWhatCame f files closed parts es)

  added_none : (old new : S) (files closed : DiskFiles F s) (parts : DiskFiles G t) (useless : Type 0) → IsCaptured rules traces old new []
      → closed.closed ≡ files.closed → Added old new files closed parts useless
  added_none old new files closed parts useless none same = ([], none, inr (λ unused. none_closed closed.closed _ (same ∙ unused)))

  same_added : (old new : S) (files closed : DiskFiles F s) (parts : DiskFiles G t) (useless : Type 0) → new ≡ old
      → closed.closed ≡ files.closed → Added old new files closed parts useless
  same_added old new files closed parts useless same still = added_none old new files closed parts useless (nothing_captured rules traces old new same) still

  placed : (order : Order) (place : Place) (old new : Hands S W s t) (result : Result ℕ Fault)
      → RunsPlaced rules acts f (image_at s) g part order place old new result → GaveBack f new.files
      → Added old.room.port new.room.port old.files new.files new.parts (Useless result)
  placed order place old new result (inl (why, (opens, same), is)) honest =
      added_none old.room.port new.room.port old.files new.files new.parts (Useless result)
      (captured_unopened rules traces old.room.port new.room.port order.local order.run.options.limits.wait_ms why opens)
      (ap (λ (h : Hands S W s t). h.files.closed) same)
  placed order place old new result (inr (blames, came, told, (port, between, last, opens, over, closes), ends)) honest =
      by (ran rules.sends rules.receives rules.receives_within reads join f (image_at s) g part order.run place blames old.files new.files new.parts _ _ came over.runs honest)
    where
      by : ((why : FileFault) × (came ≡ Err (run.File why)) × (last ≡ port))
          ⊎ ((es : List Event) × Rattle.bac_socket_notes.specs.Ports.Happen rules.sends rules.receives rules.receives_within es port last × AddsWhatCame f old.files new.files new.parts es)
          → Added old.room.port new.room.port old.files new.files new.parts (Useless result)
      by (inl (why, is, same)) = (
        [],
        captured_over rules traces [] old.room.port between new.room.port order.local order.run.options.limits.wait_ms port last opens same closes,
        inl (refl, told_useless _ why told new.room.errors result (subst (λ (r : Result Status RunFault). EndsRun r (path_told blames place) told new.room.errors result) is ends)),
      )
      by (inr (es, goes, holds)) = (
        es,
        captured_over rules traces es old.room.port between new.room.port order.local order.run.options.limits.wait_ms port last opens goes closes,
        inr holds,
      )

  order_added : (keep : Keep) (order : Order) (old new : Hands S W s t) (result : Result ℕ Fault)
      → RunsOrder rules acts f (image_at s) g part keep order old new result → GaveBack f new.files
      → Added old.room.port new.room.port old.files new.files new.parts (Useless result)
  order_added keep order old new result (inl (places, same, parts)) honest =
      same_added old.room.port new.room.port old.files new.files new.parts (Useless result) (ap (λ (a : Around S W). a.port) same) places.0.0
  order_added keep order old new result (inr (place, is, files, untouched, runs)) honest =
      by (placed order place (hands old.room files old.parts) new result runs honest)
    where
      alt : (es : List Event) → ((es ≡ []) × Useless result) ⊎ AddsWhatCame f files new.files new.parts es
          → ((es ≡ []) × Useless result) ⊎ AddsWhatCame f old.files new.files new.parts es
      alt es (inl none) = inl none
      alt es (inr adds) = inr (λ unused. adds (untouched.0 ∙ unused))

      by : Added old.room.port new.room.port files new.files new.parts (Useless result) → Added old.room.port new.room.port old.files new.files new.parts (Useless result)
      by (es, captured, either) = (es, captured, alt es either)

  tool_added : (keep : Keep) (begun : CivilTime) (old new : Hands S W s t) (result : Result ℕ Fault)
      → RunsTool rules acts f (image_at s) g part keep begun old new result → GaveBack f new.files
      → Added old.room.port new.room.port old.files new.files new.parts (Useless result)
  tool_added keep begun old new result (inl (refused, same)) honest =
      same_added old.room.port new.room.port old.files new.files new.parts (Useless result) (ap (λ (h : Hands S W s t). h.room.port) same)
      (ap (λ (h : Hands S W s t). h.files.closed) same)
  tool_added keep begun old new result (inr (order, is, runs)) honest = order_added keep order old new result runs honest

  -- ---- by the words

  module _ {C Q : Type 0} (waits : W) (tells : C → Option CivilTime → C → Type 0) where
    abbrev pub KeepAdds : Setup S C Q s t → ℕ → Setup S C Q s t → Type 0
    KeepAdds old status new = Added old.streams.sockets new.streams.sockets old.files new.files new.parts (IsUseless status)

    untouched : (old : Setup S C Q s t) (status : ℕ) (new : Setup S C Q s t) → new.streams.sockets ≡ old.streams.sockets → new.files ≡ old.files → KeepAdds old status new
    untouched old status new same files =
        same_added old.streams.sockets new.streams.sockets old.files new.files new.parts (IsUseless status) same (ap (λ (d : DiskFiles F s). d.closed) files)

    from : (moment : Option CivilTime) (asked : Keep) (old : Setup S C Q s t) (status : ℕ) (new : Setup S C Q s t)
        → RunsFrom rules acts f (image_at s) g part waits moment asked old status new → GaveBack f new.files → KeepAdds old status new
    from None asked old status new told honest = untouched old status new told.2 told.3.0
    from (Some begun) asked old status new (waited, result, said, tool, ends) honest =
        by (tool_added asked begun (hands_of waits old.streams.errors old) (hands_of waited said new) result tool honest)
      where
        alt : (es : List Event) → ((es ≡ []) × Useless result) ⊎ AddsWhatCame f old.files new.files new.parts es
            → ((es ≡ []) × IsUseless status) ⊎ AddsWhatCame f old.files new.files new.parts es
        alt es (inl (none, useless)) = inl (none, useless_status result said new.streams.errors status useless ends)
        alt es (inr adds) = inr adds

        by : Added old.streams.sockets new.streams.sockets old.files new.files new.parts (Useless result) → KeepAdds old status new
        by (es, captured, either) = (es, captured, alt es either)

    by_stop : (stop : Bool) (asked : Keep) (old : Setup S C Q s t) (status : ℕ) (new : Setup S C Q s t) → stop ≡ false
        → KeepsBy rules acts f (image_at s) g part waits tells stop asked old status new → GaveBack f new.files → KeepAdds old status new
    by_stop true asked old status new is told honest = absurd (let e : true ≡ false = is in cc)
    by_stop false asked old status new is (moment, told, tool) honest = from moment asked old status new tool honest

    devices : (asked : Keep) (list : Result (List Group) ListFault) (old : Setup S C Q s t) (status : ℕ) (new : Setup S C Q s t) → asked.stop ≡ false
        → KeepsDevices rules acts f (image_at s) g part waits tells asked list old status new → GaveBack f new.files → KeepAdds old status new
    devices asked (Ok groups) old status new is tool honest = by_stop asked.stop (with_groups asked groups) old status new is tool honest
    devices asked (Err fault) old status new is (told, clock) honest = untouched old status new told.2 told.3.0

    of_words : (lists : Bool) (asked : Keep) (old : Setup S C Q s t) (status : ℕ) (new : Setup S C Q s t) → asked.stop ≡ false
        → KeepsOf rules acts f (image_at s) g part waits tells lists asked old status new → GaveBack f new.files → KeepAdds old status new
    of_words false asked old status new is (tool, unread) honest = by_stop asked.stop asked old status new is tool honest
    of_words true asked old status new is (list, within, tool) honest = devices asked list old status new is tool honest

    pub keep_adds : (asked : Keep) (old : Setup S C Q s t) (status : ℕ) (new : Setup S C Q s t) → asked.stop ≡ false
        → KeepsAsked rules acts f (image_at s) g part waits tells asked old status new → GaveBack f new.files → KeepAdds old status new
    keep_adds asked old status new is (tool, folders) honest = of_words (reads_input asked) asked old status new is tool honest

    -- by the words of a run
    pub keep_asked_adds : (folders : PartRules Q) (passes : S → Passed) (asked : Keep) (old : Setup S C Q s t) (status : ℕ) (new : Setup S C Q s t) → asked.stop ≡ false
        → RunsAll rules acts f (image_at s) g part folders passes tells waits traces (job.Keep asked) old status new → GaveBack f new.files → KeepAdds old status new
    keep_asked_adds folders passes asked old status new is (inl ((told, keeps, (input, same, clock)), off)) honest = untouched old status new same off.0.0
    keep_asked_adds folders passes asked old status new is (inr (sockets, switched, tool)) honest =
        let it = keep_adds asked (with_output tool.0 (with_sockets sockets old)) status (with_output tool.1 new) is tool.3 honest in
        (it.0, captured_behind rules traces old.streams.sockets sockets new.streams.sockets (is_traced (job.Keep asked)) it.0 switched it.1, it.2)
