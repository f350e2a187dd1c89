-- What the status 0 of `keep` says.
use Rattle.std.proofs.Common.{◌≡◌, ℕ, Bool, true, false, List, Option, None, Some, IfOk, IfSome, IsSome, Result, Ok, Err, String, Global, ap, arith, map, inl, inr, refl, sym, subst}
use Rattle.std.specs.Io.KnownBytes.{Keeps}
use Rattle.sqlite_disk.specs.declared.Disk as disk
use Rattle.sqlite_disk.specs.declared.start.Start as start
use Rattle.sqlite_wal.specs.Recovery.{Image}
use Rattle.sqlite.specs.Effect.{Database}
use Rattle.bac_batch.specs.Laws.{EndsWhole, StepsHappen}
use Rattle.sqlite.specs.declared.error.Error.{Error}
use Rattle.bac_device_poller.specs.Status.{code}
use Rattle.bac_device_poller.specs.declared.status.Status.{Status}
use Rattle.bac_device_poller.specs.declared.status.Status.TheVariants as status
use Rattle.bac_files.specs.Files.{FileOf, IsDoneTo}
use Rattle.bac_files.specs.Parts.{IsPlaced}
use Rattle.bac_files.specs.declared.disk_files.DiskFiles.{DiskFiles}
use Rattle.bac_drive.specs.declared.driving.Fault.TheVariants as poll
use Rattle.bac_files.specs.declared.folder.Place.{Place}
use Rattle.bac_files.specs.declared.not_opened.NotOpened.{NotOpened}
use Rattle.bac_historian.specs.Kept.{KeepsFrom}
use Rattle.bac_historian.specs.declared.fault.Fault.{Fault as RunFault}
use Rattle.bac_historian.specs.declared.fault.Fault.TheVariants as run
use Rattle.bac_keep_command_line.specs.Devices.{named_as}
use Rattle.bac_keep_command_line.specs.Orders.{order_as, order_in, stop_in}
use Rattle.bac_keep_command_line.specs.declared.orders.Order.{Order}
use Rattle.bac_keeper.specs.Ends.{EndsHalted, EndsRun}
use Rattle.bac_keeper.specs.Halts.{run_halt}
use Rattle.bac_keeper.specs.Machine.{hands}
use Rattle.bac_keeper.specs.Runs.{RunsPlaced, RunsTool, path_told}
use Rattle.bac_keeper.specs.Stops.{EndsStop, StopsTool, Texts, stop_came, stop_done}
use Rattle.bac_keeper.specs.declared.fault.Fault.{Fault as KeepFault}
use Rattle.bac_keeping.specs.Keeping.{Around, around}
use Rattle.bac_keeping.specs.RecordLaws.{KeepNames}
use Rattle.bac_keeping.specs.Stopping.{IsStopped}
use Rattle.bac_keeping.specs.declared.run.KeepFault.TheVariants as keep
use Rattle.bac_keeping.specs.declared.run.Run.{Run}
use Rattle.bac_keeping.specs.declared.stopping.StopHalt.{StopHalt}
use Rattle.bac_keeping.specs.declared.stopping.StopHalt.TheVariants as stop
use Rattle.bac_keeping.specs.declared.stopping.Stopped.{Stopped}
use Rattle.bac_plan.specs.declared.fault.NamingFault.TheVariants as naming
use Rattle.bac_plan.specs.declared.fault.PlanFault.TheVariants as plan
use Rattle.bac_plan.specs.declared.fault.StopFault.TheVariants as missing
use Rattle.bac_plan.specs.declared.named.Named.{Named}
use Rattle.bac_parts.proofs.FileLemmas.{done_so, ok_is_no_err}
use Rattle.bac_parts.specs.declared.fault.FileFault.TheVariants.{Unopened}
use Rattle.bac_parts.specs.declared.works.Done.{Done}
use Rattle.bac_ports.specs.Port.{Receiving, Sending}
use Rattle.bac_ports.specs.Sockets.{SocketRules}
use Rattle.bac_print.specs.Output.{Held}
use Rattle.bac_reading.proofs.ZeroLemmas.{file_told}
use Rattle.bac_run.specs.Keeping.{Keeps as KeepsWords, KeepsBy, KeepsOf}
use Rattle.bac_run.specs.Setup.{Setup, hands_of}
use Rattle.bac_run_tests.proofs.Heard.{heard_all, site_unasked}
use Rattle.bac_run_tests.proofs.Untold.{keep_zero, list_some, untold}
use Rattle.bac_run_tests.specs.Done.{HasDevices, IsAllKept, IsKept, IsKeptNow}
use Rattle.bac_run_tests.specs.Stopped.{IsAllStopped}
use Rattle.bac_site_poller.specs.Site.{GivesSite, SiteHears}
use Rattle.bac_site_poller.specs.SiteLaws.{BatchesEnd, SiteReads, site_acts}
use Rattle.bac_site_poller.specs.Status.{EndsAreCounted, StatusNeverFalls}
use Rattle.bac_tools.specs.declared.fault.Fault.TheVariants.{Clock, List as ListOf}
use Rattle.bac_wire.specs.Stamp.{CivilTime}
use Rattle.bac_command_line.specs.Jobs.{with_groups}
use Rattle.bac_command_line.specs.declared.job.Keep.{Keep}

-- a run that a fault halts has another status
halted_some : (why : RunFault) (path : List ℕ) (old new : Held) → EndsHalted (run_halt why) path old new (Ok 0) → ⊥
halted_some (run.File why) path old new halts = file_told why (sym halts.0)
halted_some (run.Run (keep.Refused why)) path old new halts = omega (arith, halts.0)
halted_some (run.Run (keep.Untold e)) path old new halts = omega (arith, halts.0)
halted_some (run.Run (keep.Naming naming.Memory)) path old new halts = ok_is_no_err 0 _ halts.0
halted_some (run.Run (keep.Naming naming.DevicesFull)) path old new halts = omega (arith, halts.0)
halted_some (run.Run (keep.Naming naming.LogsFull)) path old new halts = omega (arith, halts.0)
halted_some (run.Run (keep.Unput e)) path old new halts = omega (arith, halts.0)
halted_some (run.Run (keep.Plan plan.Memory)) path old new halts = ok_is_no_err 0 _ halts.0
halted_some (run.Run (keep.Plan (plan.Device id))) path old new halts = omega (arith, halts.0)
halted_some (run.Run (keep.Plan (plan.Log id))) path old new halts = omega (arith, halts.0)
halted_some (run.Run (keep.Poll poll.Memory)) path old new halts = ok_is_no_err 0 _ halts.0
halted_some (run.Run (keep.Poll (poll.Archive e))) path old new halts = omega (arith, halts.0)
halted_some (run.Run (keep.Poll poll.Output)) path old new halts = ok_is_no_err 0 _ halts.0
halted_some (run.Run (keep.Poll poll.Errors)) path old new halts = ok_is_no_err 0 _ halts.0
halted_some (run.Run (keep.Poll poll.Unending)) path old new halts = omega (arith, halts.0)

done_code : (st : Status) → code st ≡ 0 → st ≡ status.Done
done_code status.Done zero = refl
done_code status.NoReply zero = absurd (omega (arith, zero))
done_code status.Refused zero = absurd (omega (arith, zero))
done_code status.BadReply zero = absurd (omega (arith, zero))
done_code status.File zero = absurd (omega (arith, zero))
done_code status.StepLimit zero = absurd (omega (arith, zero))

-- a run that ended with 0 kept all
run_zero : (came : Result Status RunFault) (path : List ℕ) (told new : Held) → EndsRun came path told new (Ok 0) → (came ≡ Ok status.Done) × (new ≡ told)
run_zero (Ok st) path told new ends = (ap Ok (done_code st (let e : ◌≡◌ {A = Result ℕ KeepFault} (Ok 0) (Ok (code st)) = ends.0 in cc)), ends.1)
run_zero (Err why) path told new ends = absurd (halted_some why path told new ends)

module _ {P W : Type 0} (sends : P → List ℕ → List ℕ → Sending → P → Type 0) (receives : P → ℕ → Receiving → P → Type 0) (reads : W → ℕ → W → Type 0) (happen : StepsHappen (site_acts sends receives reads))
    (whole : EndsWhole GivesSite SiteHears SiteReads) (batches : BatchesEnd) (rises : StatusNeverFalls) (counted : EndsAreCounted) (names : KeepNames) where
  kept_so : {G : Type 0} {t : start.Ghosts G} (g : disk.Ghosts (FileOf t)) (part : Image) (run : Run) (before : Option (String Global)) (parts : DiskFiles G t) (by left : Around P W) (found kept : Database)
      → KeepsFrom g part (site_acts sends receives reads) run before parts by left found kept status.Done → IsKept (site_acts sends receives reads) g part run before parts by left found kept
  kept_so g part run before parts by left found kept (ready, is_ready, (begun, site, last, set, runs, zero)) = record {
    ready = ready;
    is_ready = is_ready;
    begun = begun;
    site = site;
    set = set;
    named = λ rise n there. (names run ready begun site rise set n there).0;
    last = last;
    runs = runs;
    heard = heard_all sends receives reads happen whole batches rises counted site begun kept by left last (site_unasked run.options set.told site set.site_is) runs zero;
  }

  module _ {S C Q F G : Type 0} {s : start.Ghosts F} {t : start.Ghosts G} (rules : SocketRules S P) (f : disk.Ghosts (FileOf s)) (file : Image) (g : disk.Ghosts (FileOf t)) (part : Image) (waits : W) (asked : Keep) (moment : CivilTime)
      (old new : Setup S C Q s t) (waited : W) (said : Held) (quiet : Keeps said new.streams.errors) where
    placed_zero : (order : Order) → order_in asked moment ≡ Ok (order_as order) → (place : Place) → IsPlaced asked.file place → (files : DiskFiles F s)
        → RunsPlaced rules (site_acts sends receives reads) f file g part order place (hands (around old.streams.sockets waits old.streams.output old.streams.errors) files old.parts) (hands_of waited said new) (Ok 0)
        → IsAllKept rules (site_acts sends receives reads) f file g part waits asked moment old new
    placed_zero order by_words place placed files (inl (why, none, is)) = absurd (ok_is_no_err 0 _ is)
    placed_zero order by_words place placed files (inr (blames, came, told, (port, between, last, opens, over, closes), ends)) =
        let zero = run_zero came (path_told blames place) told said ends in
        let kept = subst (λ (r : Result Status RunFault). IfOk r (λ st. IsSome new.files.closed × IfSome new.files.closed
        (IsDoneTo f file (λ found kept. KeepsFrom g part (site_acts sends receives reads) order.run place.before new.parts (around port waits old.streams.output old.streams.errors)
        (around last waited new.streams.output told) found kept st)))) zero.0 over.kept in
        record {
          order = order;
          by_words = by_words;
          place = place;
          placed = placed;
          is_closed = kept.0;
          waited = waited;
          said = said;
          quiet = quiet;
          over = (
            port,
            between,
            last,
            opens,
            done_so f file _ _ (λ found left it. kept_so g part order.run place.before new.parts _ _ found left
                (subst (λ (h : Held). KeepsFrom g part (site_acts sends receives reads) order.run place.before new.parts (around port waits old.streams.output old.streams.errors)
                (around last waited new.streams.output h) found left status.Done) (sym zero.1) it)) new.files.closed kept.1,
            closes,
          );
        }

    tool_zero : RunsTool rules (site_acts sends receives reads) f file g part asked moment (hands_of waits old.streams.errors old) (hands_of waited said new) (Ok 0)
        → IsAllKept rules (site_acts sends receives reads) f file g part waits asked moment old new
    tool_zero (inl ((why, wrong, is), same)) = absurd (ok_is_no_err 0 _ is)
    tool_zero (inr (order, by_words, inl ((untouched, (why, unopened, halts)), room, parts))) = absurd (file_told why (sym halts.0))
    tool_zero (inr (order, by_words, inr (place, placed, files, untouched, runs))) = placed_zero order by_words place placed files runs

  module _ {S C Q F G : Type 0} {s : start.Ghosts F} {t : start.Ghosts G} (rules : SocketRules S P) (f : disk.Ghosts (FileOf s)) (file : Image) (g : disk.Ghosts (FileOf t)) (part : Image) (waits : W)
      (tells : C → Option CivilTime → C → Type 0) (old new : Setup S C Q s t) (n : ℕ) (zero : n ≡ 0) where
    by_zero : (asked : Keep) → KeepsBy rules (site_acts sends receives reads) f file g part waits tells false asked old n new → IsKeptNow rules (site_acts sends receives reads) f file g part waits tells asked old new
    by_zero asked (None, told, alone) = absurd (untold Clock old.streams.errors new.streams.errors n (λ e. omega (arith, e)) alone.0 zero)
    by_zero asked (Some begun, told, (waited, result, said, runs, ends)) =
        let well = keep_zero result said new.streams.errors n ends zero in (
          begun,
          told,
          tool_zero rules f file g part waits asked begun old new waited said well.1
              (subst (λ (r : Result ℕ KeepFault). RunsTool rules (site_acts sends receives reads) f file g part asked begun (hands_of waits old.streams.errors old) (hands_of waited said new) r) well.0 runs),
        )

    words_zero : (asked : Keep) → asked.stop ≡ false → KeepsWords rules (site_acts sends receives reads) f file g part waits tells asked old n new → IsKeptNow rules (site_acts sends receives reads) f file g part waits tells asked old new
    words_zero asked still keeps =
        by_zero asked (subst (λ (b : Bool). KeepsBy rules (site_acts sends receives reads) f file g part waits tells b asked old n new) still keeps)

    -- of the devices that the words mean
    pub of_zero : (lists : Bool) (asked : Keep) → asked.stop ≡ false → KeepsOf rules (site_acts sends receives reads) f file g part waits tells lists asked old n new
        → (which : Keep) × HasDevices lists asked old.streams.input new.streams.input which × IsKeptNow rules (site_acts sends receives reads) f file g part waits tells which old new
    of_zero false asked still keeps = (asked, (refl, keeps.1), words_zero asked still keeps.0)
    of_zero true asked still (Ok groups, list, keeps) = (with_groups asked groups, (groups, list, refl), words_zero (with_groups asked groups) still keeps)
    of_zero true asked still (Err fault, list, alone) = absurd (untold (ListOf fault) old.streams.errors new.streams.errors n (list_some fault) alone.0.0 zero)

module _ {F : Type 0} {s : start.Ghosts F} (f : disk.Ghosts (FileOf s)) (file : Image) (asked : Keep) (named : List Named) (by_words : stop_in asked ≡ Ok (map named_as named)) (left : DiskFiles F s) (path : List ℕ) (old new : Texts) where
  -- it is in the closed files
  abbrev IsDone : Stopped → Type 0
  IsDone stopped = IsSome left.closed × IfSome left.closed (IsDoneTo f file (IsStopped named stopped))

  came_zero : (came : Result Stopped StopHalt) (shut : Result (Unit {0}) Error) → IfOk (stop_came came shut) IsDone → EndsStop (stop_came came shut) path old new (Ok 0)
      → IsAllStopped f file asked left old.output new.output × (new.errors ≡ old.errors)
  came_zero (Ok stopped) (Ok none) kept ends =
      (record { named = named; by_words = by_words; stopped = stopped; is_closed = kept.0; does = kept.1; lines = ends.0.1 }, ends.1)
  came_zero (Ok stopped) (Err e) kept ends = absurd (omega (arith, ends.0.0))
  came_zero (Err stop.Nothing) shut kept ends = absurd (omega (arith, ends.0.0))
  came_zero (Err (stop.Refused why)) shut kept ends = absurd (omega (arith, ends.0.0))
  came_zero (Err (stop.Untold e)) shut kept ends = absurd (omega (arith, ends.0.0))
  came_zero (Err (stop.Missing missing.Memory)) shut kept ends = absurd (ok_is_no_err 0 _ ends.0.0)
  came_zero (Err (stop.Missing (missing.NoDevice device))) shut kept ends = absurd (omega (arith, ends.0.0))
  came_zero (Err (stop.Missing (missing.NoLog device instance))) shut kept ends = absurd (omega (arith, ends.0.0))
  came_zero (Err (stop.Unput e)) shut kept ends = absurd (omega (arith, ends.0.0))

  done_zero : (done : Result (Done (Result Stopped StopHalt)) NotOpened) → IfOk (stop_done done) IsDone → EndsStop (stop_done done) path old new (Ok 0)
      → IsAllStopped f file asked left old.output new.output × (new.errors ≡ old.errors)
  done_zero (Ok done) kept ends = came_zero done.came done.closed kept ends
  done_zero (Err why) kept ends = absurd (file_told (Unopened why) (sym ends.0.0))

-- what the status 0 of `keep --stop` says
pub stop_zero : {F : Type 0} {s : start.Ghosts F} (f : disk.Ghosts (FileOf s)) (file : Image) (asked : Keep) (files left : DiskFiles F s) (old new : Texts) → StopsTool f file asked files left old new (Ok 0)
    → IsAllStopped f file asked left old.output new.output × (new.errors ≡ old.errors)
stop_zero f file asked files left old new (inl ((why, wrong, is), still, same)) = absurd (ok_is_no_err 0 _ is)
stop_zero f file asked files left old new (inr (named, by_words, inl ((untouched, (why, unopened, halts)), output))) = absurd (file_told why (sym halts.0))
stop_zero f file asked files left old new (inr (named, by_words, inr (place, placed, between, untouched, stops))) =
    done_zero f file asked named by_words left _ old new stops.done stops.kept stops.ends
