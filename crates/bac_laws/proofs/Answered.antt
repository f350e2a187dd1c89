-- What an answer makes of a device's poll: the records that it brings, and those that its log's poll holds back.
use Rattle.std.proofs.Common.{◌≡◌, ℕ, ◌+◌, ◌==◌, ◌&&◌, nat_le, nat_lt, map, Bool, true, false, if◌then◌else◌, MatchBool}
use Rattle.std.proofs.Common.{Option, None, Some, List, [], ◌∷◌, ◌++◌, refl, sym, subst}
use Rattle.bac_wire.specs.Primitive.{Id}
use Rattle.bac_wire.specs.Stamp.{CivilTime}
use Rattle.bac_wire.specs.declared.stamp.Date4.{Date4}
use Rattle.bac_answers.specs.declared.entry.Entry.{Entry}
use Rattle.bac_answers.specs.declared.entry.Entry.TheVariants.{Added, Clock, Named, Unlisted}
use Rattle.bac_answers.specs.declared.reject.NoRoute.{NoRoute}
use Rattle.bac_answers.specs.declared.who.Who.{Who}
use Rattle.bac_answers.specs.declared.who.Who.TheVariants as who
use Rattle.bac_device_poll.specs.Clock.{after_date, clocks}
use Rattle.bac_device_poll.specs.Identity.{after_i_am, after_instance, after_name, device_of, met, met_as, whose}
use Rattle.bac_device_poll.specs.Listing.{after_count, after_element, after_objects, list_fault, listed, lists, may_differ, new_among, new_log, others_in, told_others, unlisted}
use Rattle.bac_device_poll.specs.Logs.{begins, begins_with, halved, has_ended, is_too_many, left_behind, log_after}
use Rattle.bac_device_poll.specs.Logs.{log_at, logged, read_as, wanted_at, with_log, with_records}
use Rattle.bac_device_poll.specs.Loss.{after_loss, is_last, loss_at, passed_over, unread}
use Rattle.bac_device_poll.specs.Naming.{after_description, is_changed, names, names_next, names_with, told_read, unnamed}
use Rattle.bac_device_poll.specs.Poll.{Answers, Takes, after_revision, answered, asked_of_device, verdict_to}
use Rattle.bac_device_poll.specs.Refusals.{is_busy, is_too_long}
use Rattle.bac_device_poll.specs.Rejects.{after_reject, lost_log}
use Rattle.bac_device_poll.specs.State.{BeginAs, Behind, DeviceState, LogAs, Starting, begun}
use Rattle.bac_device_poll.specs.Turns.{Turned, asks, leaves}
use Rattle.bac_device_poll.specs.Values.{number_of, told_by, value_by}
use Rattle.bac_device_poll.specs.Word.{moment_of, restart_of}
use Rattle.bac_answers.specs.declared.who.Whose.{Whose}
use Rattle.bac_answers.specs.declared.who.Whose.TheVariants as whoseof
use Rattle.bac_device_poll.specs.declared.logs.Wanted.{Wanted}
use Rattle.bac_device_poll.specs.declared.logs.Wanted.TheVariants.{Records, Count, Revision, Restart}
use Rattle.bac_device_poll.specs.declared.stage.Stage.{Stage}
use Rattle.bac_device_poll.specs.declared.stage.Stage.TheVariants as stage
use Rattle.bac_device_poll.specs.declared.task.Polled.{Polled}
use Rattle.bac_device_poll.specs.declared.turn.DeviceEnd.TheVariants.{Silent}
use Rattle.bac_link.specs.Datagrams.{apdu_in}
use Rattle.bac_link.specs.declared.exchanges.Verdict.{Verdict}
use Rattle.bac_link.specs.declared.exchanges.Verdict.TheVariants.{Ack, BadReply, Refused}
use Rattle.bac_poll.specs.Poll.{reply_in}
use Rattle.bac_poll.specs.State.{PollState, ToldAs}
use Rattle.bac_poll.specs.Turns.{Turned as LogTurned, ends}
use Rattle.bac_poll_steps.specs.declared.turn.PollEnd.TheVariants.{Fault}
use Rattle.bac_walk.specs.declared.batch.Numbered.{Numbered}
use Rattle.bac_walk.specs.declared.outcome.WalkFault.{WalkFault}
use Rattle.bac_walk.specs.declared.outcome.WalkFault.TheVariants as walk
use Rattle.bac_laws.proofs.HeldBack.{Fits, after_fits, count_fits, restart_fits, revision_fits}
use Rattle.bac_laws.proofs.Shown.{Each, Shows}

pub matched : {A B C : Type 0} (b : Bool) → MatchBool b A B → (A → C) → (B → C) → C
matched true m f g = f m
matched false m f g = g m

module _ (P : Id → Numbered → Type 0) where
  -- what the poll of a log holds back is such, if one is polled
  abbrev pub HoldsAt : Option Polled → Type 0
  HoldsAt None = Unit {0}
  HoldsAt (Some q) = Each (P q.log) q.poll.held × (q.poll.walk.log ≡ q.log)

  -- and so is what its turn brings
  abbrev pub BringsAt : Option LogTurned → Option Polled → Type 0
  BringsAt None polled = Unit {0}
  BringsAt (Some t) None = Unit {0}
  BringsAt (Some t) (Some q) = Each (P q.log) t.records

  -- so it is of a turn of a device
  abbrev pub TurnFits : Turned → Type 0
  TurnFits t = BringsAt t.log t.device.polled × HoldsAt t.device.polled

  abbrev pub Holds : DeviceState → Type 0
  Holds p = HoldsAt p.polled

  either : (b : Bool) (x y : Turned) → TurnFits x → TurnFits y → TurnFits (if b then x else y)
  either true x y f g = f
  either false x y f g = g

  -- ---- one log behind the other

  begun_none : (log device : Id) (many : ℕ) (told : ToldAs) (begin : BeginAs)
      → Each (P log) (begun log device many told begin).held × ((begun log device many told begin).walk.log ≡ log)
  begun_none log device many told (Behind at) = (tt, refl)
  begun_none log device many told (Starting begins word) = (tt, refl)

  pub begins_fits : (p : DeviceState) (entries : List Entry) → TurnFits (begins p entries)
  begins_fits p entries = by p.logs
    where
      by : (logs : List LogAs) → TurnFits (begins_with p logs entries)
      by [] = (tt, tt)
      by (task ∷ logs) = (tt, begun_none task.log (device_of p.who) p.many p.told task.begin)

  next_fits : (p : DeviceState) (entries : List Entry) → Holds p → TurnFits (names_next p entries)
  next_fits p entries held = by p.unnamed
    where
      by : (logs : List Id) → TurnFits (names_with p logs entries)
      by [] = begins_fits p (entries ++ told_read p)
      by (log ∷ logs) = (tt, held)

  names_fits : (p : DeviceState) (entries : List Entry) → Holds p → TurnFits (names p entries)
  names_fits p entries held =
      let q : DeviceState = record p { unnamed = map (λ (t : LogAs). t.log) p.logs } in
      either (is_changed p.revision p.told.revision) (names_next q entries) (names_next p entries) (next_fits q entries held) (next_fits p entries held)

  lists_fits : (p : DeviceState) (entries : List Entry) → Holds p → TurnFits (lists p entries)
  lists_fits p entries held =
      let q : DeviceState = record p { stage = stage.Objects } in
      either (p.whole && may_differ p.revision p.told.revision) (asks q entries) (names p entries) (tt, held) (names_fits p entries held)

  clocks_fits : (p : DeviceState) → Holds p → TurnFits (clocks p)
  clocks_fits p held =
      let q : DeviceState = record p { stage = stage.Date } in
      either p.clock (asks q []) (lists p []) (tt, held) (lists_fits p [] held)

  listed_fits : (p : DeviceState) (objects : List Id) → Holds p → TurnFits (listed p objects)
  listed_fits p objects held =
      let q : DeviceState = record p {
        read = true;
        objects = [];
        unnamed = new_among p.logs p.stopped objects;
        logs = p.logs ++ map new_log (new_among p.logs p.stopped objects);
      } in
      names_fits q (map Added (new_among p.logs p.stopped objects) ++ told_others p.others (others_in objects)) held

  unlisted_fits : (p : DeviceState) (why : WalkFault) → Holds p → TurnFits (unlisted p why)
  unlisted_fits p why held = let q : DeviceState = record p { objects = [] } in names_fits q (Unlisted why ∷ []) held

  -- ---- who it is

  met_fits : (p : DeviceState) (one : Who) → Holds p → TurnFits (met p one)
  met_fits p one held = by (whose p.who one)
    where
      by : (which : Whose) → TurnFits (met_as p one which)
      by whoseof.New = (tt, held)
      by whoseof.Same = (tt, held)
      by whoseof.Now = (tt, held)
      by whoseof.Another = (tt, held)
      by whoseof.Untold = (tt, held)

  pub i_am_fits : (p : DeviceState) (device : Option Id) → Holds p → TurnFits (after_i_am p device)
  i_am_fits p None held = (tt, held)
  i_am_fits p (Some device) held = met_fits p (who.Device device) held

  -- ---- the log that is polled

  log_fits : (p : DeviceState) (q : Polled) (t : LogTurned) → Fits (P q.log) q.log t → TurnFits (with_log p q t)
  log_fits p q t fits = by (has_ended t.end (left_behind q.left t.records))
    where
      by : (ended : Bool) → TurnFits (logged ended p q t)
      by ended = fits

  records_fit : (q : PollState) (v : Verdict) (datagram : List ℕ) (L : Id) → Each (P L) q.held × (q.walk.log ≡ L) → Shows (P L) (reply_in q datagram) → Fits (P L) L (with_records q v datagram)
  records_fit q Ack datagram L held shows = after_fits (P L) L q datagram held shows
  records_fit q (Refused refusal) datagram L held shows = (tt, held)
  records_fit q BadReply datagram L held shows = (tt, held)

  read_fits : (q : PollState) (wanted : Wanted) (v : Verdict) (datagram : List ℕ) (L : Id) → Each (P L) q.held × (q.walk.log ≡ L) → Shows (P L) (reply_in q datagram)
      → Fits (P L) L (read_as q wanted v datagram)
  read_fits q Records v datagram L held shows = records_fit q v datagram L held shows
  read_fits q Count v datagram L held shows = count_fits (P L) L q (number_of (value_by v datagram)) held
  read_fits q Revision v datagram L held shows = revision_fits (P L) L q (number_of (value_by v datagram)) held
  read_fits q Restart v datagram L held shows = restart_fits (P L) L q (restart_of (told_by v datagram)) (moment_of (told_by v datagram)) held

  log_after_fits : (q : PollState) (v : Verdict) (datagram : List ℕ) (L : Id) → Each (P L) q.held × (q.walk.log ≡ L) → Shows (P L) (reply_in q datagram) → Fits (P L) L (log_after q v datagram)
  log_after_fits q v datagram L held shows = by (is_busy v)
    where
      by : (b : Bool) → Fits (P L) L (if b then with_records q v datagram else read_as q (wanted_at q.stage) v datagram)
      by true = records_fit q v datagram L held shows
      by false = read_fits q (wanted_at q.stage) v datagram L held shows

  -- whatever poll heard it shows such records
  abbrev pub ShowsAll : List ℕ → Type 0
  ShowsAll datagram = (q : PollState) (L : Id) → q.walk.log ≡ L → Shows (P L) (reply_in q datagram)

  log_at_fits : (p : DeviceState) (polled : Option Polled) (v : Verdict) (datagram : List ℕ) → Holds p → HoldsAt polled
      → ShowsAll datagram → TurnFits (log_at p polled v datagram)
  log_at_fits p None v datagram held back shows = (tt, held)
  log_at_fits p (Some q) v datagram held back shows =
      either (is_too_many q.poll v) (halved p q) (with_log p q (log_after q.poll v datagram)) (tt, back)
      (log_fits p q (log_after q.poll v datagram) (log_after_fits q.poll v datagram q.log back (shows q.poll q.log back.1)))

  -- ---- any answer

  revised_fits : (p : DeviceState) (revision : Option ℕ) → Holds p → TurnFits (after_revision p revision)
  revised_fits p revision held = let q : DeviceState = record p { told = record p.told { revision = revision } } in clocks_fits q held

  described_fits : (p : DeviceState) (log : Id) (text : Option (List ℕ)) → Holds p → TurnFits (after_description p log text)
  described_fits p log text held =
      let q : DeviceState = record p { naming = unnamed } in
      next_fits q (Named log (record p.naming { description = text }) ∷ []) held

  is_so : (t u : Turned) → t ≡ u → TurnFits u → TurnFits t
  is_so t u is fits = subst TurnFits (sym is) fits

  objects_fit : (p : DeviceState) (v : Verdict) (objects : Option (List Id)) → Holds p → TurnFits (after_objects p v objects)
  objects_fit p v None held = either (is_too_long v) (asks (record p { stage = stage.Count }) []) (unlisted p (list_fault v)) (tt, held) (unlisted_fits p (list_fault v) held)
  objects_fit p v (Some objects) held = listed_fits p objects held

  count_of_fits : (p : DeviceState) (v : Verdict) (count : Option ℕ) → Holds p → TurnFits (after_count p v count)
  count_of_fits p v None held = unlisted_fits p (list_fault v) held
  count_of_fits p v (Some count) held = either (count == 0) (listed p []) (asks (record p { stage = stage.Element 1 count; objects = [] }) []) (listed_fits p [] held) (tt, held)

  element_fits : (p : DeviceState) (index count : ℕ) (v : Verdict) (object : Option Id) → Holds p → TurnFits (after_element p index count v object)
  element_fits p index count v None held = unlisted_fits p (list_fault v) held
  element_fits p index count v (Some object) held =
      either (nat_le count index) (listed p (p.objects ++ object ∷ []))
      (asks (record p { stage = stage.Element (index + 1) count; objects = p.objects ++ object ∷ [] }) [])
      (listed_fits p (p.objects ++ object ∷ []) held) (tt, held)

  instance_fits : (p : DeviceState) (device : Option Id) → Holds p → TurnFits (after_instance p device)
  instance_fits p None held = (tt, held)
  instance_fits p (Some device) held = met_fits p (who.Device device) held

  name_fits : (p : DeviceState) (name : Option (List ℕ)) → Holds p → TurnFits (after_name p name)
  name_fits p None held = met_fits p who.Address held
  name_fits p (Some name) held = met_fits p (who.Name name) held

  dates : (p : DeviceState) (date : Option Date4) → Holds p → TurnFits (after_date p date)
  dates p None held = lists_fits p (Clock None ∷ []) held
  dates p (Some date) held = (tt, held)

  answers_fit : (p : DeviceState) (s : Stage) (v : Verdict) (datagram : List ℕ) (now : CivilTime) (t : Turned) → Holds p
      → ShowsAll datagram → Answers p s v datagram now t → TurnFits t
  answers_fit p stage.Instance v datagram now t held shows is = is_so t _ is (instance_fits p _ held)
  answers_fit p stage.IAm v datagram now t held shows is = is_so t _ is (tt, held)
  answers_fit p stage.Name v datagram now t held shows (name, text, is) = is_so t _ is (name_fits p name held)
  answers_fit p stage.Restart v datagram now t held shows is = is_so t _ is (tt, held)
  answers_fit p stage.Revision v datagram now t held shows is = is_so t _ is (revised_fits p _ held)
  answers_fit p stage.Date v datagram now t held shows is = is_so t _ is (dates p _ held)
  answers_fit p (stage.Time date) v datagram now t held shows (offset, told, is) = is_so t _ is (lists_fits p (Clock offset ∷ []) held)
  answers_fit p stage.Objects v datagram now t held shows is = is_so t _ is (objects_fit p v _ held)
  answers_fit p stage.Count v datagram now t held shows is = is_so t _ is (count_of_fits p v (number_of (value_by v datagram)) held)
  answers_fit p (stage.Element index count) v datagram now t held shows is = is_so t _ is (element_fits p index count v _ held)
  answers_fit p (stage.LogName log) v datagram now t held shows (name, text, is) = is_so t _ is (tt, held)
  answers_fit p (stage.Source log) v datagram now t held shows is = is_so t _ is (tt, held)
  answers_fit p (stage.Units log) v datagram now t held shows is = is_so t _ is (tt, held)
  answers_fit p (stage.Description log) v datagram now t held shows (text, said, is) = is_so t _ is (described_fits p log text held)
  answers_fit p stage.Log v datagram now t held shows is = is_so t _ is (log_at_fits p p.polled v datagram held held shows)
  answers_fit p stage.Between v datagram now t held shows is = is_so t _ is (tt, held)
  answers_fit p stage.Ended v datagram now t held shows is = is_so t _ is (tt, held)

  pub takes_fit : (p : DeviceState) (datagram : List ℕ) (now : CivilTime) (t : Turned) → Holds p → ShowsAll datagram
      → Takes p datagram now t → TurnFits t
  takes_fit p datagram now t held shows takes =
      let v : Verdict = verdict_to (asked_of_device p) (apdu_in datagram) in
      matched (is_busy v && nat_lt p.busy p.retries) takes (λ is. is_so t _ is (tt, held))
      (λ is. answers_fit (answered p) p.stage v datagram now t held shows is)

  -- ---- no answer

  passed_fits : (p : DeviceState) (s : Stage) → Holds p → TurnFits (passed_over s p)
  passed_fits p stage.Restart held = (tt, held)
  passed_fits p stage.Revision held = revised_fits p None held
  passed_fits p stage.Date held = lists_fits p (Clock None ∷ []) held
  passed_fits p (stage.Time date) held = lists_fits p (Clock None ∷ []) held
  passed_fits p stage.Objects held = (tt, held)
  passed_fits p stage.Count held = unlisted_fits p walk.Lost held
  passed_fits p (stage.Element index count) held = unlisted_fits p walk.Lost held
  passed_fits p (stage.LogName log) held = (tt, held)
  passed_fits p (stage.Source log) held = described_fits (unread p) log None held
  passed_fits p (stage.Units log) held = (tt, held)
  passed_fits p (stage.Description log) held = described_fits (unread p) log None held
  passed_fits p stage.Instance held = (tt, held)
  passed_fits p stage.IAm held = (tt, held)
  passed_fits p stage.Name held = (tt, held)
  passed_fits p stage.Log held = (tt, held)
  passed_fits p stage.Between held = (tt, held)
  passed_fits p stage.Ended held = (tt, held)

  pub loss_fits : (p : DeviceState) → Holds p → TurnFits (after_loss p)
  loss_fits p held = by p.polled held
    where
      by : (polled : Option Polled) → HoldsAt polled → TurnFits (loss_at p polled)
      by None back = either (is_last p) (leaves p [] Silent) (passed_over p.stage (record p { doubt = true })) (tt, held) (passed_fits (record p { doubt = true }) p.stage held)
      by (Some q) back =
          either p.doubt (record (leaves (record p { polled = Some q }) [] Silent) { log = Some (ends q.poll (Fault walk.Lost)) })
          (with_log (record p { doubt = true }) q (ends q.poll (Fault walk.Lost))) (tt, back) (log_fits (record p { doubt = true }) q (ends q.poll (Fault walk.Lost)) (tt, back))

  -- a router has no route to its network
  pub reject_fits : (p : DeviceState) (reject : NoRoute) → Holds p → TurnFits (after_reject p reject)
  reject_fits p reject held = by p.polled held
    where
      by : (polled : Option Polled) → HoldsAt polled → BringsAt (lost_log polled) polled × HoldsAt polled
      by None back = (tt, back)
      by (Some q) back = (tt, back)
