-- One step of the poll of a device, while a log is polled: what it keeps of that.
use Rattle.std.proofs.Common.{◌≡◌, ◌≢◌, ◌∙◌, ◌⊎◌, inl, inr, ℕ, ◌+◌, ◌&&◌, nat_lt, Bool, true, false, if◌then◌else◌}
use Rattle.std.proofs.Common.{List, [], ◌∷◌, map, Option, None, Some, refl, sym, ap, subst}
use Rattle.std.proofs.lemmas.Option.{same_Some}
use Rattle.bac_wire.specs.Primitive.{Id}
use Rattle.bac_wire.specs.Stamp.{CivilTime}
use Rattle.bac_archive.specs.declared.row.Put.{Put}
use Rattle.bac_link.specs.Datagrams.{apdu_in}
use Rattle.bac_link.specs.declared.exchanges.Verdict.{Verdict}
use Rattle.bac_walk.specs.declared.outcome.WalkFault.TheVariants as walk
use Rattle.bac_drive.specs.declared.machine.Next.{Next}
use Rattle.bac_drive.specs.declared.machine.Next.TheVariants as next
use Rattle.bac_poll.specs.Poll.{after_too_many}
use Rattle.bac_poll.specs.State.{PollState}
use Rattle.bac_poll.specs.Turns.{Turned as LogTurned, ends}
use Rattle.bac_poll_steps.specs.declared.turn.PollEnd.{PollEnd}
use Rattle.bac_poll_steps.specs.declared.turn.PollEnd.TheVariants.{Fault}
use Rattle.bac_device_poll.specs.Logs.{begins_with, halved, has_ended, is_too_many, is_used_up, left_behind, log_after}
use Rattle.bac_device_poll.specs.Logs.{logged, lost, with_log}
use Rattle.bac_device_poll.specs.Poll.{Takes, answered, asked_of_device, later, verdict_to}
use Rattle.bac_answers.specs.declared.reject.NoRoute.{NoRoute}
use Rattle.bac_device_poll.specs.Refusals.{is_busy}
use Rattle.bac_device_poll.specs.Rejects.{after_reject, reject_by}
use Rattle.bac_device_poll.specs.State.{DeviceState, LogAs as TaskAs}
use Rattle.bac_device_poll.specs.Turns.{Turned, not_asked}
use Rattle.bac_device_poll.specs.declared.stage.Stage.{Stage}
use Rattle.bac_device_poll.specs.declared.stage.Stage.TheVariants as stage
use Rattle.bac_device_poll.specs.declared.task.Polled.{Polled}
use Rattle.bac_device_poller.specs.Entries.{RowsAs, with_entries}
use Rattle.bac_device_poller.specs.declared.doing.Doing.{Doing}
use Rattle.bac_device_poller.specs.Poller.{PollerAs, Settles, rows_with}
use Rattle.bac_device_poller.specs.Puts.{PlaceAs, PutAs, put_as}
use Rattle.bac_device_poller.specs.Rows.{LogAs}
use Rattle.bac_device_poller.specs.Turns.{IsPlaced}
use Rattle.std.proofs.Common.{nat_le}
use Rattle.bac_link.specs.declared.request.Request.{Request}
use Rattle.bac_link.specs.declared.transactions.Pending.{Pending}
use Rattle.bac_poll.specs.Poll.{asked_by_poll}
use Rattle.bac_device_poll.specs.Logs.{after_log}
use Rattle.bac_device_poll.specs.Turns.{leaves}
use Rattle.bac_device_poll.specs.declared.question.Question.{Question}
use Rattle.bac_device_poll.specs.declared.question.Question.TheVariants.{Confirmed, Nothing, WhoIs}
use Rattle.bac_device_poll.specs.declared.turn.DeviceEnd.{DeviceEnd}
use Rattle.bac_device_poll.specs.declared.turn.DeviceEnd.TheVariants.{Done, Silent, Unreached}
use Rattle.bac_device_poller.specs.Entries.{raising, telling}
use Rattle.bac_device_poller.specs.Poller.{AsksNext, Comes, ComesBy as ComesAs, IsPutBy, TellsNext, heard_by, hearing}
use Rattle.bac_device_poller.specs.Poller.{is_answer, lost_of, missed, seeks}
use Rattle.bac_device_poller.specs.Poller.{without_answer}
use Rattle.bac_device_poller.specs.Status.{status_at}
use Rattle.bac_device_poller.specs.Telling.{IsToldBy, LineAs, rejected_line}
use Rattle.bac_device_poller.specs.declared.doing.Came.{Came}
use Rattle.bac_device_poller.specs.declared.doing.Doing.TheVariants as doing
use Rattle.bac_site_poller.specs.Seat.{Wants, lent}
use Rattle.bac_site_poller.specs.SiteLaws.{Answered, Missed, Own, OwnStep, Wanted}
use Rattle.bac_site_laws.specs.Own.{wanted_rows}
use Rattle.bac_site_laws.specs.Own.{IsAtLog, IsOf, IsOnRecord, IsPolled, WaitsNot, is_last, rows_in}
use Rattle.bac_site_laws.specs.Steps.{Ended, Fewer, IsAskedBy, Step, after_step}
use Rattle.bac_site_laws.proofs.StepsOf.{answer_step}
use Rattle.bac_site_laws.proofs.Beside.{answered_beside, at_log, matched, told_beside}
use Rattle.bac_site_laws.proofs.Taken.{taken}

module _ (log : Id) where
  -- ---- what one step makes of it

  -- its poll had a turn
  -- by what it is at
  abbrev pub ComesBy : Doing → PollState → Step → Type 0
  ComesBy (doing.Hears came) q step = IsOf q came.datagram step ⊎ (step ≡ Ended (Fault walk.Lost))
  ComesBy doing.Loses q step = step ≡ Ended (Fault walk.Lost)
  ComesBy doing.Asks q step = ⊥
  ComesBy (doing.Resends datagram) q step = ⊥
  ComesBy doing.Waits q step = ⊥
  ComesBy (doing.Tells end) q step = ⊥
  ComesBy (doing.Ended why) q step = ⊥

  pub record HasTurn (what : Doing) (o : Option PlaceAs) (n : Option ℕ) (q : PollState) (rows : List PutAs) (new : PollerAs) : Type 0 where
    pub step : Step
    pub asked : IsAskedBy q step
    pub comes : ComesBy what q step
    pub behind : Option PlaceAs
    pub placed : IsPlaced o (after_step q step) behind rows
    pub goes : is_last n q step ≡ false → IsAtLog log behind (left_behind n (after_step q step).records) (after_step q step).poll new
    pub over : is_last n q step ≡ true → IsPolled log new → ⊥

  -- or none
  pub record HasNoTurn (o : Option PlaceAs) (n : Option ℕ) (q : PollState) (rows : List PutAs) (new : PollerAs) : Type 0 where
    pub none : rows ≡ []
    pub stays : IsAtLog log o n q new

  abbrev pub Went : Doing → Option PlaceAs → Option ℕ → PollState → List PutAs → PollerAs → Type 0
  Went what o n q rows new = HasNoTurn o n q rows new ⊎ HasTurn what o n q rows new

  at_new : (p : PollerAs) (d : DeviceState) (n : Option ℕ) (q : PollState) (o : Option PlaceAs) (r : RowsAs) (what : Doing) → is_used_up n ≡ false →
      WaitsNot log d.logs → IsOnRecord log o r.logs →
      IsAtLog log o n q (record p { poll = at_log d (record { log = log; poll = q; left = n }); doing = what; rows = record r { puts = [] } })
  at_new p d n q o r what more waits on = record { stage = refl; polled = refl; more = more; waits = waits; record_of = on; empty = refl }

  -- one that may have no more ends with that
  more_then : (e : Option PollEnd) (n : Option ℕ) → has_ended e n ≡ false → is_used_up n ≡ false
  more_then None n goes = goes
  more_then (Some why) n goes = absurd (cc)

  -- nothing is polled any more
  at_end : (new : PollerAs) → new.poll.stage ≡ stage.Ended → IsPolled log new → ⊥
  at_end new ended (q, n, at, polled) = absurd (let e : stage.Ended ≡ stage.Log = sym ended ∙ at in cc)

  -- or another log is
  at_other : (new : PollerAs) (other : Polled) → new.poll.polled ≡ Some other → other.log ≢ log → IsPolled log new → ⊥
  at_other new other is not (q, n, at, polled) =
      let a : Polled = other in
      let b : Polled = record { log = log; poll = q; left = n } in
      let e : Some a ≡ Some b = sym is ∙ polled in
      not (ap (λ (y : Polled). y.log) (same_Some a b e))

  -- behind the end of a log's poll the next one is begun, or none is left
  next_at : (tasks : List TaskAs) (p : PollerAs) (d : DeviceState) (r : RowsAs) (puts : List Put) (mid : PollerAs) → WaitsNot log tasks →
      (let u : Turned = begins_with d tasks [] in IsPutBy u.step (rows_with [] u true r) (record p { poll = u.device; rows = r }) puts mid) →
      (rows_in (map put_as puts) ≡ rows_in r.puts) × (IsPolled log mid → ⊥)
  next_at [] p d r puts mid none (rows, is) =
      let s : RowsAs = raising r (status_at Done) in
      (ap rows_in rows ∙ (answered_beside s.answered s).rows, at_end mid (ap (λ (x : PollerAs). x.poll.stage) is))
  next_at (task ∷ tasks) p d r puts mid none (rows, is) =
      (ap rows_in rows, at_other mid _ (ap (λ (x : PollerAs). x.poll.polled) is) none.0)

  -- ---- what comes of its question

  module _ (what : Doing) (p : PollerAs) (d : DeviceState) (o : Option PlaceAs) (n : Option ℕ) (q : PollState) (more : is_used_up n ≡ false) (waits : WaitsNot log d.logs) (on : IsOnRecord log o p.rows.logs) (empty : p.rows.puts ≡ []) where
    me : Polled
    me = record { log = log; poll = q; left = n }

    here : PollerAs
    here = record p { poll = at_log d me }

    busy_went : (puts : List Put) (mid : PollerAs) → Settles (later (at_log d me)) here puts mid → Went what o n q (rows_in (map put_as puts)) mid
    unfolding me here
    busy_went puts mid (r, same, (rows, is)) =
        let X : PollerAs → Type 0 = λ x. IsAtLog log o n q x in
        let Y : RowsAs → Type 0 = λ x. IsOnRecord log o x.logs in
        inl (record {
          none = ap rows_in rows ∙ ap (λ (x : RowsAs). rows_in x.puts) same ∙ ap rows_in empty;
          stays = subst X (sym is) (at_new p (record d { busy = d.busy + 1; doubt = false }) n q o r _ more waits (subst Y (sym same) on));
        })

    fewer_placed : (x : Option PlaceAs) → IsPlaced x (after_step q Fewer) x []
    fewer_placed None = (refl, refl)
    fewer_placed (Some place) = (refl, refl, refl)

    halved_went : ComesBy what q Fewer → (puts : List Put) (mid : PollerAs) → Settles (halved (answered (at_log d me)) me) here puts mid → Went what o n q (rows_in (map put_as puts)) mid
    unfolding me here
    halved_went comes puts mid (r, same, (rows, is)) =
        let X : PollerAs → Type 0 = λ x. IsAtLog log o n (after_too_many q) x in
        let Y : RowsAs → Type 0 = λ x. IsOnRecord log o x.logs in
        let none : rows_in (map put_as puts) ≡ [] = ap rows_in rows ∙ ap (λ (x : RowsAs). rows_in x.puts) same ∙ ap rows_in empty in
        let Z : List PutAs → Type 0 = λ x. IsPlaced o (after_step q Fewer) o x in
        inr (record {
          step = Fewer;
          asked = tt;
          comes = comes;
          behind = o;
          placed = subst Z (sym none) (fewer_placed o);
          goes = λ end. subst X (sym is) (at_new p (record (answered d) { many = (after_too_many q).walk.count }) n (after_too_many q) o r _ more waits (subst Y (sym same) on));
          over = λ end. absurd (let both : false ≡ true = sym more ∙ end in cc);
        })

    -- its poll has this turn
    turn_by : (ended : Bool) (d2 : DeviceState) (step : Step) (t : LogTurned) (puts : List Put) (mid : PollerAs) → d2.logs ≡ d.logs → IsAskedBy q step → ComesBy what q step →
        t ≡ after_step q step → has_ended t.end (left_behind n t.records) ≡ ended → Settles (logged ended (at_log d2 me) me t) here puts mid → Went what o n q (rows_in (map put_as puts)) mid
    unfolding me here
    turn_by false d2 step t puts mid logs asked comes same last (r, takes, (rows, is)) =
        let left : Option ℕ = left_behind n t.records in
        let a = taken log o left p.rows r t on empty takes in
        let X : PollerAs → Type 0 = λ x. IsAtLog log a.behind left t.poll x in
        let W : List TaskAs → Type 0 = λ x. WaitsNot log x in
        let all : a.puts ≡ rows_in (map put_as puts) = sym a.rows ∙ sym (ap rows_in rows) in
        let Z : List PutAs → Type 0 = λ x. IsPlaced o (after_step q step) a.behind x in
        let V : LogTurned → Type 0 = λ x. IsPlaced o x a.behind a.puts in
        let U : LogTurned → Type 0 = λ x. IsAtLog log a.behind (left_behind n x.records) x.poll mid in
        let N : LogTurned → Type 0 = λ x. has_ended x.end (left_behind n x.records) ≡ false in
        inr (record {
          step = step;
          asked = asked;
          comes = comes;
          behind = a.behind;
          placed = subst Z all (subst V same a.placed);
          goes = λ end. subst U same (subst X (sym is) (at_new p d2 left t.poll a.behind r _ (more_then t.end left last) (subst W (sym logs) waits) a.on));
          over = λ end. absurd (let both : false ≡ true = sym (subst N same last) ∙ end in cc);
        })
    turn_by true d2 step t puts mid logs asked comes same last (r, takes, ended) =
        let a = taken log o (left_behind n t.records) p.rows r t on empty takes in
        let W : List TaskAs → Type 0 = λ x. WaitsNot log x in
        let V : LogTurned → Type 0 = λ x. IsPlaced o x a.behind a.puts in
        let N : LogTurned → Type 0 = λ x. has_ended x.end (left_behind n x.records) ≡ true in
        let b = next_at d2.logs here (logged true (at_log d2 me) me t).device r puts mid (subst W (sym logs) waits) ended in
        let all : a.puts ≡ rows_in (map put_as puts) = sym a.rows ∙ sym b.0 in
        let Z : List PutAs → Type 0 = λ x. IsPlaced o (after_step q step) a.behind x in
        inr (record {
          step = step;
          asked = asked;
          comes = comes;
          behind = a.behind;
          placed = subst Z all (subst V same a.placed);
          goes = λ end. absurd (let both : true ≡ false = sym (subst N same last) ∙ end in cc);
          over = λ end. b.1;
        })

    -- the device is silent: its log is lost, and none behind it is asked
    silent_went : ComesBy what q (Ended (Fault walk.Lost)) → (puts : List Put) (mid : PollerAs) →
        Settles (record (leaves (record (at_log d me) { polled = Some me }) [] Silent) { log = Some (ends q (Fault walk.Lost)) }) here puts mid →
        Went what o n q (rows_in (map put_as puts)) mid
    unfolding me here
    silent_went comes puts mid (r, takes, (rows, is)) =
        let a = taken log o n p.rows r (ends q (Fault walk.Lost)) on empty takes in
        let told = told_beside d.logs r in
        let s : RowsAs = raising (with_entries r (map not_asked d.logs)) (status_at Silent) in
        let beside = answered_beside s.answered s in
        let all : a.puts ≡ rows_in (map put_as puts) = sym a.rows ∙ sym told.rows ∙ sym beside.rows ∙ sym (ap rows_in rows) in
        let Z : List PutAs → Type 0 = λ x. IsPlaced o (ends q (Fault walk.Lost)) a.behind x in
        inr (record {
          step = Ended (Fault walk.Lost);
          asked = tt;
          comes = comes;
          behind = a.behind;
          placed = subst Z all a.placed;
          goes = λ end. absurd (cc);
          over = λ end. at_end mid (ap (λ (x : PollerAs). x.poll.stage) is);
        })

    lost_went : ComesBy what q (Ended (Fault walk.Lost)) → (puts : List Put) (mid : PollerAs) → Settles (lost (at_log d me) me) here puts mid → Went what o n q (rows_in (map put_as puts)) mid
    unfolding me
    lost_went comes puts mid settles = by d.doubt settles
      where
        by : (b : Bool) → Settles (if b then record (leaves (record (at_log d me) { polled = Some me }) [] Silent) { log = Some (ends q (Fault walk.Lost)) }
            else with_log (record (at_log d me) { doubt = true }) me (ends q (Fault walk.Lost))) here puts mid → Went what o n q (rows_in (map put_as puts)) mid
        by true settles = silent_went comes puts mid settles
        by false settles = turn_by true (record d { doubt = true }) (Ended (Fault walk.Lost)) (ends q (Fault walk.Lost)) puts mid refl tt comes refl refl settles

    answer_went : (v : Verdict) (datagram : List ℕ) → ((step : Step) → ((after_step q step ≡ log_after q v datagram) ⊎ (step ≡ Fewer)) → ComesBy what q step) → (puts : List Put) (mid : PollerAs) → Settles (after_log (answered (at_log d me)) v datagram) here puts mid →
        Went what o n q (rows_in (map put_as puts)) mid
    unfolding me
    answer_went v datagram comes puts mid settles = by (is_too_many q v) settles
      where
        by : (b : Bool) → Settles (if b then halved (answered (at_log d me)) me else with_log (answered (at_log d me)) me (log_after q v datagram)) here puts mid →
            Went what o n q (rows_in (map put_as puts)) mid
        by true settles = halved_went (comes Fewer (inr refl)) puts mid settles
        by false settles =
            let s = answer_step q v datagram in
            let t : LogTurned = log_after q v datagram in
            turn_by (has_ended t.end (left_behind n t.records)) (answered d) s.step t puts mid refl s.asked (comes s.step (inl (sym s.is))) s.is refl settles

    came_went : (datagram : List ℕ) (now : CivilTime) (t : Turned) (puts : List Put) (mid : PollerAs) → ((step : Step) → IsOf q datagram step → ComesBy what q step) → Takes (at_log d me) datagram now t → Settles t here puts mid →
        Went what o n q (rows_in (map put_as puts)) mid
    unfolding me
    came_went datagram now t puts mid comes takes settles =
        let v : Verdict = verdict_to (asked_of_device (at_log d me)) (apdu_in datagram) in
        let S : Turned → Type 0 = λ x. Settles x here puts mid in
        matched (is_busy v && nat_lt d.busy d.retries) takes
        (λ is. busy_went puts mid (subst S is settles))
        (λ is. answer_went v datagram comes puts mid (subst S is settles))

    -- the router has no route to its network
    rejected_went : (reject : NoRoute) → ComesBy what q (Ended (Fault walk.Lost)) → (puts : List Put) (mid : PollerAs) →
        Settles (after_reject (at_log d me) reject) here puts mid → Went what o n q (rows_in (map put_as puts)) mid
    unfolding me here
    rejected_went reject comes puts mid (r, takes, (rows, is)) =
        let a = taken log o n p.rows r (ends q (Fault walk.Lost)) on empty takes in
        let first : RowsAs = telling r false (rejected_line r.called reject) in
        let told = told_beside d.logs first in
        let s : RowsAs = raising (with_entries first (map not_asked d.logs)) (status_at Unreached) in
        let beside = answered_beside s.answered s in
        let all : a.puts ≡ rows_in (map put_as puts) = sym a.rows ∙ sym told.rows ∙ sym beside.rows ∙ sym (ap rows_in rows) in
        let Z : List PutAs → Type 0 = λ x. IsPlaced o (ends q (Fault walk.Lost)) a.behind x in
        inr (record {
          step = Ended (Fault walk.Lost);
          asked = tt;
          comes = comes;
          behind = a.behind;
          placed = subst Z all a.placed;
          goes = λ end. absurd (cc);
          over = λ end. at_end mid (ap (λ (x : PollerAs). x.poll.stage) is);
        })

  -- ---- any step

  -- a device that is at a log, in that form
  here_is : (o : Option PlaceAs) (n : Option ℕ) (q : PollState) (p : PollerAs) → IsAtLog log o n q p → p ≡ record p { poll = at_log p.poll (record { log = log; poll = q; left = n }) }
  here_is o n q p at =
      let one : DeviceState → PollerAs = λ x. record p { poll = x } in
      ap one
      (ap (λ (x : Stage). record p.poll { stage = x }) at.stage ∙ ap (λ (x : Option Polled). record p.poll { stage = stage.Log; polled = x }) at.polled)

  -- the poll of its log stays as it was, and so do its rows
  still : (o : Option PlaceAs) (n : Option ℕ) (q : PollState) (p new : PollerAs) → IsAtLog log o n q p → new.poll ≡ p.poll → new.rows.logs ≡ p.rows.logs → new.rows.puts ≡ p.rows.puts →
      IsAtLog log o n q new
  still o n q p new at poll logs puts =
      let W : List TaskAs → Type 0 = λ x. WaitsNot log x in
      let R : List LogAs → Type 0 = λ x. IsOnRecord log o x in
      record {
        stage = ap (λ (x : DeviceState). x.stage) poll ∙ at.stage;
        polled = ap (λ (x : DeviceState). x.polled) poll ∙ at.polled;
        more = at.more;
        waits = subst W (sym (ap (λ (x : DeviceState). x.logs) poll)) at.waits;
        record_of = subst R (sym logs) at.record_of;
        empty = puts ∙ at.empty;
      }

  stay : (what : Doing) (o : Option PlaceAs) (n : Option ℕ) (q : PollState) (rows : List PutAs) (p x new : PollerAs) → IsAtLog log o n q p → rows ≡ [] → new ≡ x → x.poll ≡ p.poll → x.rows.logs ≡ p.rows.logs → x.rows.puts ≡ p.rows.puts →
      Went what o n q rows new
  stay what o n q rows p x new at none is poll logs puts =
      let X : PollerAs → Type 0 = λ y. IsAtLog log o n q y in
      inl (record { none = none; stays = subst X (sym is) (still o n q p x at poll logs puts) })

  settled : (o : Option PlaceAs) (n : Option ℕ) (q : PollState) (p : PollerAs) (t : Turned) (puts : List Put) (mid : PollerAs) → IsAtLog log o n q p → Settles t p puts mid →
      let h : PollerAs = record p { poll = at_log p.poll (record { log = log; poll = q; left = n }) } in Settles t h puts mid
  settled o n q p t puts mid at settles =
      let X : PollerAs → Type 0 = λ x. Settles t x puts mid in subst X (here_is o n q p at) settles

  hears_went : (o : Option PlaceAs) (n : Option ℕ) (q : PollState) (p : PollerAs) (came : Came) (t : Turned) (puts : List Put) (mid : PollerAs) → IsAtLog log o n q p →
      ComesAs (reject_by p.way came.from came.datagram) p came t → Settles t p puts mid → Went (doing.Hears came) o n q (rows_in (map put_as puts)) mid
  unfolding me here
  hears_went o n q p came t puts mid at comes settles = by (reject_by p.way came.from came.datagram) comes
    where
      all : let h : PollerAs = record p { poll = at_log p.poll (record { log = log; poll = q; left = n }) } in Settles t h puts mid
      all = settled o n q p t puts mid at settles

      by : (r : Option NoRoute) → ComesAs r p came t → Went (doing.Hears came) o n q (rows_in (map put_as puts)) mid
      by None comes =
          let X : PollerAs → Type 0 = λ x. Comes (seeks x) x came t in
          came_went (doing.Hears came) p p.poll o n q at.more at.waits at.record_of at.empty came.datagram came.at t puts mid (λ step is. inl is) (subst X (here_is o n q p at) comes) all
      by (Some reject) is =
          let h : PollerAs = record p { poll = at_log p.poll (record { log = log; poll = q; left = n }) } in
          let X : Turned → Type 0 = λ x. Settles x h puts mid in
          rejected_went (doing.Hears came) p p.poll o n q at.more at.waits at.record_of at.empty reject (inr refl) puts mid
          (subst X (is ∙ ap (λ (x : PollerAs). after_reject x.poll reject) (here_is o n q p at)) all)

  loses_went : (o : Option PlaceAs) (n : Option ℕ) (q : PollState) (p : PollerAs) (puts : List Put) (mid : PollerAs) → IsAtLog log o n q p → Settles (lost_of p) p puts mid →
      Went doing.Loses o n q (rows_in (map put_as puts)) mid
  unfolding me here
  loses_went o n q p puts mid at settles =
      let X : PollerAs → Type 0 = λ x. Settles (lost_of x) x puts mid in
      lost_went doing.Loses p p.poll o n q at.more at.waits at.record_of at.empty refl puts mid (subst X (here_is o n q p at) settles)

  asks_went : (o : Option PlaceAs) (n : Option ℕ) (q : PollState) (p : PollerAs) (k : Question) (r : Request) (wanted : Next) (mid : PollerAs) → IsAtLog log o n q p → k ≡ Confirmed r →
      AsksNext k p wanted mid → Went doing.Asks o n q (wanted_rows wanted) mid
  asks_went o n q p (Confirmed request) r (next.Send octets to) mid at is gives = stay doing.Asks o n q [] p _ mid at refl gives.2 refl refl refl
  asks_went o n q p (Confirmed request) r (next.Wait within) mid at is gives = absurd gives
  asks_went o n q p (Confirmed request) r next.Read mid at is gives = absurd gives
  asks_went o n q p (Confirmed request) r (next.Keep puts) mid at is gives = absurd gives
  asks_went o n q p (Confirmed request) r (next.Print text) mid at is gives = absurd gives
  asks_went o n q p (Confirmed request) r (next.Warn text) mid at is gives = absurd gives
  asks_went o n q p (Confirmed request) r next.End mid at is gives = absurd gives
  asks_went o n q p WhoIs r wanted mid at is gives = absurd (cc)
  asks_went o n q p Nothing r wanted mid at is gives = absurd (cc)

  asked_is : (o : Option PlaceAs) (n : Option ℕ) (q : PollState) (p : PollerAs) → IsAtLog log o n q p → asked_of_device p.poll ≡ Confirmed (asked_by_poll q)
  asked_is o n q p at = ap (λ (x : PollerAs). asked_of_device x.poll) (here_is o n q p at)

  no_rows : (wanted : Next) → wanted ≡ next.Read → wanted_rows wanted ≡ []
  no_rows wanted is = ap wanted_rows is

  told_rows : (good : Bool) (text : List ℕ) (wanted : Next) → IsToldBy good text wanted → wanted_rows wanted ≡ []
  told_rows true text (next.Print line) is = refl
  told_rows true text (next.Send octets to) is = refl
  told_rows true text (next.Wait within) is = refl
  told_rows true text next.Read is = refl
  told_rows true text (next.Keep puts) is = absurd is
  told_rows true text (next.Warn line) is = refl
  told_rows true text next.End is = refl
  told_rows false text (next.Print line) is = refl
  told_rows false text (next.Send octets to) is = refl
  told_rows false text (next.Wait within) is = refl
  told_rows false text next.Read is = refl
  told_rows false text (next.Keep puts) is = absurd is
  told_rows false text (next.Warn line) is = refl
  told_rows false text next.End is = refl

  tells_went : (o : Option PlaceAs) (n : Option ℕ) (q : PollState) (p : PollerAs) (lines : List LineAs) (end : Option DeviceEnd) (wanted : Next) (mid : PollerAs) → IsAtLog log o n q p →
      TellsNext lines end p wanted mid → Went (doing.Tells end) o n q (wanted_rows wanted) mid
  tells_went o n q p (line ∷ lines) end wanted mid at tells =
      stay (doing.Tells end) o n q (wanted_rows wanted) p _ mid at (told_rows line.good line.text wanted tells.0) tells.1 refl refl refl
  tells_went o n q p [] end wanted mid at tells = stay (doing.Tells end) o n q (wanted_rows wanted) p _ mid at (no_rows wanted tells.0) tells.1 refl refl refl

  gives_went : (o : Option PlaceAs) (n : Option ℕ) (q : PollState) (what : Doing) (p : PollerAs) (wanted : Next) (mid : PollerAs) → IsAtLog log o n q p → Wants what p wanted mid →
      Went what o n q (wanted_rows wanted) mid
  gives_went o n q (doing.Ended why) p wanted mid at gives = stay (doing.Ended why) o n q (wanted_rows wanted) p p mid at (no_rows wanted gives.0) gives.1 refl refl refl
  gives_went o n q doing.Asks p wanted mid at gives =
      asks_went o n q p (asked_of_device p.poll) (asked_by_poll q) wanted mid at (asked_is o n q p at) gives
  gives_went o n q (doing.Resends datagram) p (next.Send octets to) mid at gives = stay (doing.Resends datagram) o n q [] p _ mid at refl gives.2 refl refl refl
  gives_went o n q (doing.Resends datagram) p (next.Wait within) mid at gives = absurd gives
  gives_went o n q (doing.Resends datagram) p next.Read mid at gives = absurd gives
  gives_went o n q (doing.Resends datagram) p (next.Keep puts) mid at gives = absurd gives
  gives_went o n q (doing.Resends datagram) p (next.Print text) mid at gives = absurd gives
  gives_went o n q (doing.Resends datagram) p (next.Warn text) mid at gives = absurd gives
  gives_went o n q (doing.Resends datagram) p next.End mid at gives = absurd gives
  gives_went o n q doing.Waits p wanted mid at gives = stay doing.Waits o n q (wanted_rows wanted) p p mid at (no_rows wanted gives.0) gives.1 refl refl refl
  gives_went o n q (doing.Hears came) p (next.Keep puts) mid at (t, comes, settles) = hears_went o n q p came t puts.items mid at comes settles
  gives_went o n q (doing.Hears came) p (next.Send octets to) mid at gives = absurd gives
  gives_went o n q (doing.Hears came) p (next.Wait within) mid at gives = absurd gives
  gives_went o n q (doing.Hears came) p next.Read mid at gives = absurd gives
  gives_went o n q (doing.Hears came) p (next.Print text) mid at gives = absurd gives
  gives_went o n q (doing.Hears came) p (next.Warn text) mid at gives = absurd gives
  gives_went o n q (doing.Hears came) p next.End mid at gives = absurd gives
  gives_went o n q doing.Loses p (next.Keep puts) mid at settles = loses_went o n q p puts.items mid at settles
  gives_went o n q doing.Loses p (next.Send octets to) mid at gives = absurd gives
  gives_went o n q doing.Loses p (next.Wait within) mid at gives = absurd gives
  gives_went o n q doing.Loses p next.Read mid at gives = absurd gives
  gives_went o n q doing.Loses p (next.Print text) mid at gives = absurd gives
  gives_went o n q doing.Loses p (next.Warn text) mid at gives = absurd gives
  gives_went o n q doing.Loses p next.End mid at gives = absurd gives
  gives_went o n q (doing.Tells end) p wanted mid at gives = tells_went o n q p p.rows.lines end wanted mid at gives

  -- what a step of a device keeps of the log
  abbrev pub step_rows : Own → List PutAs
  step_rows (Wanted ids wanted) = wanted_rows wanted
  step_rows (Answered from datagram now) = []
  step_rows Missed = []

  heard_went : (o : Option PlaceAs) (n : Option ℕ) (q : PollState) (p mid : PollerAs) (from datagram : List ℕ) (now : CivilTime) → IsAtLog log o n q p → mid ≡ heard_by from datagram now p → Went p.doing o n q [] mid
  heard_went o n q p mid from datagram now at is = stay p.doing o n q [] p (heard_by from datagram now p) mid at refl is (same (is_answer p from datagram)).0 (same (is_answer p from datagram)).1 (same (is_answer p from datagram)).2
    where
      same : (b : Bool) → let x : PollerAs = if b then hearing from datagram now p else p in
          (x.poll ≡ p.poll) × (x.rows.logs ≡ p.rows.logs) × (x.rows.puts ≡ p.rows.puts)
      same true = (refl, refl, refl)
      same false = (refl, refl, refl)

  -- no answer changes nothing of that
  IsSame : PollerAs → PollerAs → Type 0
  IsSame p x = (x.poll ≡ p.poll) × (x.rows.logs ≡ p.rows.logs) × (x.rows.puts ≡ p.rows.puts)

  same_if : (p : PollerAs) (b : Bool) (x y : PollerAs) → IsSame p x → IsSame p y → IsSame p (if b then x else y)
  same_if p true x y f g = f
  same_if p false x y f g = g

  same_without : (p : PollerAs) (o : Option Pending) → IsSame p (without_answer p o)
  unfolding IsSame same_if
  same_without p None = (refl, refl, refl)
  same_without p (Some request) = same_if p (nat_le p.transactions.retries request.repeats) _ _ (refl, refl, refl) (refl, refl, refl)

  same_missed : (p : PollerAs) → IsSame p (missed p)
  unfolding IsSame
  same_missed p =
      same_if p (seeks p) _ _ (same_if p (nat_lt p.sought p.retries) _ _ (refl, refl, refl) (refl, refl, refl))
      (same_if p p.poll.doubt _ _ (refl, refl, refl) (same_without p p.transactions.pending))

  missed_went : (o : Option PlaceAs) (n : Option ℕ) (q : PollState) (p mid : PollerAs) → IsAtLog log o n q p → mid ≡ missed p → Went p.doing o n q [] mid
  unfolding IsSame
  missed_went o n q p mid at is = let s = same_missed p in stay p.doing o n q [] p (missed p) mid at refl is s.0 s.1 s.2

  pub own_went : (o : Option PlaceAs) (n : Option ℕ) (q : PollState) (p : PollerAs) (own : Own) (mid : PollerAs) → IsAtLog log o n q p → OwnStep p own mid → Went p.doing o n q (step_rows own) mid
  own_went o n q p (Wanted ids wanted) mid at gives =
      gives_went o n q p.doing (lent ids p) wanted mid (still o n q p (lent ids p) at refl refl refl) gives
  own_went o n q p (Answered from datagram now) mid at (fits, is) = heard_went o n q p mid from datagram now at is
  own_went o n q p Missed mid at (waits, is) = missed_went o n q p mid at is
