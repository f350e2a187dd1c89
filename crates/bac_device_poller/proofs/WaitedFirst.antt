-- A device that doesn't answer before its logs are polled is waited for once.
use Rattle.std.proofs.Common.{◌≡◌, ◌∙◌, ◌≤◌, ◌+◌, ◌-◌, ℕ, Bool, true, false, if◌then◌else◌, nat_le, nat_lt, List}
use Rattle.std.proofs.Common.{[], ◌∷◌, count_by, Option, None, Some, ap, sym, refl, subst, arith}
use Rattle.std.proofs.lemmas.Bool.{leb-false, ltb-true}
use Rattle.bac_archive.specs.declared.row.Put.{Put}
use Rattle.bac_link.specs.Transactions.{begun_with}
use Rattle.bac_link.specs.declared.request.Request.{Request}
use Rattle.bac_link.specs.declared.transactions.Pending.{Pending}
use Rattle.bac_link.specs.declared.transactions.Transactions.{Transactions}
use Rattle.bac_drive.specs.declared.machine.Next.{Next}
use Rattle.bac_drive.specs.declared.machine.Next.TheVariants as next
use Rattle.bac_device_poll.specs.Identity.{after_i_am}
use Rattle.bac_device_poll.specs.Loss.{after_loss, is_last, loss_at, passed_over}
use Rattle.bac_device_poll.specs.Poll.{asked_of_device, question_at}
use Rattle.bac_device_poll.specs.State.{DeviceState}
use Rattle.bac_device_poll.specs.Turns.{Turned, leaves}
use Rattle.bac_device_poll.specs.Way.{who_is_octets}
use Rattle.bac_device_poll.specs.declared.question.Question.{Question}
use Rattle.bac_device_poll.specs.declared.question.Question.TheVariants.{Confirmed, Nothing, WhoIs}
use Rattle.bac_device_poll.specs.declared.stage.Stage.{Stage}
use Rattle.bac_device_poll.specs.declared.stage.Stage.TheVariants as stage
use Rattle.bac_device_poll.specs.declared.turn.DeviceEnd.{DeviceEnd}
use Rattle.bac_device_poll.specs.declared.turn.DeviceEnd.TheVariants.{Silent}
use Rattle.bac_device_poller.specs.Poller.{AsksNext, GivesBy, PollerAs, Settles, TellsNext, doing_with, given_up}
use Rattle.bac_device_poller.specs.Poller.{is_none_told, is_waiting, is_who_is, lost_of, missed, sought_again}
use Rattle.bac_device_poller.specs.Poller.{without_answer}
use Rattle.bac_device_poller.specs.Silence.{Answered, Happening, IsAsking, IsFirst, IsUnanswered, Lent, Missed, Runs}
use Rattle.bac_device_poller.specs.Silence.{Wanted, WaitsOnceFirst, first_in_vain, is_send, is_sent}
use Rattle.bac_device_poller.specs.Telling.{LineAs}
use Rattle.bac_device_poller.specs.declared.doing.Doing.{Doing}
use Rattle.bac_device_poller.specs.declared.ids.Ids.{Ids}
use Rattle.bac_device_poller.specs.declared.doing.Doing.TheVariants as doing
use Rattle.bac_device_poller.proofs.LogTurns.{behind}
use Rattle.bac_device_poller.proofs.Silence.{Settled, settled}
use Rattle.bac_device_poller.proofs.SilentSteps.{told_send}
use Rattle.bac_device_poller.proofs.SilentRuns.{one_more, tally}
use Rattle.bac_device_poller.proofs.WaitedOnce.{repeats_left}

-- ---- how many sends are left while nothing is heard

-- as an answer is waited for
abbrev out_left : Question → PollerAs → ℕ
out_left (Confirmed request) p = repeats_left p.transactions.retries p.transactions.pending
out_left WhoIs p = (p.retries - p.sought) + (p.transactions.retries + 1)
out_left Nothing p = 0

-- as none came
abbrev lost_left : Question → PollerAs → ℕ
lost_left (Confirmed request) p = 0
lost_left WhoIs p = p.transactions.retries + 1
lost_left Nothing p = 0

-- by what it is at
abbrev left_at : Question → PollerAs → Doing → ℕ
left_at question p doing.Asks = first_in_vain question p.transactions.retries p.retries
left_at question p doing.Waits = out_left question p
left_at question p (doing.Resends datagram) = out_left question p + 1
left_at question p (doing.Hears came) = 0
left_at question p doing.Loses = lost_left question p
left_at question p (doing.Tells None) = first_in_vain question p.transactions.retries p.retries
left_at question p (doing.Tells (Some why)) = 0
left_at question p (doing.Ended why) = 0

-- of a poll
abbrev left_of : PollerAs → ℕ
left_of p = left_at (asked_of_device p.poll) p p.doing

-- none of its logs is polled, and something is asked, of which nothing is heard
record Asking (p : PollerAs) (question : Question) : Type 0 where
  pub polled : p.poll.polled ≡ None
  pub asks : asked_of_device p.poll ≡ question
  pub is : IsAsking question
  pub first : IsFirst p.poll.stage

-- so it is, unless nothing more is asked
abbrev Goes : Option DeviceEnd → PollerAs → Type 0
Goes None p = (question : Question) × Asking p question
Goes (Some why) p = Unit {0}

abbrev Unheard : Doing → PollerAs → Type 0
Unheard (doing.Hears came) p = ⊥
Unheard doing.Asks p = Goes None p
Unheard doing.Waits p = Goes None p
Unheard (doing.Resends datagram) p = Goes None p
Unheard doing.Loses p = Goes None p
Unheard (doing.Tells end) p = Goes end p
Unheard (doing.Ended why) p = Unit {0}

-- what a step leaves
record Less (sent : Bool) (new : PollerAs) (before : ℕ) : Type 0 where
  pub unheard : Unheard new.doing new
  pub less : left_of new + tally sent ≤ before

unheard_with : (end : Option DeviceEnd) (told : Bool) (p : PollerAs) → Goes end p → Unheard (doing_with end told) p
unheard_with None true p on = on
unheard_with None false p on = on
unheard_with (Some why) true p on = tt
unheard_with (Some why) false p on = tt

left_with : (question : Question) (p : PollerAs) (end : Option DeviceEnd) (told : Bool) →
    left_at question p (doing_with end told) ≡ left_at question p (doing.Tells end)
left_with question p None true = refl
left_with question p None false = refl
left_with question p (Some why) true = refl
left_with question p (Some why) false = refl

-- ---- its question is sent

sent_first : (question : Question) (old : PollerAs) (wanted : Next) (new : PollerAs) → Asking old question → AsksNext question old wanted new →
    Less (is_send wanted) new (first_in_vain question old.transactions.retries old.retries)
sent_first (Confirmed request) old (next.Send octets to) new on (o, t, is) =
    let n : PollerAs = record old { transactions = begun_with request old.transactions; doing = doing.Waits } in
    let e : left_of new ≡ repeats_left old.transactions.retries (begun_with request old.transactions).pending =
    ap left_of is ∙ ap (λ (x : Question). out_left x n) on.asks in record {
      unheard = let P : PollerAs → Type 0 = λ p. Unheard p.doing p in
          subst P (sym is) (Confirmed request, record { polled = on.polled; asks = on.asks; is = tt; first = on.first });
      less = omega (arith, e);
    }
sent_first (Confirmed request) old wanted new on asks = absurd asks
sent_first WhoIs old (next.Send octets to) new on (o, t, is) =
    let n : PollerAs = record old { sought = 0; doing = doing.Waits } in
    let e : left_of new ≡ (old.retries - 0) + (old.transactions.retries + 1) = ap left_of is ∙ ap (λ (x : Question). out_left x n) on.asks in record {
      unheard = let P : PollerAs → Type 0 = λ p. Unheard p.doing p in
          subst P (sym is) (WhoIs, record { polled = on.polled; asks = on.asks; is = tt; first = on.first });
      less = omega (arith, e);
    }
sent_first WhoIs old wanted new on asks = absurd asks
sent_first Nothing old wanted new on asks = absurd on.is

-- ---- its lines are told

told_on : (end : Option DeviceEnd) (old : PollerAs) (told : Bool) (lines : List LineAs) → Goes end old →
    Goes end (record old { doing = doing_with end told; rows = record old.rows { lines = lines } })
told_on None old told lines (question, on) = (question, record { polled = on.polled; asks = on.asks; is = on.is; first = on.first })
told_on (Some why) old told lines on = tt

same_on : (end : Option DeviceEnd) (old : PollerAs) (told : Bool) → Goes end old → Goes end (record old { doing = doing_with end told })
same_on None old told (question, on) = (question, record { polled = on.polled; asks = on.asks; is = on.is; first = on.first })
same_on (Some why) old told on = tt

tells_less : (lines : List LineAs) (end : Option DeviceEnd) (old : PollerAs) (wanted : Next) (new : PollerAs) → Goes end old →
    TellsNext lines end old wanted new → Less (is_send wanted) new (left_at (asked_of_device old.poll) old (doing.Tells end))
tells_less [] end old wanted new on (w, is) =
    let n : PollerAs = record old { doing = doing_with end true } in
    let e : left_of new ≡ left_at (asked_of_device old.poll) n (doing_with end true) = ap left_of is in
    let none : tally (is_send wanted) ≡ 0 = ap (λ (w : Next). tally (is_send w)) w in
    let same = left_with (asked_of_device old.poll) n end true in record {
      unheard = let P : PollerAs → Type 0 = λ p. Unheard p.doing p in subst P (sym is) (unheard_with end true n (same_on end old true on));
      less = let f = e ∙ same ∙ told_same end in omega (arith, f, none);
    }
  where
    told_same : (end : Option DeviceEnd) →
        left_at (asked_of_device old.poll) (record old { doing = doing_with end true }) (doing.Tells end) ≡ left_at (asked_of_device old.poll) old (doing.Tells end)
    told_same None = refl
    told_same (Some why) = refl
tells_less (line ∷ lines) end old wanted new on (w, is) =
    let n : PollerAs = record old { doing = doing_with end (is_none_told lines); rows = record old.rows { lines = lines } } in
    let e : left_of new ≡ left_at (asked_of_device old.poll) n (doing_with end (is_none_told lines)) = ap left_of is in
    let none : tally (is_send wanted) ≡ 0 = ap tally (told_send line.good line.text wanted w) in
    let same = left_with (asked_of_device old.poll) n end (is_none_told lines) in record {
      unheard = let P : PollerAs → Type 0 = λ p. Unheard p.doing p in
          subst P (sym is) (unheard_with end (is_none_told lines) n (told_on end old (is_none_told lines) lines on));
      less = let f = e ∙ same ∙ told_same end in omega (arith, f, none);
    }
  where
    told_same : (end : Option DeviceEnd) →
        left_at (asked_of_device old.poll) (record old { doing = doing_with end (is_none_told lines); rows = record old.rows { lines = lines } }) (doing.Tells end)
        ≡ left_at (asked_of_device old.poll) old (doing.Tells end)
    told_same None = refl
    told_same (Some why) = refl

-- ---- no answer came

silent_first : (s : Stage) (b : Bool) (p : DeviceState) → IsFirst s →
    (d : DeviceState) × ((if b then leaves p [] Silent else passed_over s (record p { doubt = true })) ≡ leaves d [] Silent)
silent_first s true p first = (p, refl)
silent_first stage.Instance false p first = (record p { doubt = true }, refl)
silent_first stage.IAm false p first = (record p { doubt = true }, refl)
silent_first stage.Name false p first = (record p { doubt = true }, refl)
silent_first other false p first = absurd first

lost_request : (p : PollerAs) (request : Request) → Asking p (Confirmed request) → (d : DeviceState) × (lost_of p ≡ leaves d [] Silent)
lost_request p request on =
    let silent = silent_first p.poll.stage (is_last p.poll) p.poll on.first in (
      silent.0,
      ap (λ (b : Bool). if b then after_i_am p.poll None else after_loss p.poll) (ap is_who_is on.asks) ∙ ap (loss_at p.poll) on.polled ∙ silent.1,
    )

lost_who_is : (p : PollerAs) → Asking p WhoIs → lost_of p ≡ after_i_am p.poll None
lost_who_is p on = ap (λ (b : Bool). if b then after_i_am p.poll None else after_loss p.poll) (ap is_who_is on.asks)

loses_less : (question : Question) (old : PollerAs) (puts : List Put) (new : PollerAs) → Asking old question → Settles (lost_of old) old puts new →
    Less false new (lost_left question old)
loses_less (Confirmed request) old puts new on settles =
    let silent = lost_request old request on in
    let t : Turned = leaves silent.0 [] Silent in
    let s : Settled t old new = settled t old puts new (subst (λ (t : Turned). Settles t old puts new) silent.1 settles) in
    let e : left_of new ≡ 0 = ap (left_at (asked_of_device new.poll) new) s.doing ∙ left_with (asked_of_device new.poll) new (Some Silent) s.told in record {
      unheard = let P : Doing → Type 0 = λ d. Unheard d new in subst P (sym s.doing) (unheard_with (Some Silent) s.told new tt);
      less = omega (arith, e);
    }
loses_less WhoIs old puts new on settles =
    let t : Turned = after_i_am old.poll None in
    let s : Settled t old new = settled t old puts new (subst (λ (t : Turned). Settles t old puts new) (lost_who_is old on) settles) in
    let q : Question = asked_of_device (behind t).device in
    let asks : asked_of_device new.poll ≡ q = ap asked_of_device s.poll in
    let goes : Goes None new = (
      q,
      record {
        polled = ap (λ (d : DeviceState). d.polled) s.poll ∙ on.polled;
        asks = asks;
        is = tt;
        first = subst (λ (d : DeviceState). IsFirst d.stage) (sym s.poll) tt;
      },
    ) in
    let e : left_of new ≡ new.transactions.retries + 1 =
    ap (λ (x : Question). left_at x new new.doing) asks ∙ ap (left_at q new) s.doing ∙ left_with q new None s.told in
    let same : new.transactions.retries ≡ old.transactions.retries = ap (λ (t : Transactions). t.retries) s.transactions in record {
      unheard = let P : Doing → Type 0 = λ d. Unheard d new in subst P (sym s.doing) (unheard_with None s.told new goes);
      less = omega (arith, e, same);
    }
loses_less Nothing old puts new on settles = absurd on.is

-- ---- what it wants

out_same : (question : Question) (p : PollerAs) → out_left question (record p { doing = doing.Waits }) ≡ out_left question p
out_same (Confirmed request) p = refl
out_same WhoIs p = refl
out_same Nothing p = refl

gives_less : (what : Doing) (old : PollerAs) (wanted : Next) (new : PollerAs) → old.doing ≡ what → Unheard what old →
    GivesBy what old wanted new → Less (is_send wanted) new (left_at (asked_of_device old.poll) old what)
gives_less doing.Asks old wanted new at (question, on) gives =
    subst (λ (x : Question). Less (is_send wanted) new (first_in_vain x old.transactions.retries old.retries)) (sym on.asks)
    (sent_first question old wanted new on (subst (λ (x : Question). AsksNext x old wanted new) on.asks gives))
gives_less (doing.Resends datagram) old (next.Send octets to) new at (question, on) (o, t, is) =
    let e : left_of new ≡ out_left (asked_of_device old.poll) old = ap left_of is ∙ out_same (asked_of_device old.poll) old in record {
      unheard = let P : PollerAs → Type 0 = λ p. Unheard p.doing p in
          subst P (sym is) (question, record { polled = on.polled; asks = on.asks; is = on.is; first = on.first });
      less = omega (arith, e);
    }
gives_less (doing.Resends datagram) old wanted new at on gives = absurd gives
gives_less doing.Waits old wanted new at on (w, is) =
    let e : left_of new ≡ out_left (asked_of_device old.poll) old = ap left_of is ∙ ap (left_at (asked_of_device old.poll) old) at in
    let none : tally (is_send wanted) ≡ 0 = ap (λ (w : Next). tally (is_send w)) w in record {
      unheard = let P : PollerAs → Type 0 = λ p. Unheard p.doing p in let Q : Doing → Type 0 = λ d. Unheard d old in
          subst P (sym is) (subst Q (sym at) on);
      less = omega (arith, e, none);
    }
gives_less (doing.Hears came) old wanted new at on gives = absurd on
gives_less doing.Loses old (next.Keep puts) new at (question, on) settles =
    subst (λ (x : Question). Less false new (lost_left x old)) (sym on.asks) (loses_less question old puts.items new on settles)
gives_less doing.Loses old wanted new at on gives = absurd gives
gives_less (doing.Tells end) old wanted new at on gives = tells_less old.rows.lines end old wanted new on gives
gives_less (doing.Ended why) old wanted new at on (w, is) =
    let e : left_of new ≡ 0 = ap left_of is ∙ ap (left_at (asked_of_device old.poll) old) at in
    let none : tally (is_send wanted) ≡ 0 = ap (λ (w : Next). tally (is_send w)) w in record {
      unheard = let P : PollerAs → Type 0 = λ p. Unheard p.doing p in let Q : Doing → Type 0 = λ d. Unheard d old in
          subst P (sym is) (subst Q (sym at) on);
      less = omega (arith, e, none);
    }

-- ---- no answer in time

given_less : (p : PollerAs) (question : Question) (n : ℕ) → Asking p question → lost_left question p ≤ n → Less false (given_up p) n
given_less p question n on fits =
    let e : left_of (given_up p) ≡ lost_left question (given_up p) = ap (λ (x : Question). lost_left x (given_up p)) on.asks in record {
      unheard = (question, record { polled = on.polled; asks = on.asks; is = on.is; first = on.first });
      less = let f = e ∙ same question in omega (arith, f, fits);
    }
  where
    same : (question : Question) → lost_left question (given_up p) ≡ lost_left question p
    same (Confirmed request) = refl
    same WhoIs = refl
    same Nothing = refl

request_again : (p : PollerAs) (request : Request) (o : Option Pending) → Asking p (Confirmed request) →
    Less false (without_answer p o) (repeats_left p.transactions.retries o)
request_again p request None on = given_less p (Confirmed request) 0 on (omega arith)
request_again p request (Some r) on = by (nat_le p.transactions.retries r.repeats) refl
  where
    by : (b : Bool) → nat_le p.transactions.retries r.repeats ≡ b → Less false (if b then given_up p else record p {
      transactions = record p.transactions { pending = Some (record r { repeats = r.repeats + 1 }) };
      doing = doing.Resends r.request;
    }) (p.transactions.retries - r.repeats)
    by true more = given_less p (Confirmed request) (p.transactions.retries - r.repeats) on (omega arith)
    by false more =
        let n : PollerAs = record p {
          transactions = record p.transactions { pending = Some (record r { repeats = r.repeats + 1 }) };
          doing = doing.Resends r.request;
        } in
        let less = leb-false p.transactions.retries r.repeats more in
        let e : left_of n ≡ (p.transactions.retries - (r.repeats + 1)) + 1 = ap (λ (x : Question). out_left x n + 1) on.asks in record {
          unheard = (Confirmed request, record { polled = on.polled; asks = on.asks; is = tt; first = on.first });
          less = omega (arith, e, less);
        }

request_missed : (doubt : Bool) (p : PollerAs) (request : Request) → Asking p (Confirmed request) →
    Less false (if doubt then given_up p else without_answer p p.transactions.pending) (repeats_left p.transactions.retries p.transactions.pending)
request_missed true p request on = given_less p (Confirmed request) (repeats_left p.transactions.retries p.transactions.pending) on (omega arith)
request_missed false p request on = request_again p request p.transactions.pending on

sought_less : (b : Bool) (p : PollerAs) → nat_lt p.sought p.retries ≡ b → Asking p WhoIs →
    Less false (if b then record p { sought = p.sought + 1; doing = doing.Resends (who_is_octets p.way.route) } else given_up p)
    ((p.retries - p.sought) + (p.transactions.retries + 1))
sought_less false p more on = given_less p WhoIs ((p.retries - p.sought) + (p.transactions.retries + 1)) on (omega arith)
sought_less true p more on =
    let n : PollerAs = record p { sought = p.sought + 1; doing = doing.Resends (who_is_octets p.way.route) } in
    let less = ltb-true p.sought p.retries more in
    let e : left_of n ≡ (p.retries - (p.sought + 1)) + (p.transactions.retries + 1) + 1 = ap (λ (x : Question). out_left x n + 1) on.asks in record {
      unheard = (WhoIs, record { polled = on.polled; asks = on.asks; is = tt; first = on.first });
      less = omega (arith, e, less);
    }

missed_by : (question : Question) (p : PollerAs) → Asking p question → Less false (missed p) (out_left question p)
missed_by (Confirmed request) p on =
    let e : missed p ≡ (if p.poll.doubt then given_up p else without_answer p p.transactions.pending) =
    ap (λ (b : Bool). if b then sought_again p else (if p.poll.doubt then given_up p else without_answer p p.transactions.pending)) (ap is_who_is on.asks) in
    subst (λ (x : PollerAs). Less false x (repeats_left p.transactions.retries p.transactions.pending)) (sym e) (request_missed p.poll.doubt p request on)
missed_by WhoIs p on =
    let e : missed p ≡ sought_again p =
    ap (λ (b : Bool). if b then sought_again p else (if p.poll.doubt then given_up p else without_answer p p.transactions.pending)) (ap is_who_is on.asks) in
    subst (λ (x : PollerAs). Less false x ((p.retries - p.sought) + (p.transactions.retries + 1))) (sym e)
    (sought_less (nat_lt p.sought p.retries) p refl on)
missed_by Nothing p on = absurd on.is

missed_less : (what : Doing) (p : PollerAs) → p.doing ≡ what → is_waiting what ≡ true → Unheard what p → Less false (missed p) (left_of p)
missed_less doing.Waits p at waits (question, on) =
    let same : out_left question p ≡ left_of p =
    ap (λ (x : Question). out_left x p) (sym on.asks) ∙ ap (left_at (asked_of_device p.poll) p) (sym at) in
    subst (λ (n : ℕ). Less false (missed p) n) same (missed_by question p on)
missed_less doing.Asks p at waits on = absurd (cc)
missed_less (doing.Resends datagram) p at waits on = absurd (cc)
missed_less (doing.Hears came) p at waits on = absurd (cc)
missed_less doing.Loses p at waits on = absurd (cc)
missed_less (doing.Tells end) p at waits on = absurd (cc)
missed_less (doing.Ended why) p at waits on = absurd (cc)

-- ---- a run

-- ids that are lent change nothing of that
lent_on : (what : Doing) (old : PollerAs) (ids : Ids) → Unheard what old → Unheard what (record old { rows = record old.rows { ids = ids } })
lent_on doing.Asks old ids (question, on) = (question, record { polled = on.polled; asks = on.asks; is = on.is; first = on.first })
lent_on doing.Waits old ids (question, on) = (question, record { polled = on.polled; asks = on.asks; is = on.is; first = on.first })
lent_on (doing.Resends datagram) old ids (question, on) = (question, record { polled = on.polled; asks = on.asks; is = on.is; first = on.first })
lent_on (doing.Hears came) old ids on = absurd on
lent_on doing.Loses old ids (question, on) = (question, record { polled = on.polled; asks = on.asks; is = on.is; first = on.first })
lent_on (doing.Tells None) old ids (question, on) = (question, record { polled = on.polled; asks = on.asks; is = on.is; first = on.first })
lent_on (doing.Tells (Some why)) old ids on = tt
lent_on (doing.Ended why) old ids on = tt

lent_left : (question : Question) (what : Doing) (old : PollerAs) (ids : Ids) →
    left_at question (record old { rows = record old.rows { ids = ids } }) what ≡ left_at question old what
lent_left (Confirmed request) what old ids = by what
  where
    by : (what : Doing) → left_at (Confirmed request) (record old { rows = record old.rows { ids = ids } }) what ≡ left_at (Confirmed request) old what
    by doing.Asks = refl
    by doing.Waits = refl
    by (doing.Resends datagram) = refl
    by (doing.Hears came) = refl
    by doing.Loses = refl
    by (doing.Tells None) = refl
    by (doing.Tells (Some why)) = refl
    by (doing.Ended why) = refl
lent_left WhoIs what old ids = by what
  where
    by : (what : Doing) → left_at WhoIs (record old { rows = record old.rows { ids = ids } }) what ≡ left_at WhoIs old what
    by doing.Asks = refl
    by doing.Waits = refl
    by (doing.Resends datagram) = refl
    by (doing.Hears came) = refl
    by doing.Loses = refl
    by (doing.Tells None) = refl
    by (doing.Tells (Some why)) = refl
    by (doing.Ended why) = refl
lent_left Nothing what old ids = by what
  where
    by : (what : Doing) → left_at Nothing (record old { rows = record old.rows { ids = ids } }) what ≡ left_at Nothing old what
    by doing.Asks = refl
    by doing.Waits = refl
    by (doing.Resends datagram) = refl
    by (doing.Hears came) = refl
    by doing.Loses = refl
    by (doing.Tells None) = refl
    by (doing.Tells (Some why)) = refl
    by (doing.Ended why) = refl

run_less : (old : PollerAs) (run : List Happening) (new : PollerAs) → Unheard old.doing old → Runs old run new → IsUnanswered run →
    left_of new + count_by is_sent run ≤ left_of old
run_less old [] new on is none = let e : left_of new ≡ left_of old = ap left_of is in omega (arith, e)
run_less old (Lent ids ∷ run) new on (mid, is, more) none =
    let e : left_of mid ≡ left_of old = ap left_of is ∙ lent_left (asked_of_device old.poll) old.doing old ids in
    let P : PollerAs → Type 0 = λ p. Unheard p.doing p in
    let rest = run_less mid run new (subst P (sym is) (lent_on old.doing old ids on)) more none in
    omega (arith, e, rest, one_more (Lent ids) run)
run_less old (Wanted wanted ∷ run) new on (mid, gives, more) none =
    let l : Less (is_send wanted) mid (left_of old) = gives_less old.doing old wanted mid refl on gives in
    let rest = run_less mid run new l.unheard more none in
    omega (arith, l.less, rest, one_more (Wanted wanted) run)
run_less old (Answered from datagram now ∷ run) new on runs none = absurd none
run_less old (Missed ∷ run) new on (mid, (waits, is), more) none =
    let P : PollerAs → Type 0 = λ x. Less false x (left_of old) in
    let l : Less false mid (left_of old) = subst P (sym is) (missed_less old.doing old refl waits on) in
    let rest = run_less mid run new l.unheard more none in
    omega (arith, l.less, rest, one_more Missed run)

asks_first : (p : DeviceState) (s : Stage) → IsFirst s → IsAsking (question_at p s)
asks_first p stage.Instance first = tt
asks_first p stage.IAm first = tt
asks_first p stage.Name first = tt
asks_first p other first = absurd first

pub waits_once_first : WaitsOnceFirst
waits_once_first old new run polled first asks more none =
    let P : Doing → Type 0 = λ d. Unheard d old in
    let asking : IsAsking (asked_of_device old.poll) = asks_first old.poll old.poll.stage first in
    let on : Goes None old = (asked_of_device old.poll, record { polled = polled; asks = refl; is = asking; first = first }) in
    let less = run_less old run new (subst P (sym asks) on) more none in
    let at : left_of old ≡ first_in_vain (asked_of_device old.poll) old.transactions.retries old.retries = ap (left_at (asked_of_device old.poll) old) asks in
    omega (arith, less, at)
