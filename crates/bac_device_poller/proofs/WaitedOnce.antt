-- A device that falls silent is waited for once, and for one wait more.
use Rattle.std.proofs.Common.{◌≡◌, ◌∙◌, ◌≤◌, ◌+◌, ◌-◌, ℕ, Bool, true, false, if◌then◌else◌, nat_le, List, [], ◌∷◌}
use Rattle.std.proofs.Common.{count_by, Option, None, Some, ap, sym, refl, subst, arith}
use Rattle.std.proofs.lemmas.Bool.{leb-false}
use Rattle.bac_link.specs.Transactions.{begun_with}
use Rattle.bac_link.specs.declared.request.Request.{Request}
use Rattle.bac_link.specs.declared.transactions.Pending.{Pending}
use Rattle.bac_link.specs.declared.transactions.Transactions.{Transactions}
use Rattle.bac_drive.specs.declared.machine.Next.{Next}
use Rattle.bac_drive.specs.declared.machine.Next.TheVariants as next
use Rattle.bac_device_poll.specs.Identity.{after_i_am}
use Rattle.bac_device_poll.specs.Loss.{after_loss, is_count}
use Rattle.bac_device_poll.specs.Poll.{asked_of_device, asks_log, question_at}
use Rattle.bac_device_poll.specs.State.{DeviceState}
use Rattle.bac_device_poll.specs.Turns.{Turned}
use Rattle.bac_device_poll.specs.declared.question.Question.{Question}
use Rattle.bac_device_poll.specs.declared.question.Question.TheVariants.{Confirmed, Nothing, WhoIs}
use Rattle.bac_device_poll.specs.declared.stage.Stage.{Stage}
use Rattle.bac_device_poll.specs.declared.stage.Stage.TheVariants as stage
use Rattle.bac_device_poll.specs.declared.task.Polled.{Polled}
use Rattle.bac_device_poll.specs.declared.turn.DeviceEnd.{DeviceEnd}
use Rattle.bac_device_poll.specs.declared.turn.DeviceEnd.TheVariants.{Silent}
use Rattle.bac_device_poller.specs.Poller.{AsksNext, GivesBy, PollerAs, Settles, TellsNext, doing_with, end_at, given_up}
use Rattle.bac_device_poller.specs.Poller.{is_none_told, is_waiting, is_who_is, lost_of, missed, sought_again, without_answer}
use Rattle.bac_device_poller.specs.Silence.{Answered, Happening, IsAsking, IsMet, IsPolling, IsUnanswered, Lent, Missed, Runs}
use Rattle.bac_device_poller.specs.Silence.{Wanted, WaitsOnce, behind_lost, end_of, is_objects, is_send, is_sent}
use Rattle.bac_device_poller.specs.Silence.{sends_in_vain}
use Rattle.bac_device_poller.specs.Telling.{LineAs}
use Rattle.bac_device_poller.specs.declared.doing.Doing.{Doing}
use Rattle.bac_device_poller.specs.declared.doing.Doing.TheVariants as doing
use Rattle.bac_device_poller.proofs.LogTurns.{at_log, behind}
use Rattle.bac_device_poller.proofs.Passing.{AsksOn, GoesMet, Passes, passes}
use Rattle.bac_device_poller.proofs.Silence.{Settled, by_log, end_with, settled}
use Rattle.bac_device_poller.proofs.SilentSteps.{told_send}
use Rattle.bac_device_poller.proofs.SilentRuns.{one_more, tally}

-- ---- how many sends are left while nothing is heard

-- repeats of its open request
abbrev pub repeats_left : ℕ → Option Pending → ℕ
repeats_left retries None = 0
repeats_left retries (Some request) = retries - request.repeats

-- as its answer is waited for
abbrev waits_left : (doubt : Bool) → Stage → Transactions → ℕ
waits_left true s t = behind_lost true s
waits_left false s t = repeats_left t.retries t.pending + behind_lost false s

-- by what it is at
abbrev vain : (doubt : Bool) → Stage → Transactions → Doing → ℕ
vain doubt s t doing.Asks = sends_in_vain doubt s t.retries
vain doubt s t doing.Waits = waits_left doubt s t
vain doubt s t (doing.Resends datagram) = waits_left doubt s t + 1
vain doubt s t (doing.Hears came) = 0
vain doubt s t doing.Loses = behind_lost doubt s
vain doubt s t (doing.Tells None) = sends_in_vain doubt s t.retries
vain doubt s t (doing.Tells (Some why)) = 0
vain doubt s t (doing.Ended why) = 0

-- of a poll
abbrev left_of : PollerAs → ℕ
left_of p = vain p.poll.doubt p.poll.stage p.transactions p.doing

-- nothing is heard
abbrev Unheard : Doing → Type 0
Unheard (doing.Hears came) = ⊥
Unheard doing.Asks = Unit {0}
Unheard doing.Waits = Unit {0}
Unheard (doing.Resends datagram) = Unit {0}
Unheard doing.Loses = Unit {0}
Unheard (doing.Tells end) = Unit {0}
Unheard (doing.Ended why) = Unit {0}

-- it told who it is, and is asked for more, unless nothing is
abbrev IsOn : PollerAs → Type 0
IsOn p = GoesMet (end_of p.doing) p.poll

-- what a step leaves
record Less (old : PollerAs) (sent : Bool) (new : PollerAs) (before : ℕ) : Type 0 where
  pub on : IsOn new
  pub unheard : Unheard new.doing
  pub less : left_of new + tally sent ≤ before

unheard_with : (end : Option DeviceEnd) (told : Bool) → Unheard (doing_with end told)
unheard_with None true = tt
unheard_with None false = tt
unheard_with (Some why) true = tt
unheard_with (Some why) false = tt

vain_with : (doubt : Bool) (s : Stage) (t : Transactions) (end : Option DeviceEnd) (told : Bool) →
    vain doubt s t (doing_with end told) ≡ vain doubt s t (doing.Tells end)
vain_with doubt s t None true = refl
vain_with doubt s t None false = refl
vain_with doubt s t (Some why) true = refl
vain_with doubt s t (Some why) false = refl

-- its question is sent, for the first time
asks_less : (doubt : Bool) (s : Stage) (t : Transactions) (r : Request) →
    waits_left doubt s (begun_with r t) + 1 ≤ sends_in_vain doubt s t.retries
asks_less true s t r = omega arith
asks_less false s t r = omega arith

asked_less : (old : PollerAs) (wanted : Next) (new : PollerAs) (r : Request) → AsksOn old.poll → AsksNext (Confirmed r) old wanted new →
    Less old (is_send wanted) new (vain old.poll.doubt old.poll.stage old.transactions doing.Asks)
asked_less old (next.Send octets to) new r on (o, t, is) =
    let e : left_of new ≡ waits_left old.poll.doubt old.poll.stage (begun_with r old.transactions) = ap left_of is in
    let less = asks_less old.poll.doubt old.poll.stage old.transactions r in record {
      on = let P : PollerAs → Type 0 = IsOn in subst P (sym is) on;
      unheard = let P : PollerAs → Type 0 = λ p. Unheard p.doing in subst P (sym is) tt;
      less = omega (arith, e, less);
    }
asked_less old wanted new r on asks = absurd asks

told_on : (end : Option DeviceEnd) (told : Bool) (p : DeviceState) → GoesMet end p → GoesMet (end_of (doing_with end told)) p
told_on end told p on = subst (λ (o : Option DeviceEnd). GoesMet o p) (sym (end_with end told)) on

tells_less : (lines : List LineAs) (end : Option DeviceEnd) (old : PollerAs) (wanted : Next) (new : PollerAs) →
    GoesMet end old.poll → TellsNext lines end old wanted new → Less old (is_send wanted) new (vain old.poll.doubt old.poll.stage old.transactions (doing.Tells end))
tells_less [] end old wanted new on (w, is) =
    let e : left_of new ≡ vain old.poll.doubt old.poll.stage old.transactions (doing_with end true) = ap left_of is in
    let none : tally (is_send wanted) ≡ 0 = ap (λ (w : Next). tally (is_send w)) w in record {
      on = let P : PollerAs → Type 0 = IsOn in subst P (sym is) (told_on end true old.poll on);
      unheard = let P : PollerAs → Type 0 = λ p. Unheard p.doing in subst P (sym is) (unheard_with end true);
      less = omega (arith, e, none, vain_with old.poll.doubt old.poll.stage old.transactions end true);
    }
tells_less (line ∷ lines) end old wanted new on (w, is) =
    let e : left_of new ≡ vain old.poll.doubt old.poll.stage old.transactions (doing_with end (is_none_told lines)) = ap left_of is in
    let none : tally (is_send wanted) ≡ 0 = ap tally (told_send line.good line.text wanted w) in record {
      on = let P : PollerAs → Type 0 = IsOn in subst P (sym is) (told_on end (is_none_told lines) old.poll on);
      unheard = let P : PollerAs → Type 0 = λ p. Unheard p.doing in subst P (sym is) (unheard_with end (is_none_told lines));
      less = omega (arith, e, none, vain_with old.poll.doubt old.poll.stage old.transactions end (is_none_told lines));
    }

-- ---- its question is lost

silent_by : (doubt : Bool) (p : DeviceState) (q : Polled) → doubt ≡ true →
    end_at (behind (after_loss (at_log p q doubt))).step ≡ Some Silent
silent_by true p q is = refl
silent_by false p q is = absurd (cc)

pub ends_silent : (p : PollerAs) (q : Polled) → IsPolling p q → p.poll.doubt ≡ true → end_at (behind (after_loss p.poll)).step ≡ Some Silent
ends_silent p q on =
    by_log (λ (d : DeviceState). d.doubt ≡ true → end_at (behind (after_loss d)).step ≡ Some Silent) p q on (silent_by p.poll.doubt p.poll q)

-- the next question is asked once
doubted : (s : Stage) (t : Transactions) (end : Option DeviceEnd) → vain true s t (doing.Tells end) ≤ 1 + behind_lost true s
doubted s t None = omega arith
doubted s t (Some why) = omega arith

-- and behind it another one only where it is how many elements its list has, which is asked behind the list
counted : (c o : Bool) → (c ≡ true → o ≡ true) → 1 + (if c then 1 else 0) ≤ (if o then 2 else 1)
counted true true so = omega arith
counted true false so = absurd (let e : false ≡ true = so refl in cc)
counted false true so = omega arith
counted false false so = omega arith

once : (c : Bool) → (c ≡ true → ⊥) → 1 + (if c then 1 else 0) ≤ 1
once true never = absurd (never refl)
once false never = omega arith

-- the list and its count are two stages
not_both : (s : Stage) → is_objects s ≡ true → is_count s ≡ true → ⊥
not_both stage.Objects is also = cc
not_both other is also = cc

lost_less : (old : PollerAs) (new : PollerAs) → Settled (after_loss old.poll) old new →
    left_of new ≤ behind_lost old.poll.doubt old.poll.stage
lost_less old new s = by old.poll.doubt refl
  where
    u : Turned
    u = behind (after_loss old.poll)

    end : Option DeviceEnd
    end = end_at u.step

    on : Passes old.poll.doubt old.poll.stage u
    on = passes old.poll

    told : left_of new ≡ vain true u.device.stage new.transactions (doing.Tells end)
    told = ap (λ (d : DeviceState). vain d.doubt d.stage new.transactions new.doing) s.poll
        ∙ ap (λ (b : Bool). vain b u.device.stage new.transactions new.doing) on.doubt
        ∙ ap (vain true u.device.stage new.transactions) s.doing ∙ vain_with true u.device.stage new.transactions end s.told

    less : left_of new ≤ 1 + behind_lost true u.device.stage
    less = let most = doubted u.device.stage new.transactions end in omega (arith, told, most)

    in_doubt : (c : Bool) → is_count old.poll.stage ≡ c → old.poll.doubt ≡ true → left_of new ≤ (if c then 1 else 0)
    in_doubt true counts at =
        let most = once (is_count u.device.stage) (λ also. not_both old.poll.stage (on.count also) counts) in omega (arith, less, most)
    in_doubt false counts at =
        let none : vain true u.device.stage new.transactions (doing.Tells end) ≡ 0 =
        ap (λ (o : Option DeviceEnd). vain true u.device.stage new.transactions (doing.Tells o)) (on.silent at counts) in
        omega (arith, told, none)

    by : (b : Bool) → old.poll.doubt ≡ b → left_of new ≤ behind_lost b old.poll.stage
    by false at = let most = counted (is_count u.device.stage) (is_objects old.poll.stage) on.count in omega (arith, less, most)
    by true at = in_doubt (is_count old.poll.stage) refl at

-- ---- what it wants

lost_met : (p : PollerAs) → AsksOn p.poll → lost_of p ≡ after_loss p.poll
lost_met p (request, asks, met) = ap (λ (b : Bool). if b then after_i_am p.poll None else after_loss p.poll) (ap is_who_is asks)

settled_on : (old new : PollerAs) → Settled (after_loss old.poll) old new → IsOn new
settled_on old new s =
    let u : Turned = behind (after_loss old.poll) in
    let e : end_of new.doing ≡ end_at u.step = ap end_of s.doing ∙ end_with (end_at u.step) s.told in
    subst (λ (p : DeviceState). GoesMet (end_of new.doing) p) (sym s.poll)
    (subst (λ (o : Option DeviceEnd). GoesMet o u.device) (sym e) (passes old.poll).on)

gives_less : (what : Doing) (old : PollerAs) (wanted : Next) (new : PollerAs) → old.doing ≡ what → Unheard what → IsOn old →
    GoesMet (end_of what) old.poll → GivesBy what old wanted new → Less old (is_send wanted) new (vain old.poll.doubt old.poll.stage old.transactions what)
gives_less doing.Asks old wanted new at unheard is_on (request, asks, met) gives =
    asked_less old wanted new request (request, asks, met) (subst (λ (x : Question). AsksNext x old wanted new) asks gives)
gives_less (doing.Resends datagram) old (next.Send octets to) new at unheard is_on on (o, t, is) =
    let e : left_of new ≡ waits_left old.poll.doubt old.poll.stage old.transactions = ap left_of is in record {
      on = let P : PollerAs → Type 0 = IsOn in subst P (sym is) on;
      unheard = let P : PollerAs → Type 0 = λ p. Unheard p.doing in subst P (sym is) tt;
      less = omega (arith, e);
    }
gives_less (doing.Resends datagram) old wanted new at unheard is_on on gives = absurd gives
gives_less doing.Waits old wanted new at unheard is_on on (w, is) =
    let e : left_of new ≡ waits_left old.poll.doubt old.poll.stage old.transactions =
    ap left_of is ∙ ap (vain old.poll.doubt old.poll.stage old.transactions) at in
    let none : tally (is_send wanted) ≡ 0 = ap (λ (w : Next). tally (is_send w)) w in record {
      on = let P : PollerAs → Type 0 = IsOn in subst P (sym is) is_on;
      unheard = let P : PollerAs → Type 0 = λ p. Unheard p.doing in subst P (sym is) (subst Unheard (sym at) tt);
      less = omega (arith, e, none);
    }
gives_less (doing.Hears came) old wanted new at unheard is_on on gives = absurd unheard
gives_less doing.Loses old (next.Keep puts) new at unheard is_on on settles =
    let s : Settled (after_loss old.poll) old new = settled (after_loss old.poll) old puts.items new
    (subst (λ (t : Turned). Settles t old puts.items new) (lost_met old on) settles) in
    let less = lost_less old new s in record {
      on = settled_on old new s;
      unheard = let P : Doing → Type 0 = Unheard in subst P (sym s.doing) (unheard_with (end_at (behind (after_loss old.poll)).step) s.told);
      less = omega (arith, less);
    }
gives_less doing.Loses old wanted new at unheard is_on on gives = absurd gives
gives_less (doing.Tells end) old wanted new at unheard is_on on gives = tells_less old.rows.lines end old wanted new on gives
gives_less (doing.Ended why) old wanted new at unheard is_on on (w, is) =
    let e : left_of new ≡ 0 = ap left_of is ∙ ap (vain old.poll.doubt old.poll.stage old.transactions) at in
    let none : tally (is_send wanted) ≡ 0 = ap (λ (w : Next). tally (is_send w)) w in record {
      on = let P : PollerAs → Type 0 = IsOn in subst P (sym is) is_on;
      unheard = let P : PollerAs → Type 0 = λ p. Unheard p.doing in subst P (sym is) (subst Unheard (sym at) tt);
      less = omega (arith, e, none);
    }

-- ---- no answer in time

timed_out : (p : PollerAs) (o : Option Pending) → AsksOn p.poll → p.poll.doubt ≡ false →
    Less p false (without_answer p o) (repeats_left p.transactions.retries o + behind_lost false p.poll.stage)
timed_out p o on sure = at o
  where
    lost : behind_lost p.poll.doubt p.poll.stage ≡ behind_lost false p.poll.stage
    lost = ap (λ (b : Bool). behind_lost b p.poll.stage) sure

    at : (o : Option Pending) → Less p false (without_answer p o) (repeats_left p.transactions.retries o + behind_lost false p.poll.stage)
    at None = record { on = on; unheard = tt; less = omega (arith, lost) }
    at (Some request) = by (nat_le p.transactions.retries request.repeats) refl
      where
        again : Transactions
        again = record p.transactions { pending = Some (record request { repeats = request.repeats + 1 }) }

        by : (b : Bool) → nat_le p.transactions.retries request.repeats ≡ b →
            Less p false (if b then given_up p else record p { transactions = again; doing = doing.Resends request.request })
            ((p.transactions.retries - request.repeats) + behind_lost false p.poll.stage)
        by true more = record { on = on; unheard = tt; less = omega (arith, lost) }
        by false more =
            let less = leb-false p.transactions.retries request.repeats more in
            let waits : waits_left p.poll.doubt p.poll.stage again ≡ waits_left false p.poll.stage again =
            ap (λ (b : Bool). waits_left b p.poll.stage again) sure in
            record { on = on; unheard = tt; less = omega (arith, waits, less) }

missed_by : (doubt : Bool) (p : PollerAs) → AsksOn p.poll → p.poll.doubt ≡ doubt →
    Less p false (if doubt then given_up p else without_answer p p.transactions.pending) (waits_left doubt p.poll.stage p.transactions)
missed_by true p on is =
    let same : behind_lost p.poll.doubt p.poll.stage ≡ behind_lost true p.poll.stage = ap (λ (b : Bool). behind_lost b p.poll.stage) is in
    record { on = on; unheard = tt; less = omega (arith, same) }
missed_by false p on is = timed_out p p.transactions.pending on is

missed_met : (p : PollerAs) → AsksOn p.poll →
    missed p ≡ (if p.poll.doubt then given_up p else without_answer p p.transactions.pending)
missed_met p (request, asks, met) =
    ap (λ (b : Bool). if b then sought_again p else (if p.poll.doubt then given_up p else without_answer p p.transactions.pending)) (ap is_who_is asks)

waits_is : (what : Doing) → is_waiting what ≡ true → what ≡ doing.Waits
waits_is doing.Waits is = refl
waits_is doing.Asks is = absurd (cc)
waits_is (doing.Resends datagram) is = absurd (cc)
waits_is (doing.Hears came) is = absurd (cc)
waits_is doing.Loses is = absurd (cc)
waits_is (doing.Tells end) is = absurd (cc)
waits_is (doing.Ended why) is = absurd (cc)

missed_less : (p : PollerAs) → AsksOn p.poll → is_waiting p.doing ≡ true → Less p false (missed p) (left_of p)
missed_less p on waits =
    let at : p.doing ≡ doing.Waits = waits_is p.doing waits in
    let same : vain p.poll.doubt p.poll.stage p.transactions doing.Waits ≡ left_of p = ap (vain p.poll.doubt p.poll.stage p.transactions) (sym at) in
    subst (λ (n : ℕ). Less p false (missed p) n) same
    (subst (λ (x : PollerAs). Less p false x (waits_left p.poll.doubt p.poll.stage p.transactions)) (sym (missed_met p on)) (missed_by p.poll.doubt p on refl))

-- ---- a run

waiting_on : (what : Doing) (p : DeviceState) → is_waiting what ≡ true → GoesMet (end_of what) p → AsksOn p
waiting_on doing.Waits p is on = on
waiting_on doing.Asks p is on = absurd (cc)
waiting_on (doing.Resends datagram) p is on = absurd (cc)
waiting_on (doing.Hears came) p is on = absurd (cc)
waiting_on doing.Loses p is on = absurd (cc)
waiting_on (doing.Tells end) p is on = absurd (cc)
waiting_on (doing.Ended why) p is on = absurd (cc)

run_less : (old : PollerAs) (run : List Happening) (new : PollerAs) → IsOn old → Unheard old.doing → Runs old run new → IsUnanswered run →
    left_of new + count_by is_sent run ≤ left_of old
run_less old [] new on unheard is none = let e : left_of new ≡ left_of old = ap left_of is in omega (arith, e)
run_less old (Lent ids ∷ run) new on unheard (mid, is, more) none =
    let e : left_of mid ≡ left_of old = ap left_of is in
    let P : PollerAs → Type 0 = IsOn in
    let Q : PollerAs → Type 0 = λ x. Unheard x.doing in
    let rest = run_less mid run new (subst P (sym is) on) (subst Q (sym is) unheard) more none in
    omega (arith, e, rest, one_more (Lent ids) run)
run_less old (Wanted wanted ∷ run) new on unheard (mid, gives, more) none =
    let l : Less old (is_send wanted) mid (left_of old) = gives_less old.doing old wanted mid refl unheard on on gives in
    let rest = run_less mid run new l.on l.unheard more none in
    omega (arith, l.less, rest, one_more (Wanted wanted) run)
run_less old (Answered from datagram now ∷ run) new on unheard runs none = absurd none
run_less old (Missed ∷ run) new on unheard (mid, (waits, is), more) none =
    let P : PollerAs → Type 0 = λ x. Less old false x (left_of old) in
    let l : Less old false mid (left_of old) = subst P (sym is) (missed_less old (waiting_on old.doing old.poll waits on) waits) in
    let rest = run_less mid run new l.on l.unheard more none in
    omega (arith, l.less, rest, one_more Missed run)

asks_met : (p : DeviceState) (question : Question) → asked_of_device p ≡ question → IsMet p.stage → IsAsking question → AsksOn p
asks_met p (Confirmed request) asks met is = (request, asks, met)
asks_met p WhoIs asks met is = absurd (seeks_first p.stage asks met)
  where
    seeks_first : (s : Stage) → question_at p s ≡ WhoIs → IsMet s → ⊥
    seeks_first stage.IAm asks met = met
    seeks_first stage.Instance asks met = met
    seeks_first stage.Name asks met = met
    seeks_first stage.Between asks met = met
    seeks_first stage.Ended asks met = met
    seeks_first stage.Log asks met = by p.polled asks
      where
        by : (o : Option Polled) → asks_log o ≡ WhoIs → ⊥
        by None asks = cc
        by (Some q) asks = cc
    seeks_first other asks met = cc
asks_met p Nothing asks met is = absurd is

pub waits_once : WaitsOnce
waits_once old new run met asking asks more none =
    let P : Doing → Type 0 = Unheard in
    let Q : Doing → Type 0 = λ d. GoesMet (end_of d) old.poll in
    let on : IsOn old = subst Q (sym asks) (asks_met old.poll (asked_of_device old.poll) refl met asking) in
    let less = run_less old run new on (subst P (sym asks) tt) more none in
    let at : left_of old ≡ sends_in_vain old.poll.doubt old.poll.stage old.transactions.retries = ap (vain old.poll.doubt old.poll.stage old.transactions) asks in
    omega (arith, less, at)
