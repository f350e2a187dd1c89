-- Runs of a device's poll: behind its end, and through its logs.
use Rattle.std.proofs.Common.{◌≡◌, ◌∙◌, ℕ, ◌+◌, Bool, true, false, cond, List, [], ◌∷◌, ◌++◌, count_by, nat_le, nat_lt}
use Rattle.std.proofs.Common.{if◌then◌else◌}
use Rattle.std.proofs.Common.{Option, None, Some, ap, sym, refl, subst, append_assoc, arith}
use Rattle.std.proofs.lemmas.List.Sums.{sum_by-cons}
use Rattle.bac_wire.specs.Primitive.{Id}
use Rattle.bac_wire.specs.Stamp.{CivilTime}
use Rattle.bac_link.specs.declared.transactions.Pending.{Pending}
use Rattle.bac_drive.specs.declared.machine.Next.{Next}
use Rattle.bac_drive.specs.declared.machine.Next.TheVariants as next
use Rattle.bac_poll.specs.Poll.{asked_by_poll}
use Rattle.bac_device_poll.specs.Laws.{ended_in, left, not_asked_in}
use Rattle.bac_device_poll.specs.Loss.{after_loss}
use Rattle.bac_device_poll.specs.State.{DeviceState}
use Rattle.bac_device_poll.specs.Turns.{Turned}
use Rattle.bac_device_poll.specs.Way.{who_is_octets}
use Rattle.bac_device_poll.specs.declared.question.Question.{Question}
use Rattle.bac_device_poll.specs.declared.question.Question.TheVariants.{Confirmed}
use Rattle.bac_device_poll.specs.declared.task.Polled.{Polled}
use Rattle.bac_device_poll.specs.declared.turn.DeviceEnd.{DeviceEnd}
use Rattle.bac_device_poller.specs.Poller.{AsksNext, GivesBy, PollerAs, Settles, TellsNext, end_at, is_answer}
use Rattle.bac_device_poller.specs.Poller.{given_up, is_none_told, is_waiting, missed, seeks, sought_again, without_answer}
use Rattle.bac_device_poller.specs.Silence.{AsksNoMore, Answered, Happening, Happens, IsPolling, Lent, Missed}
use Rattle.bac_device_poller.specs.Silence.{PollsOnce, Runs, Wanted, end_of, is_sent}
use Rattle.bac_device_poller.specs.Telling.{LineAs}
use Rattle.bac_device_poller.specs.declared.doing.Doing.{Doing}
use Rattle.bac_device_poller.specs.declared.doing.Doing.TheVariants as doing
use Rattle.bac_device_poller.proofs.LogTurns.{GoesOn, Polls, behind}
use Rattle.bac_device_poll.specs.Rejects.{reject_by}
use Rattle.bac_answers.specs.declared.reject.NoRoute.{NoRoute}
use Rattle.bac_device_poller.proofs.Silence.{Settled, asked_is, comes_polls, doubt_behind, end_with, loss, lost_is, settled}
use Rattle.bac_device_poller.proofs.SilentSteps.{Sound, Stays, deaf, heard_is, new_sound, not_both, runs_sound}
use Rattle.bac_device_poller.proofs.SilentSteps.{sound_step, stays}

-- ---- behind its end

-- so many of one
abbrev pub tally : Bool → ℕ
tally b = cond b 1 0

pub one_more : (h : Happening) (run : List Happening) → count_by is_sent (h ∷ run) ≡ tally (is_sent h) + count_by is_sent run
one_more h run = sum_by-cons (λ (x : Happening). tally (is_sent x)) h run

ended_runs : (old : PollerAs) (run : List Happening) (new : PollerAs) (why : DeviceEnd) → Sound old → end_of old.doing ≡ Some why →
    Runs old run new → (count_by is_sent run ≡ 0) × (new.poll ≡ old.poll) × (end_of new.doing ≡ Some why)
ended_runs old [] new why sound end is =
    (refl, ap (λ (x : PollerAs). x.poll) is, ap (λ (x : PollerAs). end_of x.doing) is ∙ end)
ended_runs old (h ∷ run) new why sound end (mid, happens, more) =
    let s : Stays old h mid = stays old h mid why sound end happens in
    let r = ended_runs mid run new why (sound_step old h mid sound happens) (s.end ∙ end) more in
    let none : tally (is_sent h) ≡ 0 = ap tally s.sent in
    (omega (arith, one_more h run, none, r.0), r.1 ∙ s.poll, r.2)

pub asks_no_more : AsksNoMore
asks_no_more old mid new before run why is_new first end more =
    ended_runs mid run new why (runs_sound old before mid (new_sound old is_new) first) end more

-- ---- through its logs

-- its logs are polled, unless nothing more is asked
abbrev pub IsOn : PollerAs → Type 0
IsOn p = GoesOn (end_of p.doing) p.poll

-- those that are left are the last of those that were
abbrev IsLast : List Id → List Id → Type 0
IsLast old new = (front : List Id) × (old ≡ front ++ new)

-- what a step leaves
pub record Goes (old new : PollerAs) : Type 0 where
  pub on : IsOn new
  pub last : IsLast (left old.poll) (left new.poll)

same_left : (old new : PollerAs) → new.poll ≡ old.poll → IsLast (left old.poll) (left new.poll)
same_left old new is = ([], ap left (sym is))

-- a turn of the log that is polled
pub settled_on : (t : Turned) (old new : PollerAs) → GoesOn (end_at (behind t).step) (behind t).device → Settled t old new → IsOn new
settled_on t old new goes s =
    let e : end_of new.doing ≡ end_at (behind t).step = ap end_of s.doing ∙ end_with (end_at (behind t).step) s.told in
    subst (λ (p : DeviceState). GoesOn (end_of new.doing) p) (sym s.poll) (subst (λ (o : Option DeviceEnd). GoesOn o (behind t).device) (sym e) goes)

turned : (t : Turned) (doubt : Bool) (old new : PollerAs) → Polls old.poll doubt t → Settled t old new → Goes old new
turned t doubt old new polls s = record {
  on = settled_on t old new polls.goes s;
  last = (
    ended_in t.log old.poll.polled ++ not_asked_in t.entries,
    polls.left ∙ sym (append_assoc (ended_in t.log old.poll.polled) (not_asked_in t.entries) (left (behind t).device))
        ∙ ap (λ (p : DeviceState). (ended_in t.log old.poll.polled ++ not_asked_in t.entries) ++ left p) (sym s.poll),
  );
}

asks_on : (old : PollerAs) (wanted : Next) (new : PollerAs) (q : Polled) → IsPolling old q →
    AsksNext (Confirmed (asked_by_poll q.poll)) old wanted new → Goes old new
asks_on old (next.Send octets to) new q on (o, t, is) = record {
  on = let P : PollerAs → Type 0 = IsOn in subst P (sym is) (q, on.0, on.1);
  last = same_left old new (ap (λ (x : PollerAs). x.poll) is);
}
asks_on old wanted new q on asks = absurd asks

tells_on : (lines : List LineAs) (end : Option DeviceEnd) (old : PollerAs) (wanted : Next) (new : PollerAs) → GoesOn end old.poll →
    TellsNext lines end old wanted new → Goes old new
tells_on [] end old wanted new on (w, is) = record {
  on = let P : PollerAs → Type 0 = IsOn in subst P (sym is) (subst (λ (o : Option DeviceEnd). GoesOn o old.poll) (sym (end_with end true)) on);
  last = same_left old new (ap (λ (x : PollerAs). x.poll) is);
}
tells_on (line ∷ lines) end old wanted new on (w, is) = record {
  on = let P : PollerAs → Type 0 = IsOn in subst P (sym is) (subst (λ (o : Option DeviceEnd). GoesOn o old.poll) (sym (end_with end (is_none_told lines))) on);
  last = same_left old new (ap (λ (x : PollerAs). x.poll) is);
}

stays_on : (old new : PollerAs) → IsOn old → new ≡ old → Goes old new
stays_on old new on is = record {
  on = let P : PollerAs → Type 0 = IsOn in subst P (sym is) on;
  last = same_left old new (ap (λ (x : PollerAs). x.poll) is);
}

pub gives_on : (what : Doing) (old : PollerAs) (wanted : Next) (new : PollerAs) → IsOn old → GoesOn (end_of what) old.poll →
    GivesBy what old wanted new → Goes old new
gives_on doing.Asks old wanted new is_on (q, at, polled) gives =
    asks_on old wanted new q (at, polled) (subst (λ (x : Question). AsksNext x old wanted new) (asked_is old q (at, polled)) gives)
gives_on (doing.Resends datagram) old (next.Send octets to) new is_on on (o, t, is) = record {
  on = let P : PollerAs → Type 0 = IsOn in subst P (sym is) on;
  last = same_left old new (ap (λ (x : PollerAs). x.poll) is);
}
gives_on (doing.Resends datagram) old wanted new is_on on gives = absurd gives
gives_on doing.Waits old wanted new is_on on (w, is) = stays_on old new is_on is
gives_on (doing.Hears c) old (next.Keep puts) new is_on (q, at, polled) (t, comes, settles) =
    let o : Option NoRoute = reject_by old.way c.from c.datagram in
    turned t (doubt_behind o old.poll.doubt) old new (comes_polls o old q c t (at, polled) comes) (settled t old puts.items new settles)
gives_on (doing.Hears c) old wanted new is_on on gives = absurd gives
gives_on doing.Loses old (next.Keep puts) new is_on (q, at, polled) settles =
    turned (after_loss old.poll) true old new (loss old q (at, polled))
    (settled (after_loss old.poll) old puts.items new (subst (λ (t : Turned). Settles t old puts.items new) (lost_is old q (at, polled)) settles))
gives_on doing.Loses old wanted new is_on on gives = absurd gives
gives_on (doing.Tells end) old wanted new is_on on gives = tells_on old.rows.lines end old wanted new on gives
gives_on (doing.Ended why) old wanted new is_on on (w, is) = stays_on old new is_on is

answered_on : (old : PollerAs) (from datagram : List ℕ) (now : CivilTime) (new : PollerAs) → Sound old → IsOn old →
    Happens old (Answered from datagram now) new → (o : Option DeviceEnd) → end_of old.doing ≡ o → GoesOn o old.poll → Goes old new
answered_on old from datagram now new sound is_on (fits, is) None end on =
    let e = is ∙ heard_is old from datagram now fits in record {
      on = let P : PollerAs → Type 0 = IsOn in subst P (sym e) on;
      last = same_left old new (ap (λ (x : PollerAs). x.poll) e);
    }
answered_on old from datagram now new sound is_on (fits, is) (Some why) end on =
    not_both (is_answer old from datagram) fits (deaf old why from datagram sound end)

-- no answer in time
pub missed_poll : (p : PollerAs) → (missed p).poll ≡ p.poll
missed_poll p = by (seeks p) p.poll.doubt p.transactions.pending
  where
    sought : (b : Bool) → (if b then record p { sought = p.sought + 1; doing = doing.Resends (who_is_octets p.way.route) } else given_up p).poll ≡ p.poll
    sought true = refl
    sought false = refl

    again : (b : Bool) (r : Pending) → (if b then given_up p else record p {
      transactions = record p.transactions { pending = Some (record r { repeats = r.repeats + 1 }) };
      doing = doing.Resends r.request;
    }).poll ≡ p.poll
    again true r = refl
    again false r = refl

    by : (seeks doubt : Bool) (o : Option Pending) →
        (if seeks then sought_again p else (if doubt then given_up p else without_answer p o)).poll ≡ p.poll
    by true doubt o = sought (nat_lt p.sought p.retries)
    by false true o = refl
    by false false None = refl
    by false false (Some r) = again (nat_le p.transactions.retries r.repeats) r

pub missed_end : (p : PollerAs) → end_of (missed p).doing ≡ None
missed_end p = by (seeks p) p.poll.doubt p.transactions.pending
  where
    sought : (b : Bool) → end_of (if b then record p { sought = p.sought + 1; doing = doing.Resends (who_is_octets p.way.route) } else given_up p).doing ≡ None
    sought true = refl
    sought false = refl

    again : (b : Bool) (r : Pending) → end_of (if b then given_up p else record p {
      transactions = record p.transactions { pending = Some (record r { repeats = r.repeats + 1 }) };
      doing = doing.Resends r.request;
    }).doing ≡ None
    again true r = refl
    again false r = refl

    by : (seeks doubt : Bool) (o : Option Pending) →
        end_of (if seeks then sought_again p else (if doubt then given_up p else without_answer p o)).doing ≡ None
    by true doubt o = sought (nat_lt p.sought p.retries)
    by false true o = refl
    by false false None = refl
    by false false (Some r) = again (nat_le p.transactions.retries r.repeats) r

waits_end : (what : Doing) → is_waiting what ≡ true → end_of what ≡ None
waits_end doing.Waits is = refl
waits_end doing.Asks is = absurd (cc)
waits_end (doing.Resends datagram) is = absurd (cc)
waits_end (doing.Hears came) is = absurd (cc)
waits_end doing.Loses is = absurd (cc)
waits_end (doing.Tells end) is = absurd (cc)
waits_end (doing.Ended why) is = absurd (cc)

pub missed_on : (p : PollerAs) → is_waiting p.doing ≡ true → IsOn p → IsOn (missed p)
missed_on p waits on =
    let one : GoesOn None p.poll = subst (λ (o : Option DeviceEnd). GoesOn o p.poll) (waits_end p.doing waits) on in
    let two : GoesOn (end_of (missed p).doing) p.poll = subst (λ (o : Option DeviceEnd). GoesOn o p.poll) (sym (missed_end p)) one in
    subst (λ (d : DeviceState). GoesOn (end_of (missed p).doing) d) (sym (missed_poll p)) two

goes : (old : PollerAs) (h : Happening) (new : PollerAs) → Sound old → IsOn old → Happens old h new → Goes old new
goes old (Lent ids) new sound on is = record {
  on = let P : PollerAs → Type 0 = IsOn in subst P (sym is) on;
  last = same_left old new (ap (λ (x : PollerAs). x.poll) is);
}
goes old (Wanted wanted) new sound on gives = gives_on old.doing old wanted new on on gives
goes old (Answered from datagram now) new sound on happens = answered_on old from datagram now new sound on happens (end_of old.doing) refl on
goes old Missed new sound on (waits, is) = record {
  on = let P : PollerAs → Type 0 = IsOn in subst P (sym is) (missed_on old waits on);
  last = same_left old new (ap (λ (x : PollerAs). x.poll) is ∙ missed_poll old);
}

-- both in front
joined : (a b c : List Id) → IsLast a b → IsLast b c → IsLast a c
joined a b c (one, first) (two, second) =
    (one ++ two, first ∙ ap (λ (l : List Id). one ++ l) second ∙ sym (append_assoc one two c))

run_goes : (old : PollerAs) (run : List Happening) (new : PollerAs) → Sound old → IsOn old → Runs old run new →
    IsLast (left old.poll) (left new.poll)
run_goes old [] new sound on is = same_left old new (ap (λ (x : PollerAs). x.poll) is)
run_goes old (h ∷ run) new sound on (mid, happens, more) =
    let g : Goes old mid = goes old h mid sound on happens in
    joined (left old.poll) (left mid.poll) (left new.poll) g.last (run_goes mid run new (sound_step old h mid sound happens) g.on more)

pub asks_on_log : (p : PollerAs) (q : Polled) → IsPolling p q → p.doing ≡ doing.Asks → IsOn p
asks_on_log p q (at, polled) asks = let P : Doing → Type 0 = λ d. GoesOn (end_of d) p.poll in subst P (sym asks) (q, at, polled)

pub polls_once : PollsOnce
polls_once old new q run on is_new more = run_goes old run new (new_sound old is_new) (asks_on_log old q on is_new.0) more
