-- A step of a device's poll while its logs are polled, and behind its end.
use Rattle.std.proofs.Common.{◌≡◌, ◌∙◌, inl, inr, ℕ, Bool, true, false, if◌then◌else◌, List}
use Rattle.std.proofs.Common.{◌++◌, Option, None, Some, ap, sym, refl, subst}
use Rattle.bac_wire.specs.Stamp.{CivilTime}
use Rattle.bac_archive.specs.declared.row.Put.{Put}
use Rattle.bac_poll.specs.Poll.{asked_by_poll}
use Rattle.bac_device_poll.specs.Laws.{ended_in, left, not_asked_in}
use Rattle.bac_device_poll.specs.Identity.{after_i_am}
use Rattle.bac_device_poll.specs.Loss.{after_loss}
use Rattle.bac_device_poll.specs.Poll.{Takes, asked_of_device, asks_log, question_at}
use Rattle.bac_device_poll.specs.Rejects.{after_reject}
use Rattle.bac_device_poll.specs.State.{DeviceState}
use Rattle.bac_device_poll.specs.Turns.{Turned}
use Rattle.bac_answers.specs.declared.reject.NoRoute.{NoRoute}
use Rattle.bac_device_poll.specs.declared.question.Question.TheVariants.{Confirmed}
use Rattle.bac_device_poll.specs.declared.stage.Stage.{Stage}
use Rattle.bac_device_poll.specs.declared.stage.Stage.TheVariants as stage
use Rattle.bac_device_poll.specs.declared.task.Polled.{Polled}
use Rattle.bac_device_poll.specs.declared.turn.DeviceEnd.{DeviceEnd}
use Rattle.bac_device_poller.specs.Poller.{Comes, ComesBy, PollerAs, Settles, doing_with, end_at, given_up, is_who_is}
use Rattle.bac_device_poller.specs.Poller.{lost_of, missed, seeks, sought_again, without_answer}
use Rattle.bac_device_poller.specs.Silence.{ComesOfLog, EndsAsTold, IsPolling, asks_next, end_of}
use Rattle.bac_device_poller.specs.declared.doing.Came.{Came}
use Rattle.bac_device_poller.proofs.LogTurns.{Polls, at_log, behind, came, lost, rejected}

-- ---- what is asked while logs are polled

-- what holds of a device that is polled so, whatever else is known of it
pub by_log : (P : DeviceState → Type 0) (p : PollerAs) (q : Polled) → IsPolling p q → P (at_log p.poll q p.poll.doubt) → P p.poll
by_log P p q (at, is) x =
    let F : Stage → Option Polled → Type 0 = λ s o. P (record p.poll { stage = s; polled = o }) in
    subst (λ (s : Stage). F s p.poll.polled) (sym at) (subst (λ (o : Option Polled). F stage.Log o) (sym is) x)

pub asked_is : (p : PollerAs) (q : Polled) → IsPolling p q → asked_of_device p.poll ≡ Confirmed (asked_by_poll q.poll)
asked_is p q (at, is) = ap (λ (s : Stage). question_at p.poll s) at ∙ ap asks_log is

pub seeks_not : (p : PollerAs) (q : Polled) → IsPolling p q → seeks p ≡ false
seeks_not p q on = ap is_who_is (asked_is p q on)

pub lost_is : (p : PollerAs) (q : Polled) → IsPolling p q → lost_of p ≡ after_loss p.poll
lost_is p q on = ap (λ (b : Bool). if b then after_i_am p.poll None else after_loss p.poll) (seeks_not p q on)

pub missed_is : (p : PollerAs) (q : Polled) → IsPolling p q →
    missed p ≡ (if p.poll.doubt then given_up p else without_answer p p.transactions.pending)
missed_is p q on =
    ap (λ (b : Bool). if b then sought_again p else (if p.poll.doubt then given_up p else without_answer p p.transactions.pending)) (seeks_not p q on)

pub comes_is : (p : PollerAs) (q : Polled) (c : Came) (t : Turned) → IsPolling p q → Comes (seeks p) p c t → Takes p.poll c.datagram c.at t
comes_is p q c t on comes = subst (λ (b : Bool). Comes b p c t) (seeks_not p q on) comes

-- ---- what its turns make of it

pub loss : (p : PollerAs) (q : Polled) → IsPolling p q → Polls p.poll true (after_loss p.poll)
loss p q on = by_log (λ (d : DeviceState). Polls d true (after_loss d)) p q on (lost p.poll q p.poll.doubt)

pub hears : (p : PollerAs) (q : Polled) (datagram : List ℕ) (now : CivilTime) (t : Turned) → IsPolling p q →
    Takes p.poll datagram now t → Polls p.poll false t
hears p q datagram now t on =
    by_log (λ (d : DeviceState). Takes d datagram now t → Polls d false t) p q on (came p.poll q p.poll.doubt datagram now t)

pub rejects : (p : PollerAs) (q : Polled) (reject : NoRoute) → IsPolling p q → Polls p.poll p.poll.doubt (after_reject p.poll reject)
rejects p q reject on = by_log (λ (d : DeviceState). Polls d d.doubt (after_reject d reject)) p q on (rejected p.poll q p.poll.doubt reject)

-- whether the next question is in doubt behind an answer, or a rejection
abbrev pub doubt_behind : Option NoRoute → (was : Bool) → Bool
doubt_behind None was = false
doubt_behind (Some reject) was = was

pub comes_polls : (o : Option NoRoute) (p : PollerAs) (q : Polled) (c : Came) (t : Turned) → IsPolling p q → ComesBy o p c t →
    Polls p.poll (doubt_behind o p.poll.doubt) t
comes_polls None p q c t on comes = hears p q c.datagram c.at t on (comes_is p q c t on comes)
comes_polls (Some reject) p q c t on is = subst (Polls p.poll p.poll.doubt) (sym is) (rejects p q reject on)

-- and what is put and told of that
pub record Settled (t : Turned) (old new : PollerAs) : Type 0 where
  pub poll : new.poll ≡ (behind t).device
  pub told : Bool
  pub doing : new.doing ≡ doing_with (end_at (behind t).step) told
  pub transactions : new.transactions ≡ old.transactions

pub settled : (t : Turned) (old : PollerAs) (puts : List Put) (new : PollerAs) → Settles t old puts new → Settled t old new
settled t old puts new (mid, takes, (are, is)) = record {
  poll = ap (λ (x : PollerAs). x.poll) is;
  told = _;
  doing = ap (λ (x : PollerAs). x.doing) is;
  transactions = ap (λ (x : PollerAs). x.transactions) is;
}

pub end_with : (end : Option DeviceEnd) (told : Bool) → end_of (doing_with end told) ≡ end
end_with None true = refl
end_with None false = refl
end_with (Some why) true = refl
end_with (Some why) false = refl

pub asks_with : (end : Option DeviceEnd) (told : Bool) → end ≡ None → asks_next (doing_with end told) ≡ true
asks_with None true is = refl
asks_with None false is = refl
asks_with (Some why) told is = absurd (cc)

-- which logs are left
pub ended_are_out : (old new : PollerAs) (q : Polled) (t : Turned) (puts : List Put) → IsPolling old q → ComesOfLog old.poll t →
    Settles t old puts new → left old.poll ≡ ended_in t.log old.poll.polled ++ (not_asked_in t.entries ++ left new.poll)
ended_are_out old new q t puts on comes settles =
    by comes ∙ ap (λ (d : DeviceState). ended_in t.log old.poll.polled ++ (not_asked_in t.entries ++ left d)) (sym (settled t old puts new settles).poll)
  where
    by : ComesOfLog old.poll t → left old.poll ≡ ended_in t.log old.poll.polled ++ (not_asked_in t.entries ++ left (behind t).device)
    by (inl (inl (datagram, now, takes))) = (hears old q datagram now t on takes).left
    by (inl (inr is)) = (subst (Polls old.poll true) (sym is) (loss old q on)).left
    by (inr (reject, is)) = (subst (Polls old.poll old.poll.doubt) (sym is) (rejects old q reject on)).left

pub ends_as_told : EndsAsTold
ends_as_told old new t puts settles =
    let s : Settled t old new = settled t old puts new settles in ap end_of s.doing ∙ end_with (end_at (behind t).step) s.told
