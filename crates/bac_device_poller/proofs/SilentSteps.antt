-- What happens to a device's poll: what stays open, which logs are left, and that nothing comes behind its end.
use Rattle.std.proofs.Common.{◌≡◌, ◌∙◌, ℕ, ◌+◌, ◌&&◌, ◌||◌, nat_lt, nat_le, Bool, true, false, if◌then◌else◌, List, []}
use Rattle.std.proofs.Common.{◌∷◌, Option, None, Some, is_some, ap, sym, refl, subst}
use Rattle.std.specs.Str.{bytes_eq}
use Rattle.bac_wire.specs.Stamp.{CivilTime}
use Rattle.bac_link.specs.Transactions.{is_awaited}
use Rattle.bac_link.specs.declared.transactions.Pending.{Pending}
use Rattle.bac_link.specs.declared.transactions.Transactions.{Transactions}
use Rattle.bac_drive.specs.declared.machine.Next.{Next}
use Rattle.bac_drive.specs.declared.machine.Next.TheVariants as next
use Rattle.bac_device_poll.specs.Logs.{after_end}
use Rattle.bac_device_poll.specs.Poll.{asked_of_device}
use Rattle.bac_device_poll.specs.Rejects.{reject_by}
use Rattle.bac_device_poll.specs.Turns.{Turned}
use Rattle.bac_device_poll.specs.Way.{i_am_by, who_is_octets}
use Rattle.bac_device_poll.specs.declared.question.Question.{Question}
use Rattle.bac_device_poll.specs.declared.question.Question.TheVariants.{Confirmed, Nothing, WhoIs}
use Rattle.bac_device_poll.specs.declared.turn.DeviceEnd.{DeviceEnd}
use Rattle.bac_device_poller.specs.Poller.{AsksNext, GivesBy, PollerAs, TellsNext, doing_with, end_at, given_up}
use Rattle.bac_device_poller.specs.Poller.{heard_by, hearing, is_answer, is_none_told, is_rejected, is_waiting, lost_of}
use Rattle.bac_device_poller.specs.Poller.{missed, seeks}
use Rattle.bac_device_poller.specs.Poller.{sought_again, without_answer}
use Rattle.bac_device_poller.specs.Silence.{Answered, Happening, Happens, IsNew, Lent, Missed}
use Rattle.bac_device_poller.specs.Silence.{Runs, Wanted, end_of, is_send, is_sent}
use Rattle.bac_device_poller.specs.Telling.{IsToldBy, LineAs}
use Rattle.bac_device_poller.specs.declared.doing.Doing.{Doing}
use Rattle.bac_device_poller.specs.declared.doing.Doing.TheVariants as doing
use Rattle.bac_device_poller.proofs.LogTurns.{behind}
use Rattle.bac_device_poller.proofs.Silence.{Settled, end_with, settled}

-- ---- what is open

-- a request is open only while it is waited for, or is to be sent again
abbrev pub OpenAt : Doing → Option Pending → Type 0
OpenAt doing.Waits o = Unit {0}
OpenAt (doing.Resends datagram) o = Unit {0}
OpenAt doing.Asks o = o ≡ None
OpenAt (doing.Hears came) o = o ≡ None
OpenAt doing.Loses o = o ≡ None
OpenAt (doing.Tells end) o = o ≡ None
OpenAt (doing.Ended why) o = o ≡ None

abbrev pub Sound : PollerAs → Type 0
Sound p = OpenAt p.doing p.transactions.pending

open_with : (end : Option DeviceEnd) (told : Bool) (o : Option Pending) → o ≡ None → OpenAt (doing_with end told) o
open_with None true o none = none
open_with None false o none = none
open_with (Some why) true o none = none
open_with (Some why) false o none = none

settled_sound : (t : Turned) (old new : PollerAs) → old.transactions.pending ≡ None → Settled t old new → Sound new
settled_sound t old new none s =
    let none_open : new.transactions.pending ≡ None = ap (λ (t : Transactions). t.pending) s.transactions ∙ none in
    let P : Doing → Type 0 = λ d. OpenAt d new.transactions.pending in
    subst P (sym s.doing) (open_with (end_at (behind t).step) s.told new.transactions.pending none_open)

asks_sound : (question : Question) (old : PollerAs) (wanted : Next) (new : PollerAs) → old.transactions.pending ≡ None →
    AsksNext question old wanted new → Sound new
asks_sound (Confirmed request) old (next.Send octets to) new none (o, t, is) = let P : PollerAs → Type 0 = Sound in subst P (sym is) tt
asks_sound (Confirmed request) old wanted new none asks = absurd asks
asks_sound WhoIs old (next.Send octets to) new none (o, t, is) = let P : PollerAs → Type 0 = Sound in subst P (sym is) tt
asks_sound WhoIs old wanted new none asks = absurd asks
asks_sound Nothing old (next.Keep puts) new none asks =
    settled_sound (after_end old.poll) old new none (settled (after_end old.poll) old puts.items new asks)
asks_sound Nothing old wanted new none asks = absurd asks

tells_sound : (lines : List LineAs) (end : Option DeviceEnd) (old : PollerAs) (wanted : Next) (new : PollerAs) →
    old.transactions.pending ≡ None → TellsNext lines end old wanted new → Sound new
tells_sound [] end old wanted new none (w, is) =
    let P : PollerAs → Type 0 = Sound in subst P (sym is) (open_with end true old.transactions.pending none)
tells_sound (line ∷ lines) end old wanted new none (w, is) =
    let P : PollerAs → Type 0 = Sound in subst P (sym is) (open_with end (is_none_told lines) old.transactions.pending none)

gives_sound : (what : Doing) (old : PollerAs) (wanted : Next) (new : PollerAs) → OpenAt what old.transactions.pending →
    Sound old → GivesBy what old wanted new → Sound new
gives_sound doing.Asks old wanted new none sound gives = asks_sound (asked_of_device old.poll) old wanted new none gives
gives_sound (doing.Resends datagram) old (next.Send octets to) new out sound (o, t, is) =
    let P : PollerAs → Type 0 = Sound in subst P (sym is) tt
gives_sound (doing.Resends datagram) old wanted new out sound gives = absurd gives
gives_sound doing.Waits old wanted new out sound (w, is) = let P : PollerAs → Type 0 = Sound in subst P (sym is) sound
gives_sound (doing.Hears came) old (next.Keep puts) new none sound (t, comes, settles) =
    settled_sound t old new none (settled t old puts.items new settles)
gives_sound (doing.Hears came) old wanted new none sound gives = absurd gives
gives_sound doing.Loses old (next.Keep puts) new none sound settles =
    settled_sound (lost_of old) old new none (settled (lost_of old) old puts.items new settles)
gives_sound doing.Loses old wanted new none sound gives = absurd gives
gives_sound (doing.Tells end) old wanted new none sound gives = tells_sound old.rows.lines end old wanted new none gives
gives_sound (doing.Ended why) old wanted new none sound (w, is) = let P : PollerAs → Type 0 = Sound in subst P (sym is) sound

timed_out : (p : PollerAs) (o : Option Pending) → Sound (without_answer p o)
timed_out p None = refl
timed_out p (Some request) = by (nat_le p.transactions.retries request.repeats)
  where
    by : (b : Bool) → Sound (if b then given_up p else record p {
      transactions = record p.transactions { pending = Some (record request { repeats = request.repeats + 1 }) };
      doing = doing.Resends request.request;
    })
    by true = refl
    by false = tt

sought_sound : (p : PollerAs) (b : Bool) → Sound (if b then record p { sought = p.sought + 1; doing = doing.Resends (who_is_octets p.way.route) } else given_up p)
sought_sound p true = tt
sought_sound p false = refl

missed_sound : (p : PollerAs) → Sound (missed p)
missed_sound p = by (seeks p) p.poll.doubt
  where
    by : (seeks doubt : Bool) → Sound (if seeks then sought_again p else (if doubt then given_up p else without_answer p p.transactions.pending))
    by true doubt = sought_sound p (nat_lt p.sought p.retries)
    by false true = refl
    by false false = timed_out p p.transactions.pending

-- what is heard
pub heard_is : (p : PollerAs) (from datagram : List ℕ) (now : CivilTime) → is_answer p from datagram ≡ true →
    heard_by from datagram now p ≡ hearing from datagram now p
heard_is p from datagram now fits = ap (λ (b : Bool). if b then hearing from datagram now p else p) fits

pub sound_step : (old : PollerAs) (h : Happening) (new : PollerAs) → Sound old → Happens old h new → Sound new
sound_step old (Lent ids) new sound is = let P : PollerAs → Type 0 = Sound in subst P (sym is) sound
sound_step old (Wanted wanted) new sound gives = gives_sound old.doing old wanted new sound sound gives
sound_step old (Answered from datagram now) new sound (fits, is) =
    let P : PollerAs → Type 0 = Sound in subst P (sym (is ∙ heard_is old from datagram now fits)) refl
sound_step old Missed new sound (waits, is) = let P : PollerAs → Type 0 = Sound in subst P (sym is) (missed_sound old)

pub runs_sound : (old : PollerAs) (run : List Happening) (new : PollerAs) → Sound old → Runs old run new → Sound new
runs_sound old [] new sound is = let P : PollerAs → Type 0 = Sound in subst P (sym is) sound
runs_sound old (h ∷ run) new sound (mid, happens, more) = runs_sound mid run new (sound_step old h mid sound happens) more

pub new_sound : (p : PollerAs) → IsNew p → Sound p
new_sound p (asks, none) = let P : Doing → Type 0 = λ d. OpenAt d p.transactions.pending in subst P (sym asks) none

-- ---- behind its end

ended_waits : (what : Doing) (why : DeviceEnd) → end_of what ≡ Some why → is_waiting what ≡ false
ended_waits doing.Waits why end = absurd (cc)
ended_waits doing.Asks why end = refl
ended_waits (doing.Resends datagram) why end = refl
ended_waits (doing.Hears came) why end = refl
ended_waits doing.Loses why end = refl
ended_waits (doing.Tells told) why end = refl
ended_waits (doing.Ended why2) why end = refl

ended_closed : (what : Doing) (why : DeviceEnd) (o : Option Pending) → end_of what ≡ Some why → OpenAt what o → o ≡ None
ended_closed doing.Waits why o end out = absurd (cc)
ended_closed doing.Asks why o end out = out
ended_closed (doing.Resends datagram) why o end out = absurd (cc)
ended_closed (doing.Hears came) why o end out = out
ended_closed doing.Loses why o end out = out
ended_closed (doing.Tells told) why o end out = out
ended_closed (doing.Ended why2) why o end out = out

never : (b : Bool) → (b && false) ≡ false
never true = refl
never false = refl

not_told : (seeks : Bool) (waits some from : Bool) (o : Option Pending) (datagram : List ℕ) → waits ≡ false → o ≡ None →
    (if seeks then waits && some else from && is_awaited o datagram) ≡ false
not_told true waits some from o datagram is none = ap (λ (b : Bool). b && some) is
not_told false waits some from o datagram is none = ap (λ (o : Option Pending). from && is_awaited o datagram) none ∙ never from

pub deaf : (p : PollerAs) (why : DeviceEnd) (from datagram : List ℕ) → Sound p → end_of p.doing ≡ Some why → is_answer p from datagram ≡ false
deaf p why from datagram sound end =
    let waits : is_waiting p.doing ≡ false = ended_waits p.doing why end in
    ap (λ (b : Bool). b || is_rejected p from datagram)
    (not_told (seeks p) (is_waiting p.doing) (is_some (i_am_by p.way from datagram)) (bytes_eq from p.way.peer) p.transactions.pending datagram
    waits (ended_closed p.doing why p.transactions.pending end sound))
    ∙ ap (λ (b : Bool). b && is_some (reject_by p.way from datagram)) waits

pub not_both : {A : Type 0} (b : Bool) → b ≡ true → b ≡ false → A
not_both true fits none = absurd (cc)
not_both false fits none = absurd (cc)

pub told_send : (good : Bool) (text : List ℕ) (wanted : Next) → IsToldBy good text wanted → is_send wanted ≡ false
told_send true text (next.Print line) told = refl
told_send true text wanted told = absurd told
told_send false text (next.Warn line) told = refl
told_send false text wanted told = absurd told

-- nothing is sent, and its poll stays
pub record Stays (old : PollerAs) (h : Happening) (new : PollerAs) : Type 0 where
  pub sent : is_sent h ≡ false
  pub poll : new.poll ≡ old.poll
  pub end : end_of new.doing ≡ end_of old.doing

tells_stays : (lines : List LineAs) (end : Option DeviceEnd) (old : PollerAs) (wanted : Next) (new : PollerAs) → end_of old.doing ≡ end →
    TellsNext lines end old wanted new → Stays old (Wanted wanted) new
tells_stays [] end old wanted new at (w, is) = record {
  sent = ap is_send w;
  poll = ap (λ (x : PollerAs). x.poll) is;
  end = ap (λ (x : PollerAs). end_of x.doing) is ∙ end_with end true ∙ sym at;
}
tells_stays (line ∷ lines) end old wanted new at (w, is) = record {
  sent = told_send line.good line.text wanted w;
  poll = ap (λ (x : PollerAs). x.poll) is;
  end = ap (λ (x : PollerAs). end_of x.doing) is ∙ end_with end (is_none_told lines) ∙ sym at;
}

gives_stays : (what : Doing) (old : PollerAs) (wanted : Next) (new : PollerAs) (why : DeviceEnd) → old.doing ≡ what → end_of what ≡ Some why →
    GivesBy what old wanted new → Stays old (Wanted wanted) new
gives_stays (doing.Tells end) old wanted new why at is gives = tells_stays old.rows.lines end old wanted new (ap end_of at) gives
gives_stays (doing.Ended why2) old wanted new why at is (w, same) = record {
  sent = ap is_send w;
  poll = ap (λ (x : PollerAs). x.poll) same;
  end = ap (λ (x : PollerAs). end_of x.doing) same;
}
gives_stays doing.Asks old wanted new why at is gives = absurd (cc)
gives_stays (doing.Resends datagram) old wanted new why at is gives = absurd (cc)
gives_stays doing.Waits old wanted new why at is gives = absurd (cc)
gives_stays (doing.Hears came) old wanted new why at is gives = absurd (cc)
gives_stays doing.Loses old wanted new why at is gives = absurd (cc)

pub stays : (old : PollerAs) (h : Happening) (new : PollerAs) (why : DeviceEnd) → Sound old → end_of old.doing ≡ Some why →
    Happens old h new → Stays old h new
stays old (Lent ids) new why sound end is = record {
  sent = refl;
  poll = ap (λ (x : PollerAs). x.poll) is;
  end = ap (λ (x : PollerAs). end_of x.doing) is;
}
stays old (Wanted wanted) new why sound end gives = gives_stays old.doing old wanted new why refl end gives
stays old (Answered from datagram now) new why sound end (fits, is) = not_both (is_answer old from datagram) fits (deaf old why from datagram sound end)
stays old Missed new why sound end (waits, is) = not_both (is_waiting old.doing) waits (ended_waits old.doing why end)
