-- What events make of the log that is walked: the history has what is gone, what is held and what is to come.
use Rattle.std.proofs.Common.{◌≡◌, ℕ, zero, suc, Bool, true, false, ◌+◌, ◌-◌, ◌<◌, ◌≤◌, ◌⊎◌, inl, inr, if◌then◌else◌, Option, Some, None, List, [], ◌∷◌, ◌++◌, length, take, drop, slice_get, refl, sym, ap, subst, ◌∙◌, arith}
use Rattle.std.proofs.lemmas.List.{length-append, length-take-le}
use Rattle.std.proofs.Math.Seq.{drop-append_seam, take-append_seam}
use Rattle.std.proofs.lemmas.Option.{slice_get_within}
use Rattle.bac_log.specs.declared.entry.Entry.{Entry}
use Rattle.bac_log.specs.TrendLog.{Log, newest, oldest}
use Rattle.bac_objects.specs.Sound.{IsSound}
use Rattle.bac_objects.specs.State.{State}
use Rattle.bac_device.specs.Logs.{Keeps, StepsTo}
use Rattle.bac_device.proofs.Moves.{answers_keep}
use Rattle.bac_link.specs.Datagrams.{answer_in, apdu_in}
use Rattle.bac_link.specs.Delivery.{History, Moment}
use Rattle.bac_link.specs.Laws.{moment_at}
use Rattle.bac_link.specs.Moments.{IsMoment, entries_from}
use Rattle.bac_link.specs.Transactions.{is_awaited}
use Rattle.bac_link.specs.declared.transactions.Pending.{Pending}
use Rattle.bac_link.specs.Heard.{AckParameters}
use Rattle.bac_walk.specs.Walks.{NextAct, Bring, Refuse, Ask, End, verdict}
use Rattle.bac_memory_link.specs.Ahead.{IsThere, log_with, logged_since, moment_of, placed, turn}
use Rattle.bac_memory_link.specs.declared.event.LinkEvent.TheVariants as link
use Rattle.bac_memory_link.proofs.Ahead.{log_is, gives_way}
use Rattle.bac_memory_link.proofs.Events.{event_keeps, log_there, stays}
use Rattle.bac_memory_link.proofs.Steps.{Gains, steps_gain}
use Rattle.bac_world.specs.declared.event.WorldEvent.{WorldEvent}
use Rattle.bac_world.specs.declared.event.WorldEvent.TheVariants as event
use Rattle.bac_world.specs.declared.packet.Packet.{Packet}
use Rattle.bac_world.specs.declared.packet.Side.{Side}
use Rattle.bac_world.specs.declared.packet.Side.TheVariants.{Device, Client}
use Rattle.bac_world.specs.Network.{Network, arrives, asks, closes, delivers, gives_up, happens, heard_in, hears, is_young, repeats, takes, times_out}
use Rattle.bac_world.specs.Runs.{entries_of, moments_in}

-- ---- each event keeps the device's logs

abbrev KeepsDevice : Network → Network → Type 0
KeepsDevice w new = Keeps w.device new.device

keeps_asks : (w : Network) (p : Option Pending) → KeepsDevice w (asks w p)
keeps_asks w None = stays w.device
keeps_asks w (Some p) = stays w.device

keeps_repeats : (w : Network) (p : Pending) (b : Bool) → KeepsDevice w (if b then repeats w p else gives_up w)
keeps_repeats w p true = stays w.device
keeps_repeats w p false = stays w.device

keeps_times_out : (w : Network) (p : Option Pending) → KeepsDevice w (times_out w p)
keeps_times_out w None = stays w.device
keeps_times_out w (Some p) = keeps_repeats w p _

keeps_takes : (w : Network) (v : NextAct) (es : List Entry) → KeepsDevice w (takes w v es)
keeps_takes w Refuse es = stays w.device
keeps_takes w Ask es = stays w.device
keeps_takes w End es = stays w.device
keeps_takes w (Bring f) es = stays w.device

keeps_hears : (w : Network) (h : Option AckParameters) → KeepsDevice w (hears w h)
keeps_hears w None = stays w.device
keeps_hears w (Some h) = keeps_takes w (verdict w.walk h.first h.count h.entries) h.entries

keeps_receives : (w : Network) (octets : List ℕ) (b : Bool) → KeepsDevice w (if b then hears (closes w) (heard_in w.walk.log (answer_in (apdu_in octets))) else w)
keeps_receives w octets true = keeps_hears (closes w) (heard_in w.walk.log (answer_in (apdu_in octets)))
keeps_receives w octets false = stays w.device

keeps_arrives : (w : Network) (j : ℕ) (to : Side) (octets : List ℕ) → KeepsDevice w (arrives w j to octets)
keeps_arrives w j Device octets = answers_keep w.device octets
keeps_arrives w j Client octets = keeps_receives w octets (is_awaited w.transactions.pending octets)

keeps_delivered : (w : Network) (p : Packet) (b : Bool) → KeepsDevice w (if b then arrives w p.transaction p.to p.datagram else w)
keeps_delivered w p true = keeps_arrives w p.transaction p.to p.datagram
keeps_delivered w p false = stays w.device

keeps_delivers : (w : Network) (p : Option Packet) → KeepsDevice w (delivers w p)
keeps_delivers w None = stays w.device
keeps_delivers w (Some p) = keeps_delivered w p (is_young w p.transaction)

pub keeps : (w : Network) (e : WorldEvent) → Keeps w.device (happens w e).device
keeps w event.Ask = keeps_asks w w.transactions.pending
keeps w (event.Deliver k) = keeps_delivers w (slice_get w.packets k)
keeps w event.Timeout = keeps_times_out w w.transactions.pending
keeps w (event.Sample n) = event_keeps (link.Sample n) w.device
keeps w (event.Advance moment) = event_keeps (link.Advance moment) w.device
keeps w (event.Handle octets) = event_keeps (link.Handle octets) w.device

-- ---- so a log gains entries

steps_of : (d new : State) (n : ℕ) (there : IsThere d n) → Keeps d new → StepsTo (log_with d n) (log_with new n)
steps_of d new n there k =
    let after = k.logs n there.0 there.1 in
    subst (λ (x : Log). StepsTo x (log_with new n)) (sym (log_there d n there.0 there.1))
    (subst (λ (x : Log). StepsTo there.0 x) (sym (log_there new n after.0 after.1)) after.2)

there_on : (d new : State) (n : ℕ) → IsThere d n → Keeps d new → IsThere new n
there_on d new n there k = let after = k.logs n there.0 there.1 in (after.0, after.1)

gained : (d new : State) (n : ℕ) → IsSound d → IsThere d n → Keeps d new → Gains (log_with d n) (log_with new n)
gained d new n sound there k =
    let is = log_is d n sound there in
    steps_gain (log_with d n) (log_with new n) (steps_of d new n there k) is.capacity.0

-- ---- what is gone, held and to come

pub record LogPart (rounds : ℕ) (H : History) (n : ℕ) (d : State) (rest : List Entry) : Type 0 where
  pub there : IsThere d n
  pub past : List Entry
  pub gone : length past + (H.logged + 1) ≡ oldest (log_with d n) + turn rounds
  pub entries : H.entries ≡ past ++ ((log_with d n).entries ++ rest)

log_later : (rounds : ℕ) (H : History) (n : ℕ) (d new : State) (rest : List Entry) → IsSound d → Keeps d new →
    LogPart rounds H n d (logged_since (log_with d n) (log_with new n) ++ rest) → LogPart rounds H n new rest
log_later rounds H n d new rest sound k l =
    let log : Log = log_with d n in
    let after : Log = log_with new n in
    let g = gained d new n sound l.there k in
    record {
      there = there_on d new n l.there k;
      past = l.past ++ take g.gone log.entries;
      gone = omega (arith, length-append l.past (take g.gone log.entries), length-take-le g.gone log.entries g.within, l.gone, g.before);
      entries = l.entries
          ∙ gives_way l.past log.entries (logged_since log after) rest g.gone
          ∙ ap (λ (es : List Entry). (l.past ++ take g.gone log.entries) ++ (es ++ rest)) (sym g.entries);
    }

pub log_kept : (rounds : ℕ) (H : History) (n : ℕ) (w : Network) (e : WorldEvent) (es : List WorldEvent) → IsSound w.device →
    LogPart rounds H n w.device (entries_of n w (e ∷ es)) → LogPart rounds H n (happens w e).device (entries_of n (happens w e) es)
log_kept rounds H n w e es sound l = log_later rounds H n w.device (happens w e).device (entries_of n (happens w e) es) sound (keeps w e) l

pub log_rises : (n : ℕ) (d new : State) → IsSound d → IsThere d n → Keeps d new → oldest (log_with d n) ≤ oldest (log_with new n)
log_rises n d new sound there k = let g = gained d new n sound there k in omega (arith, g.before)

-- ---- a device whose log is one of the history's

pub record InHistory (rounds : ℕ) (H : History) (n : ℕ) (d : State) : Type 0 where
  pub sound : IsSound d
  pub there : IsThere d n
  pub moment : IsMoment H.logged (placed rounds (moment_of (log_with d n)))
  pub within : newest (log_with d n) + turn rounds ≤ H.logged + length H.entries
  pub held : entries_from H (oldest (log_with d n) + turn rounds) (newest (log_with d n) + turn rounds + 1 - (oldest (log_with d n) + turn rounds)) ≡ (log_with d n).entries

pub in_history : (rounds : ℕ) (H : History) (n : ℕ) (d : State) (rest : List Entry) → IsSound d → LogPart rounds H n d rest → InHistory rounds H n d
in_history rounds H n d rest sound l =
    let log : Log = log_with d n in
    let is = log_is d n sound l.there in
    let place : oldest log + turn rounds - (H.logged + 1) ≡ length l.past = omega (arith, l.gone) in
    let size : newest log + turn rounds + 1 - (oldest log + turn rounds) ≡ length log.entries = omega arith in
    record {
      sound = sound;
      there = l.there;
      moment = record { above = omega (arith, l.gone); close = omega arith; few = omega (arith, is.within, is.capacity.1) };
      within = omega (
        arith,
        l.gone,
        ap (λ (es : List Entry). length es) l.entries,
        length-append l.past (log.entries ++ rest),
        length-append log.entries rest,
      );
      held = ap (λ k. take k (drop (oldest log + turn rounds - (H.logged + 1)) H.entries)) size
          ∙ ap (λ k. take (length log.entries) (drop k H.entries)) place
          ∙ ap (λ (es : List Entry). take (length log.entries) (drop (length l.past) es)) l.entries
          ∙ ap (λ (es : List Entry). take (length log.entries) es) (drop-append_seam l.past (log.entries ++ rest))
          ∙ take-append_seam log.entries rest;
    }

-- ---- the devices that answered

pub get_push : {A : Type 0} → (xs : List A) (x : A) (k : ℕ) (p : A) → slice_get (xs ++ x ∷ []) k ≡ Some p → (slice_get xs k ≡ Some p) ⊎ ((k ≡ length xs) × (p ≡ x))
get_push [] x zero p h = inr (refl, cc)
get_push [] x (suc k) p h = absurd (cc)
get_push (y ∷ xs) x zero p h = inl h
get_push (y ∷ xs) x (suc k) p h = elim (get_push xs x k p h) [
  | inl old ↦ inl old
  | inr new ↦ inr (ap suc new.0, new.1)
]

pub get_before : {A : Type 0} → (xs ys : List A) (k : ℕ) (p : A) → slice_get xs k ≡ Some p → slice_get (xs ++ ys) k ≡ Some p
get_before [] ys k p h = absurd (cc)
get_before (x ∷ xs) ys zero p h = h
get_before (x ∷ xs) ys (suc k) p h = get_before xs ys k p h

pub get_last : {A : Type 0} → (xs : List A) (x : A) → slice_get (xs ++ x ∷ []) (length xs) ≡ Some x
get_last [] x = refl
get_last (y ∷ xs) x = get_last xs x

pub record DevicesPart (rounds : ℕ) (H : History) (n : ℕ) (devices : List State) (d : State) : Type 0 where
  pub inside : (p : ℕ) (e : State) → slice_get devices p ≡ Some e → InHistory rounds H n e
  pub rises : (i j : ℕ) (a b : State) → i ≤ j → slice_get devices i ≡ Some a → slice_get devices j ≡ Some b → oldest (log_with a n) ≤ oldest (log_with b n)
  pub now : (p : ℕ) (e : State) → slice_get devices p ≡ Some e → oldest (log_with e n) ≤ oldest (log_with d n)

pub devices_later : (rounds : ℕ) (H : History) (n : ℕ) (devices : List State) (d new : State) → oldest (log_with d n) ≤ oldest (log_with new n) → DevicesPart rounds H n devices d → DevicesPart rounds H n devices new
devices_later rounds H n devices d new le a = record { inside = a.inside; rises = a.rises; now = λ p e is. omega (arith, a.now p e is, le) }

-- one more answers
pub devices_more : (rounds : ℕ) (H : History) (n : ℕ) (devices : List State) (d : State) → InHistory rounds H n d → DevicesPart rounds H n devices d → DevicesPart rounds H n (devices ++ d ∷ []) d
devices_more rounds H n devices d here a = record {
  inside = λ p e is. elim (get_push devices d p e is) [
    | inl old ↦ a.inside p e old
    | inr new ↦ subst (λ (x : State). InHistory rounds H n x) (sym new.1) here
  ];
  rises = λ i j x y le first second. elim (get_push devices d i x first) [
    | inl old ↦ elim (get_push devices d j y second) [
      | inl old2 ↦ a.rises i j x y le old old2
      | inr new ↦ subst (λ (z : State). oldest (log_with x n) ≤ oldest (log_with z n)) (sym new.1) (a.now i x old)
    ]
    | inr new ↦ elim (get_push devices d j y second) [
      | inl old2 ↦ absurd (omega (arith, new.0, slice_get_within devices j y old2, le))
      | inr new2 ↦ let same : x ≡ y = new.1 ∙ sym new2.1 in subst (λ (z : State). oldest (log_with x n) ≤ oldest (log_with z n)) same (omega arith)
    ]
  ];
  now = λ p e is. elim (get_push devices d p e is) [
    | inl old ↦ a.now p e old
    | inr new ↦ subst (λ (z : State). oldest (log_with z n) ≤ oldest (log_with d n)) (sym new.1) (omega arith)
  ];
}

-- ---- their moments

pub moments_more : (rounds n : ℕ) (devices : List State) (d : State) → moments_in rounds n (devices ++ d ∷ []) ≡ moments_in rounds n devices ++ placed rounds (moment_of (log_with d n)) ∷ []
moments_more rounds n [] d = refl
moments_more rounds n (e ∷ devices) d = ap (λ (l : List Moment). placed rounds (moment_of (log_with e n)) ∷ l) (moments_more rounds n devices d)

pub length-moments : (rounds n : ℕ) (devices : List State) → length (moments_in rounds n devices) ≡ length devices
length-moments rounds n [] = refl
length-moments rounds n (e ∷ devices) = ap suc (length-moments rounds n devices)

pub moment_in : (rounds n : ℕ) (devices : List State) (p : ℕ) (d : State) → slice_get devices p ≡ Some d → moment_at (moments_in rounds n devices) p ≡ placed rounds (moment_of (log_with d n))
moment_in rounds n [] p d is = absurd (cc)
moment_in rounds n (e ∷ devices) zero d is = let same : e ≡ d = cc in ap (λ (x : State). placed rounds (moment_of (log_with x n))) same
moment_in rounds n (e ∷ []) (suc p) d is = absurd (cc)
moment_in rounds n (e ∷ f ∷ devices) (suc p) d is = moment_in rounds n (f ∷ devices) p d is

pub get_some : {A : Type 0} → (xs : List A) (k : ℕ) → k < length xs → (x : A) × (slice_get xs k ≡ Some x)
get_some [] k lt = absurd (omega arith)
get_some (x ∷ xs) zero lt = (x, refl)
get_some (x ∷ xs) (suc k) lt = get_some xs k (omega arith)
