-- What lies ahead of a log is the moments of one log, and stays ahead as events happen.
use Rattle.std.proofs.Common.{◌≡◌, ℕ, Bool, true, false, ◌+◌, ◌-◌, max, ◌<◌, ◌≤◌, List, [], ◌∷◌, ◌++◌, length, take, drop, refl, sym, ap, subst, ◌∙◌, arith, append_assoc}
use Rattle.std.proofs.lemmas.List.{length-append, length-take-le, take-append-drop}
use Rattle.bac_wire.specs.Primitive.{Id}
use Rattle.bac_log.specs.TrendLog.{Log, IsLog, oldest, newest}
use Rattle.bac_log.specs.declared.entry.Entry.{Entry}
use Rattle.bac_objects.specs.Sampling.{log_id}
use Rattle.bac_objects.specs.State.{State}
use Rattle.bac_link.specs.Delivery.{History, Moment, now, later}
use Rattle.bac_link.specs.Moments.{Change, Append, Purge, changed, changed_all, AreIn, AreMoments, AreServed}
use Rattle.bac_memory_link.specs.Ahead.{entries_ahead, history_ahead, IsThere, LiesAhead, log_with, logged_since, moment_of, moments_ahead, placed, placed_all, turn}
use Rattle.bac_memory_link.specs.Events.{Played, happens, played}
use Rattle.bac_objects.specs.Sound.{IsSound}
use Rattle.bac_memory_link.specs.declared.event.LinkEvent.{LinkEvent}
use Rattle.bac_memory_link.specs.declared.event.LinkEvent.TheVariants.{Sample, Advance, Handle, Answer, Lose}
use Rattle.bac_memory_link.proofs.Events.{Remains, event_steps, log_there, played_remains}
use Rattle.bac_memory_link.proofs.Steps.{Gains, steps_gain}
use Rattle.bac_walk.proofs.Growing.{later_of}

-- ---- a log with a capacity

record Ranged (log : Log) : Type 0 where
  some : 1 ≤ log.capacity

ranged_on : (log new : Log) → Ranged log → Gains log new → Ranged new
ranged_on log new r g = record { some = omega (arith, r.some, g.capacity) }

gained : (event : LinkEvent) (d : State) (n : ℕ) → Ranged (log_with d n) → Gains (log_with d n) (log_with (happens event d) n)
gained event d n r = steps_gain (log_with d n) (log_with (happens event d) n) (event_steps event d n) r.some

-- ---- moments

pub ahead_some : (d : State) (n : ℕ) (events : List LinkEvent) → 0 < length (moments_ahead d n events)
ahead_some d n [] = omega arith
ahead_some d n (Answer ∷ events) = omega arith
ahead_some d n (Lose ∷ events) = ahead_some d n events
ahead_some d n (Sample i ∷ events) = ahead_some (happens (Sample i) d) n events
ahead_some d n (Advance stamp ∷ events) = ahead_some (happens (Advance stamp) d) n events
ahead_some d n (Handle datagram ∷ events) = ahead_some (happens (Handle datagram) d) n events

changed_all-append : (capacity : ℕ) (m : Moment) (xs ys : List Change) → changed_all capacity m (xs ++ ys) ≡ changed_all capacity (changed_all capacity m xs) ys
changed_all-append capacity m [] ys = refl
changed_all-append capacity m (x ∷ xs) ys = changed_all-append capacity (changed capacity m x) xs ys

-- a change is the same so many rounds further on
changed-placed : (rounds capacity : ℕ) (m : Moment) (c : Change) → placed rounds (changed capacity m c) ≡ changed capacity (placed rounds m) c
changed-placed rounds capacity m Append =
    let a : (m.newest + 1) + turn rounds ≡ (m.newest + turn rounds) + 1 = omega arith in
    let b : max m.oldest (m.newest + 2 - capacity) + turn rounds ≡ max (m.oldest + turn rounds) ((m.newest + turn rounds) + 2 - capacity) = omega arith in
    ap (λ (x : ℕ). record { newest = x; oldest = max m.oldest (m.newest + 2 - capacity) + turn rounds }) a
    ∙ ap (λ (y : ℕ). record { newest = (m.newest + turn rounds) + 1; oldest = y }) b
changed-placed rounds capacity m Purge =
    let a : (m.newest + 1) + turn rounds ≡ (m.newest + turn rounds) + 1 = omega arith in
    ap (λ (x : ℕ). record { newest = x; oldest = x }) a

changes-placed : (rounds capacity : ℕ) (m : Moment) (cs : List Change) → placed rounds (changed_all capacity m cs) ≡ changed_all capacity (placed rounds m) cs
changes-placed rounds capacity m [] = refl
changes-placed rounds capacity m (c ∷ cs) =
    changes-placed rounds capacity (changed capacity m c) cs ∙ ap (λ (n : Moment). changed_all capacity n cs) (changed-placed rounds capacity m c)

are-placed : (rounds capacity : ℕ) (m : Moment) (M : List Moment) → AreMoments capacity m M → AreMoments capacity (placed rounds m) (placed_all rounds M)
are-placed rounds capacity m [] are = tt
are-placed rounds capacity m (n ∷ M) are =
    ((are.0.0, ap (λ (k : Moment). placed rounds k) are.0.1 ∙ changes-placed rounds capacity m are.0.0), are-placed rounds capacity n M are.1)

placed_some : (rounds : ℕ) (M : List Moment) → 0 < length M → 0 < length (placed_all rounds M)
placed_some rounds [] some = absurd (omega arith)
placed_some rounds (m ∷ M) some = omega arith

-- a log that a moment leads to
record Led (capacity : ℕ) (start : Moment) (log : Log) : Type 0 where
  changes : List Change
  leads : moment_of log ≡ changed_all capacity start changes
  same : log.capacity ≡ capacity

led_on : (capacity : ℕ) (start : Moment) (log new : Log) → Led capacity start log → Gains log new → Led capacity start new
led_on capacity start log new l g = record {
  changes = l.changes ++ g.changes;
  leads = g.moment
      ∙ ap (λ k. changed_all k (moment_of log) g.changes) l.same
      ∙ ap (λ (m : Moment). changed_all capacity m g.changes) l.leads
      ∙ sym (changed_all-append capacity start l.changes g.changes);
  same = g.capacity ∙ l.same;
}

ahead_moments : (capacity : ℕ) (start : Moment) (d : State) (n : ℕ) (events : List LinkEvent) → Ranged (log_with d n) → Led capacity start (log_with d n) → AreMoments capacity start (moments_ahead d n events)
ahead_moments capacity start d n [] r l = ((l.changes, l.leads), tt)
ahead_moments capacity start d n (Answer ∷ events) r l =
    ((l.changes, l.leads), ahead_moments capacity (moment_of (log_with d n)) d n events r (record { changes = []; leads = refl; same = l.same }))
ahead_moments capacity start d n (Lose ∷ events) r l = ahead_moments capacity start d n events r l
ahead_moments capacity start d n (Sample i ∷ events) r l =
    let g = gained (Sample i) d n r in
    ahead_moments capacity start (happens (Sample i) d) n events (ranged_on _ _ r g) (led_on capacity start _ _ l g)
ahead_moments capacity start d n (Advance stamp ∷ events) r l =
    let g = gained (Advance stamp) d n r in
    ahead_moments capacity start (happens (Advance stamp) d) n events (ranged_on _ _ r g) (led_on capacity start _ _ l g)
ahead_moments capacity start d n (Handle datagram ∷ events) r l =
    let g = gained (Handle datagram) d n r in
    ahead_moments capacity start (happens (Handle datagram) d) n events (ranged_on _ _ r g) (led_on capacity start _ _ l g)

-- ---- the history

-- no moment ahead is newer than the entries held and those to come
abbrev Within : ℕ → History → State → ℕ → List LinkEvent → Type 0
Within rounds H d n events = (newest (log_with d n) + turn rounds) + length (entries_ahead d n events) ≤ H.logged + length H.entries

within_on : (rounds : ℕ) (H : History) (event : LinkEvent) (d : State) (n : ℕ) (events : List LinkEvent) → Ranged (log_with d n) → Within rounds H d n (event ∷ events) → Within rounds H (happens event d) n events
within_on rounds H event d n events r h =
    omega (
      arith,
      h,
      (gained event d n r).more,
      length-append (logged_since (log_with d n) (log_with (happens event d) n)) (entries_ahead (happens event d) n events),
    )

ahead_in : (rounds : ℕ) (H : History) (d : State) (n : ℕ) (events : List LinkEvent) → Ranged (log_with d n) → Within rounds H d n events → AreIn H (placed_all rounds (moments_ahead d n events))
ahead_in rounds H d n [] r h = (omega (arith, h), tt)
ahead_in rounds H d n (Answer ∷ events) r h = (omega (arith, h), ahead_in rounds H d n events r (within_on rounds H Answer d n events r h))
ahead_in rounds H d n (Lose ∷ events) r h = ahead_in rounds H d n events r (within_on rounds H Lose d n events r h)
ahead_in rounds H d n (Sample i ∷ events) r h =
    ahead_in rounds H (happens (Sample i) d) n events (ranged_on _ _ r (gained (Sample i) d n r)) (within_on rounds H (Sample i) d n events r h)
ahead_in rounds H d n (Advance stamp ∷ events) r h =
    ahead_in rounds H (happens (Advance stamp) d) n events (ranged_on _ _ r (gained (Advance stamp) d n r)) (within_on rounds H (Advance stamp) d n events r h)
ahead_in rounds H d n (Handle datagram ∷ events) r h =
    ahead_in rounds H (happens (Handle datagram) d) n events (ranged_on _ _ r (gained (Handle datagram) d n r)) (within_on rounds H (Handle datagram) d n events r h)

-- ---- what lies ahead, of any device

record Lies (rounds : ℕ) (d : State) (n : ℕ) (events : List LinkEvent) (M : List Moment) (H : History) : Type 0 where
  ranged : Ranged (log_with d n)
  moments : M ≡ placed_all rounds (moments_ahead d n events)
  past : List Entry
  gone : length past + (H.logged + 1) ≡ oldest (log_with d n) + turn rounds
  entries : H.entries ≡ past ++ ((log_with d n).entries ++ entries_ahead d n events)

-- the oldest entries give way
pub gives_way : (past held since ahead : List Entry) (k : ℕ) → past ++ (held ++ (since ++ ahead)) ≡ (past ++ take k held) ++ ((drop k held ++ since) ++ ahead)
gives_way past held since ahead k =
    ap (λ (es : List Entry). past ++ (es ++ (since ++ ahead))) (sym (take-append-drop k held)) ∙ regroup past (take k held) (drop k held) since ahead
  where
    regroup : (p a b c e : List Entry) → p ++ ((a ++ b) ++ (c ++ e)) ≡ (p ++ a) ++ ((b ++ c) ++ e)
    regroup p a b c e = simp append_assoc

happened : (rounds : ℕ) (event : LinkEvent) (d : State) (n : ℕ) (events : List LinkEvent) (M N : List Moment) (H : History) → M ≡ placed_all rounds (moments_ahead (happens event d) n events) → Lies rounds d n (event ∷ events) N H → Lies rounds (happens event d) n events M H
happened rounds event d n events M N H moments l =
    let log : Log = log_with d n in
    let new : Log = log_with (happens event d) n in
    let ahead : List Entry = entries_ahead (happens event d) n events in
    let g = gained event d n l.ranged in
    record {
      ranged = ranged_on log new l.ranged g;
      moments = moments;
      past = l.past ++ take g.gone log.entries;
      gone = omega (arith, length-append l.past (take g.gone log.entries), length-take-le g.gone log.entries g.within, l.gone, g.before);
      entries = l.entries
          ∙ gives_way l.past log.entries (logged_since log new) ahead g.gone
          ∙ ap (λ (es : List Entry). (l.past ++ take g.gone log.entries) ++ (es ++ ahead)) (sym g.entries);
    }

-- after an answer its moment is used up; a loss leaves the moments
abbrev IsLeft : ℕ → Bool → State → ℕ → List LinkEvent → List Moment → History → Type 0
IsLeft rounds true d n rest M H = Lies rounds d n rest M H
IsLeft rounds false d n rest M H = (now M ≡ placed rounds (moment_of (log_with d n))) × Lies rounds d n rest (later M) H

abbrev AreLeft : ℕ → Played → ℕ → List Moment → History → Type 0
AreLeft rounds p n M H = IsLeft rounds p.lost p.device n p.rest M H

left : (rounds : ℕ) (d : State) (n : ℕ) (events : List LinkEvent) (M : List Moment) (H : History) → Lies rounds d n events M H → AreLeft rounds (played d events) n M H
left rounds d n [] M H l = (ap now l.moments, record { ranged = l.ranged; moments = ap later l.moments; past = l.past; gone = l.gone; entries = l.entries })
left rounds d n (Answer ∷ events) M H l =
    let ahead : List Moment = placed_all rounds (moments_ahead d n events) in (
      ap now l.moments,
      happened rounds Answer d n events (later M) M H
          (ap later l.moments ∙ later_of (placed rounds (moment_of (log_with d n))) ahead (placed_some rounds (moments_ahead d n events) (ahead_some d n events))) l,
    )
left rounds d n (Lose ∷ events) M H l = happened rounds Lose d n events M M H l.moments l
left rounds d n (Sample i ∷ events) M H l = left rounds (happens (Sample i) d) n events M H (happened rounds (Sample i) d n events M M H l.moments l)
left rounds d n (Advance stamp ∷ events) M H l = left rounds (happens (Advance stamp) d) n events M H (happened rounds (Advance stamp) d n events M M H l.moments l)
left rounds d n (Handle datagram ∷ events) M H l = left rounds (happens (Handle datagram) d) n events M H (happened rounds (Handle datagram) d n events M M H l.moments l)

-- ---- of a device that is sound

pub log_is : (d : State) (n : ℕ) → IsSound d → IsThere d n → IsLog (log_with d n)
log_is d n sound there = subst IsLog (sym (log_there d n there.0 there.1)) (sound.logs n there.0 there.1)

ranged_of : (d : State) (n : ℕ) → IsSound d → IsThere d n → Ranged (log_with d n)
ranged_of d n sound there = let is = log_is d n sound there in record { some = is.capacity.0 }

lies : (rounds : ℕ) (d : State) (events : List LinkEvent) (id : Id) (r : ℕ) (M : List Moment) (H : History) → LiesAhead rounds d events id r M H → Lies rounds d id.instance events M H
lies rounds d events id r M H a = record { ranged = ranged_of d id.instance a.sound a.there; moments = a.moments; past = a.past; gone = a.gone; entries = a.entries }

-- its moments are those of one log
are_served : (rounds : ℕ) (d : State) (events : List LinkEvent) (n r : ℕ) (M : List Moment) (H : History) → IsSound d → IsThere d n → d.reply_size ≡ r → Lies rounds d n events M H → AreServed r M H
are_served rounds d events n r M H sound there size a =
    let log : Log = log_with d n in
    let is = log_is d n sound there in
    record {
      least = subst (λ k. 50 ≤ k) size sound.least_reply;
      greatest = subst (λ k. k ≤ 1476) size sound.greatest_reply;
      some = subst (λ (N : List Moment). 0 < length N) (sym a.moments) (placed_some rounds (moments_ahead d n events) (ahead_some d n events));
      capacity = log.capacity;
      ranged = is.capacity;
      start = placed rounds (moment_of log);
      begins = record { above = omega (arith, a.gone); close = omega arith; few = omega (arith, is.within, is.capacity.1) };
      moments = subst (λ (N : List Moment). AreMoments log.capacity (placed rounds (moment_of log)) N) (sym a.moments)
          (are-placed rounds log.capacity (moment_of log) (moments_ahead d n events)
          (ahead_moments log.capacity (moment_of log) d n events a.ranged (record { changes = []; leads = refl; same = refl })));
      entries = subst (λ (N : List Moment). AreIn H N) (sym a.moments) (ahead_in rounds H d n events a.ranged
          (omega (
            arith,
            a.gone,
            ap (λ (es : List Entry). length es) a.entries,
            length-append a.past (log.entries ++ entries_ahead d n events),
            length-append log.entries (entries_ahead d n events),
          )));
    }

lies_ahead : (rounds : ℕ) (d : State) (events : List LinkEvent) (id : Id) (r : ℕ) (M : List Moment) (H : History) → IsSound d → id.kind ≡ 20 → IsThere d id.instance → d.reply_size ≡ r → Lies rounds d id.instance events M H → LiesAhead rounds d events id r M H
lies_ahead rounds d events id r M H sound kind there size l = record {
  sound = sound;
  kind = kind;
  there = there;
  size = size;
  moments = l.moments;
  past = l.past;
  gone = l.gone;
  entries = l.entries;
  served = are_served rounds d events id.instance r M H sound there size l;
}

-- what a link begins with
pub ahead_new : (rounds : ℕ) (d : State) (events : List LinkEvent) (n : ℕ) → IsSound d → IsThere d n →
    LiesAhead rounds d events (log_id n) d.reply_size (placed_all rounds (moments_ahead d n events)) (history_ahead rounds d n events)
ahead_new rounds d events n sound there = lies_ahead rounds d events (log_id n) d.reply_size _ (history_ahead rounds d n events) sound refl there refl
    (record { ranged = ranged_of d n sound there; moments = refl; past = []; gone = omega arith; entries = refl })

-- ---- after the events up to an answer

abbrev pub IsStillAhead : ℕ → Bool → State → List LinkEvent → Id → ℕ → List Moment → History → Type 0
IsStillAhead rounds true d rest id r M H = LiesAhead rounds d rest id r M H
IsStillAhead rounds false d rest id r M H = (now M ≡ placed rounds (moment_of (log_with d id.instance))) × LiesAhead rounds d rest id r (later M) H

still : (rounds : ℕ) (lost : Bool) (d e : State) (rest : List LinkEvent) (id : Id) (r : ℕ) (M : List Moment) (H : History) → IsSound e → id.kind ≡ 20 → IsThere d id.instance → d.reply_size ≡ r → Remains d e → IsLeft rounds lost e id.instance rest M H → IsStillAhead rounds lost e rest id r M H
still rounds true d e rest id r M H sound kind there size remains l =
    lies_ahead rounds e rest id r M H sound kind (remains.there id.instance there) (remains.reply_size ∙ size) l
still rounds false d e rest id r M H sound kind there size remains l =
    (l.0, lies_ahead rounds e rest id r (later M) H sound kind (remains.there id.instance there) (remains.reply_size ∙ size) l.1)

pub still_ahead : (rounds : ℕ) (d : State) (events : List LinkEvent) (id : Id) (r : ℕ) (M : List Moment) (H : History) → IsSound (played d events).device → LiesAhead rounds d events id r M H →
    IsStillAhead rounds (played d events).lost (played d events).device (played d events).rest id r M H
still_ahead rounds d events id r M H sound a =
    still rounds (played d events).lost d (played d events).device (played d events).rest id r M H sound a.kind a.there a.size (played_remains d events)
    (left rounds d id.instance events M H (lies rounds d events id r M H a))
