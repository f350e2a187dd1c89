-- What one step of a log leads to.
use Rattle.std.proofs.Common.{◌≡◌, inl, inr, ℕ, Bool, true, false, ◌+◌, ◌-◌, ◌≤◌, max, List, [], ◌∷◌, ◌++◌, length, drop, refl, sym, ap, subst, ◌∙◌, arith}
use Rattle.std.proofs.lemmas.List.{length-append, length-drop, drop_all}
use Rattle.std.proofs.Math.Seq.{drop-append_seam}
use Rattle.bac_wire.specs.Stamp.{CivilTime}
use Rattle.bac_log.specs.declared.entry.Entry.{Entry}
use Rattle.bac_log.specs.Entry.{status_entry}
use Rattle.bac_log.specs.TrendLog.{Log, oldest, newest, logs, purges, enables}
use Rattle.bac_device.specs.Logs.{StepsTo}
use Rattle.bac_link.specs.Delivery.{Moment}
use Rattle.bac_link.specs.Moments.{Change, Append, Purge, changed, changed_all}
use Rattle.bac_memory_link.specs.Ahead.{moment_of, logged_since}

-- ---- one entry more, in place of the oldest ones

record Logs (log new : Log) (e : Entry) : Type 0 where
  gone : ℕ
  within : gone ≤ length log.entries
  before : new.before ≡ log.before + gone
  entries : new.entries ≡ drop gone log.entries ++ e ∷ []
  capacity : new.capacity ≡ log.capacity

newest-logs : (log new : Log) (e : Entry) → Logs log new e → newest new ≡ newest log + 1
newest-logs log new e l = omega (arith, l.before, l.within, ap (λ (es : List Entry). length es) l.entries, length-append (drop l.gone log.entries) (e ∷ []), length-drop l.gone log.entries)

logs-logs : (log : Log) (e : Entry) → 1 ≤ log.capacity → Logs log (logs e log) e
logs-logs log e some = record {
  gone = max log.before (newest log + 1 - log.capacity) - log.before;
  within = omega arith;
  before = omega arith;
  entries = refl;
  capacity = refl;
}

purges-logs : (log : Log) (t : CivilTime) → 1 ≤ log.capacity → Logs log (purges t log) (status_entry t log.enabled true)
purges-logs log t some =
    let e : Entry = status_entry t log.enabled true in
    let none : drop (newest log - log.before) log.entries ≡ [] = drop_all (newest log - log.before) log.entries (omega arith) in
    let all : drop (length log.entries) log.entries ≡ [] = drop_all (length log.entries) log.entries (omega arith) in
    let size : length (drop (newest log - log.before) log.entries) ≡ 0 = ap (λ (es : List Entry). length es) none in
    let k : ℕ = max (newest log) (newest log + length (drop (newest log - log.before) log.entries) + 1 - log.capacity) - newest log in
    record {
      gone = length log.entries;
      within = omega arith;
      before = omega (arith, size);
      entries = ap (λ (es : List Entry). drop k es ++ e ∷ []) none ∙ ap (λ (es : List Entry). es ++ e ∷ []) (drop_all k [] (omega arith) ∙ sym all);
      capacity = refl;
    }

enables-logs : (log : Log) (value : Bool) (t : CivilTime) → 1 ≤ log.capacity → Logs log (enables value t log) (status_entry t value false)
enables-logs log value t some =
    let l = logs-logs (record log { enabled = value }) (status_entry t value false) some in
    record { gone = l.gone; within = l.within; before = l.before; entries = l.entries; capacity = l.capacity }

since-logs : (log new : Log) (e : Entry) → Logs log new e → logged_since log new ≡ e ∷ []
since-logs log new e l =
    let held : List Entry = drop l.gone log.entries in
    let size : newest log - new.before ≡ length held = omega (arith, l.before, l.within, length-drop l.gone log.entries) in
    ap (λ (es : List Entry). drop (newest log - new.before) es) l.entries
    ∙ ap (λ n. drop n (held ++ e ∷ [])) size
    ∙ drop-append_seam held (e ∷ [])

-- ---- its moment

pub moment_same : (a b c d : ℕ) → a ≡ b → c ≡ d → (let m : Moment = record { newest = a; oldest = c } in m) ≡ record { newest = b; oldest = d }
moment_same a b c d p q = ap (λ n. let m : Moment = record { newest = n; oldest = c } in m) p ∙ ap (λ n. let m : Moment = record { newest = b; oldest = n } in m) q

appended : (log new : Log) → newest new ≡ newest log + 1 → oldest new ≡ max (oldest log) (newest log + 2 - log.capacity) → moment_of new ≡ changed log.capacity (moment_of log) Append
appended log new n o = moment_same _ _ _ _ n o

purged : (log new : Log) → newest new ≡ newest log + 1 → oldest new ≡ newest log + 1 → moment_of new ≡ changed log.capacity (moment_of log) Purge
purged log new n o = moment_same _ _ _ _ n o

-- ---- any step

-- the oldest entries give way, and those logged since follow; its moment follows from the one before
pub record Gains (log new : Log) : Type 0 where
  pub gone : ℕ
  pub within : gone ≤ length log.entries
  pub before : new.before ≡ log.before + gone
  pub entries : new.entries ≡ drop gone log.entries ++ logged_since log new
  pub capacity : new.capacity ≡ log.capacity
  pub changes : List Change
  pub moment : moment_of new ≡ changed_all log.capacity (moment_of log) changes
  pub more : newest new ≡ newest log + length (logged_since log new)

none_since : (log : Log) → logged_since log log ≡ []
none_since log = drop_all (newest log - log.before) log.entries (omega arith)

append_none : (es : List Entry) → es ≡ es ++ []
append_none [] = refl
append_none (e ∷ es) = ap (λ (xs : List Entry). e ∷ xs) (append_none es)

rests : (log : Log) → Gains log log
rests log = record {
  gone = 0;
  within = omega arith;
  before = omega arith;
  entries = append_none log.entries ∙ ap (λ (es : List Entry). log.entries ++ es) (sym (none_since log));
  capacity = refl;
  changes = [];
  moment = refl;
  more = omega (arith, ap (λ (es : List Entry). length es) (none_since log));
}

gains : (log new : Log) (e : Entry) (c : Change) → Logs log new e → moment_of new ≡ changed log.capacity (moment_of log) c → Gains log new
gains log new e c l moved = record {
  gone = l.gone;
  within = l.within;
  before = l.before;
  entries = l.entries ∙ ap (λ (es : List Entry). drop l.gone log.entries ++ es) (sym (since-logs log new e l));
  capacity = l.capacity;
  changes = c ∷ [];
  moment = moved;
  more = omega (arith, newest-logs log new e l, ap (λ (es : List Entry). length es) (since-logs log new e l));
}

pub steps_gain : (log new : Log) → StepsTo log new → 1 ≤ log.capacity → Gains log new
steps_gain log new (inl e) some = subst (λ (x : Log). Gains log x) (sym e) (rests log)
steps_gain log new (inr (inl x)) some =
    let l = logs-logs log x.1.0 some in
    subst (λ (y : Log). Gains log y) (sym x.1.1) (gains log (logs x.1.0 log) x.1.0 Append l
    (appended log (logs x.1.0 log) (newest-logs log (logs x.1.0 log) x.1.0 l) (omega arith)))
steps_gain log new (inr (inr (inl x))) some =
    let e : Entry = status_entry x.1.0 log.enabled true in
    let l = purges-logs log x.1.0 some in
    subst (λ (y : Log). Gains log y) (sym x.1.1) (gains log (purges x.1.0 log) e Purge l
    (purged log (purges x.1.0 log) (newest-logs log (purges x.1.0 log) e l) (omega (arith, l.before))))
steps_gain log new (inr (inr (inr x))) some =
    let e : Entry = status_entry x.1.1.0 x.1.0 false in
    let l = enables-logs log x.1.0 x.1.1.0 some in
    subst (λ (y : Log). Gains log y) (sym x.1.1.1) (gains log (enables x.1.0 x.1.1.0 log) e Append l
    (appended log (enables x.1.0 x.1.1.0 log) (newest-logs log (enables x.1.0 x.1.1.0 log) e l) (omega arith)))
