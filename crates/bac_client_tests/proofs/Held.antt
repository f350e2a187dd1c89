-- What a walk over a log at rest delivers is what the log holds.
use Rattle.std.proofs.Common.{◌≡◌, ℕ, ◌+◌, ◌-◌, ◌<◌, ◌≤◌, max, nat_lt, Bool, true, false, if◌then◌else◌, List, [], ◌∷◌, ◌++◌, length, take, drop, refl, ap, ◌∙◌, arith}
use Rattle.std.proofs.lemmas.List.{length-drop, take_all, append-nil}
use Rattle.std.proofs.lemmas.Bool.{ltb-false}
use Rattle.bac_log.specs.TrendLog.{Log, newest, sequence_number, oldest}
use Rattle.bac_log.specs.declared.entry.Entry.{Entry}
use Rattle.bac_link.specs.Delivery.{History}
use Rattle.bac_link.specs.Moments.{entries_from, log_at}
use Rattle.bac_link.specs.declared.item.Item.{Item}
use Rattle.bac_link.specs.declared.item.Item.TheVariants.{Gap}
use Rattle.bac_walk.specs.Rests.{Rested, rest_all}
use Rattle.bac_walk.specs.Walks.{logged_from}
use Rattle.bac_walk.specs.declared.outcome.Ended.TheVariants.{CaughtUp}
use Rattle.bac_memory_link.specs.Ahead.{moment_of}
use Rattle.bac_client_tests.specs.Held.{held_from}

-- the history of a log to which nothing happens
abbrev pub history_of : Log → History
history_of log = record { logged = log.before; entries = log.entries ++ [] }

entries_are : (log : Log) (k : ℕ) → oldest log ≤ k → k ≤ newest log → entries_from (history_of log) k ((newest log + 1) - k) ≡ drop (k - oldest log) log.entries
entries_are log k low high =
    ap (λ (es : List Entry). take ((newest log + 1) - k) (drop (k - oldest log) es)) (append-nil log.entries)
    ∙ take_all ((newest log + 1) - k) (drop (k - oldest log) log.entries) (omega (arith, length-drop (k - oldest log) log.entries, low, high))

abbrev gap_to : Log → ℕ → List Item
gap_to log s = if nat_lt s (oldest log) then Gap (sequence_number s) (sequence_number (oldest log)) ∷ [] else []

held_if : (log : Log) (s : ℕ) (b : Bool) → nat_lt (newest log) (max s (oldest log)) ≡ b →
    (if b
    then (let r : Rested = record { items = []; next = s; ended = CaughtUp } in r)
    else record {
      items = gap_to log s ++ logged_from (max s (oldest log)) (entries_from (history_of log) (max s (oldest log)) ((newest log + 1) - max s (oldest log)));
      next = newest log + 1;
      ended = CaughtUp;
    }).items
    ≡ (if b then [] else (gap_to log s ++ logged_from (max s (oldest log)) (drop (max s (oldest log) - oldest log) log.entries)))
held_if log s true e = refl
held_if log s false e =
    ap (λ (es : List Entry). gap_to log s ++ logged_from (max s (oldest log)) es)
    (entries_are log (max s (oldest log)) (omega arith) (ltb-false (newest log) (max s (oldest log)) e))

pub held_all : (log : Log) (s : ℕ) → (rest_all (history_of log) (moment_of log) s).items ≡ held_from log s
held_all log s = held_if log s (nat_lt (newest log) (max s (oldest log))) refl

-- so many steps are enough
pub enough : (log : Log) (s steps : ℕ) → length log.entries < steps → (newest log + 1) - max s (oldest log) < steps
enough log s steps more = omega (arith, more)

-- the log that its moment cuts out of its history has its entries
pub held_now : (log : Log) → (log_at (moment_of log) (history_of log)).entries ≡ log.entries
held_now log =
    let size : newest log + 1 - oldest log ≡ length log.entries = omega arith in
    let place : oldest log - (log.before + 1) ≡ 0 = omega arith in
    ap (λ n. take n (drop (oldest log - (log.before + 1)) (log.entries ++ []))) size
    ∙ ap (λ n. take (length log.entries) (drop n (log.entries ++ []))) place
    ∙ ap (λ (es : List Entry). take (length log.entries) es) (append-nil log.entries)
    ∙ take_all (length log.entries) log.entries (omega arith)
