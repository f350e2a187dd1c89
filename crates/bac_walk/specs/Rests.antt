-- A walk over a log that doesn't change.
use Rattle.std.specs.Prelude.{◌≡◌, ℕ, Bool, zero, suc, ◌+◌, ◌-◌, ◌<◌, ◌≤◌, max, nat_lt, nat_le, if◌then◌else◌, ◌⊎◌}
use Rattle.std.specs.Prelude.{List, [], ◌∷◌, ◌++◌, length, All}
use Rattle.bac_log.specs.declared.entry.Entry.{Entry}
use Rattle.bac_link.specs.declared.item.Item.{Item}
use Rattle.bac_walk.specs.declared.outcome.Ended.{Ended}
use Rattle.bac_walk.specs.declared.outcome.Ended.TheVariants.{CaughtUp, StepLimit, Fault}
use Rattle.bac_walk.specs.declared.outcome.Why.{Why}
use Rattle.bac_walk.specs.declared.outcome.Why.TheVariants.{Memory}
use Rattle.bac_walk.specs.Outcomes.{IsRunOf}
use Rattle.bac_walk.specs.declared.outcome.WalkFault.TheVariants.{Refused}
use Rattle.bac_link.specs.declared.exchanges.Refusal.TheVariants as refusal
use Rattle.bac_log.specs.Entry.{IsLoggable}
use Rattle.bac_log.specs.TrendLog.{sequence_number}
use Rattle.bac_link.specs.Delivery.{History, Moment}
use Rattle.bac_link.specs.Moments.{IsMoment, AreServed, log_at, entries_from}
use Rattle.bac_link.specs.declared.item.Item.TheVariants.{Gap, Logged}
use Rattle.bac_walk.specs.Turns.{whole_reply, reply_count}
use Rattle.bac_walk.specs.Walks.{logged_from}

-- what such a walk delivers, the ordinal that it comes to, and why it ends
pub record Rested : Type 0 where
  pub items : List Item
  pub next : ℕ
  pub ended : Ended

-- from ordinal s on, with at most so many steps, each of which asks for so many records
abbrev pub rest_from : (r count : ℕ) → History → Moment → ℕ → ℕ → Rested
rest_from r count H m s zero = record { items = []; next = s; ended = StepLimit }
rest_from r count H m s (suc steps) =
    if nat_lt m.newest (max s m.oldest)
    then record { items = []; next = s; ended = CaughtUp }
    else
    (let by_oldest = nat_le (s + count) (max s m.oldest) in
    let more = rest_from r count H m (max s m.oldest + reply_count r count H m by_oldest s) steps in
    record { items = whole_reply r count H m by_oldest s ++ more.items; next = more.next; ended = more.ended })

-- a walk from the oldest entry, at the ordinal s of its number
abbrev pub rest_oldest : (r count : ℕ) → History → Moment → ℕ → ℕ → Rested
rest_oldest r count H m s zero = record { items = []; next = s; ended = StepLimit }
rest_oldest r count H m s (suc steps) =
    if nat_lt m.newest m.oldest
    then record { items = []; next = s; ended = CaughtUp }
    else rest_from r count H m m.oldest (suc steps)

-- a walk from the oldest entry, or one from ordinal s on
abbrev pub rest : (r count : ℕ) → History → Moment → Bool → ℕ → ℕ → Rested
rest r count H m fresh s steps = if fresh then rest_oldest r count H m s steps else rest_from r count H m s steps

-- a run that ended so
abbrev pub IsRest : Rested → List Item → ℕ → Ended → Type 0
IsRest rested items shown ended =
    (items ≡ rested.items) × (shown ≡ sequence_number rested.next) × (ended ≡ rested.ended)

-- a walk ended so, or it had no memory
abbrev pub Rests : Rested → ℕ → List Item → ℕ → Why → Type 0
Rests rested steps items next why =
    (why ≡ Memory) ⊎ ((items ≡ rested.items) × (next ≡ sequence_number rested.next)
    × IsRunOf why steps steps rested.ended)

-- a walk of a log that isn't there
abbrev pub end_missing : ℕ → Ended
end_missing zero = StepLimit
end_missing (suc steps) = Fault (Refused (refusal.Error 1 31))

-- such a walk delivered nothing, stayed at its number and ended so, or it had no memory
abbrev pub Misses : ℕ → ℕ → List Item → ℕ → Why → Type 0
Misses steps before items next why =
    (why ≡ Memory) ⊎ ((items ≡ []) × (next ≡ before) × IsRunOf why steps steps (end_missing steps))

-- all that a log holds from ordinal s on, and the end of a walk that takes it
abbrev pub rest_all : History → Moment → ℕ → Rested
rest_all H m s =
    if nat_lt m.newest (max s m.oldest)
    then record { items = []; next = s; ended = CaughtUp }
    else record {
      items = (if nat_lt s m.oldest then Gap (sequence_number s) (sequence_number m.oldest) ∷ [] else [])
          ++ logged_from (max s m.oldest) (entries_from H (max s m.oldest) ((m.newest + 1) - max s m.oldest));
      next = m.newest + 1;
      ended = CaughtUp;
    }

-- with more steps than entries held from there on, a walk of a log that doesn't change delivers all of them
abbrev pub RestsAll : Type 0
RestsAll = (r count : ℕ) (H : History) (m : Moment) (s steps : ℕ) → 0 < count →
    AreServed r (m ∷ []) H → All IsLoggable (log_at m H).entries →
    (m.newest + 1) - max s m.oldest < steps → rest_from r count H m s steps ≡ rest_all H m s

-- stopped after any entry and resumed at the next number, it delivers exactly what was left
abbrev pub RestResumes : Type 0
RestResumes = (H : History) (m : Moment) (s shown : ℕ) (entry : Entry) (before after : List Item) →
    IsMoment H.logged m → m.newest ≤ H.logged + length H.entries →
    (rest_all H m s).items ≡ before ++ Logged shown entry ∷ after →
    (k : ℕ) × (shown ≡ sequence_number k) × (after ≡ (rest_all H m (k + 1)).items)
