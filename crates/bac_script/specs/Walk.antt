-- What a walk of a trend log of the device prints, while nothing happens to the device.
use Rattle.std.specs.Prelude.{ℕ, ◌+◌, ◌-◌, ◌==◌, ◌&&◌, nat_lt, Bool, true, false, if◌then◌else◌, List, [], ◌∷◌, ◌++◌}
use Rattle.std.specs.Prelude.{codes, Option, None, Some}
use Rattle.bac_wire.specs.Primitive.{Id}
use Rattle.bac_memory_link.specs.Ahead.{moment_of, placed, turn}
use Rattle.bac_log.specs.TrendLog.{Log, sequence_number}
use Rattle.bac_link.specs.Delivery.{History, Moment}
use Rattle.bac_objects.specs.Sampling.{log_of}
use Rattle.bac_objects.specs.State as device
use Rattle.bac_query.specs.Ends.{end_line}
use Rattle.bac_query.specs.Items.{items_text}
use Rattle.bac_link.specs.Ordinals.{distance}
use Rattle.bac_walk.specs.Place.{WalkPlace, walk_at, walk_from_oldest}
use Rattle.bac_walk.specs.Rests.{Rested, rest, end_missing}
use Rattle.bac_walk.specs.declared.outcome.Ended.{Ended}
use Rattle.bac_walk.specs.declared.outcome.Ended.TheVariants as ended
use Rattle.bac_walk.specs.declared.outcome.Outcome.{Outcome}
use Rattle.bac_walk.specs.declared.outcome.Why.{Why}
use Rattle.bac_walk.specs.declared.outcome.Why.TheVariants as why

-- why a walk that ended so says that it ended
abbrev pub why_ended : Ended → Why
why_ended ended.CaughtUp = why.CaughtUp
why_ended ended.StepLimit = why.StepLimit
why_ended ended.Stopped = why.Memory
why_ended (ended.Fault fault) = why.Fault fault

-- the lines of what a walk delivered, and of its end
abbrev pub rested_text : Rested → List ℕ
rested_text rested = items_text rested.items ++ end_line (why_ended rested.ended) (sequence_number rested.next)

-- the lines of an outcome, as `collect` gives it
abbrev pub outcome_text : Outcome → List ℕ
outcome_text outcome = items_text outcome.items.items ++ end_line outcome.why outcome.next

-- the line of the end of a walk of a log that the device doesn't have, at this number
abbrev pub missed_text : ℕ → ℕ → List ℕ
missed_text next steps = end_line (why_ended (end_missing steps)) next

-- what a log holds, as a history and as a moment; its ordinals are a whole
-- round of numbers further on, so that there are ordinals before the first
abbrev pub held_by : Log → History
held_by log = record { logged = log.before + turn 1; entries = log.entries }

-- what it holds, as a moment
abbrev pub moment_by : Log → Moment
moment_by log = placed 1 (moment_of log)

-- of all ordinals of a number, the one that is less than half of the count away from the oldest entry held
abbrev pub nearest : ℕ → ℕ → ℕ
nearest oldest n =
    if nat_lt (distance (sequence_number oldest) n) 2147483648
    then oldest + distance (sequence_number oldest) n
    else (oldest + distance (sequence_number oldest) n) - 4294967295

-- a walk of a device's log, or of one that the device doesn't have, from a
-- number or, if it is fresh, from the oldest record
abbrev pub walked_text : device.State → Option Log → Bool → ℕ → ℕ → List ℕ
walked_text d None fresh n steps = missed_text n steps
walked_text d (Some log) fresh n steps =
    rested_text (rest d.reply_size 100 (held_by log) (moment_by log) fresh (nearest (moment_by log).oldest n) steps)

-- a walk is one of a Trend Log, from a sequence number above 0 or from the oldest record
abbrev pub begins : Id → Option ℕ → Bool
begins log None = log.kind == 20
begins log (Some sequence_number) = (log.kind == 20) && nat_lt 0 sequence_number

-- the walk, if it begins
abbrev pub start_of : Id → Option ℕ → Option WalkPlace
start_of log None = if begins log None then Some (walk_from_oldest log) else None
start_of log (Some sequence_number) =
    if begins log (Some sequence_number) then Some (walk_at log sequence_number) else None

-- what it prints
abbrev pub begun_text : device.State → Id → Option ℕ → ℕ → List ℕ
begun_text d log None steps = walked_text d (log_of d log.instance) true 1 steps
begun_text d log (Some sequence_number) steps = walked_text d (log_of d log.instance) false sequence_number steps

-- what a walk prints; `no walk`, if it doesn't begin
abbrev pub walk_text : device.State → Id → Option ℕ → ℕ → List ℕ
walk_text d log from steps = if begins log from then begun_text d log from steps else codes "no walk" ++ 10 ∷ []
