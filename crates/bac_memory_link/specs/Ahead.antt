-- What lies ahead of the logs of a device at which events are to happen: the moments of the answers to come, and the
-- entries that will be logged. Ordinals are the device's, or all so many whole rounds of numbers further on: numbers
-- don't tell these apart. So a walk may begin before the first ordinal of a log.
use Rattle.std.specs.Prelude.{◌≡◌, ℕ, ◌+◌, ◌*◌, ◌-◌, List, [], ◌∷◌, ◌++◌, length, drop, Some, None}
use Rattle.std.specs.Option.{unwrap_or}
use Rattle.bac_wire.specs.Primitive.{Id}
use Rattle.bac_log.specs.TrendLog.{Log, empty_log, newest, oldest}
use Rattle.bac_log.specs.declared.entry.Entry.{Entry}
use Rattle.bac_objects.specs.Sampling.{log_of}
use Rattle.bac_objects.specs.State.{State}
use Rattle.bac_link.specs.Delivery.{History, Moment}
use Rattle.bac_link.specs.Moments.{AreServed}
use Rattle.bac_memory_link.specs.Events.{happens}
use Rattle.bac_objects.specs.Sound.{IsSound}
use Rattle.bac_memory_link.specs.declared.event.LinkEvent.{LinkEvent}
use Rattle.bac_memory_link.specs.declared.event.LinkEvent.TheVariants.{Answer}

-- the log with an instance; if there is none, an empty one
abbrev pub log_with : State → ℕ → Log
log_with d n = unwrap_or (log_of d n) (empty_log 1 0)

-- the moment that a log is at
abbrev pub moment_of : Log → Moment
moment_of log = record { newest = newest log; oldest = oldest log }

-- the moments at which the answers to come will be given, the last of which stays
abbrev pub moments_ahead : State → ℕ → List LinkEvent → List Moment
moments_ahead d n [] = moment_of (log_with d n) ∷ []
moments_ahead d n (Answer ∷ events) = moment_of (log_with d n) ∷ moments_ahead d n events
moments_ahead d n (event ∷ events) = moments_ahead (happens event d) n events

-- so many whole rounds of numbers
abbrev pub turn : ℕ → ℕ
turn rounds = rounds * 4294967295

-- a moment, so many whole rounds of numbers further on
abbrev pub placed : ℕ → Moment → Moment
placed rounds m = record { newest = m.newest + turn rounds; oldest = m.oldest + turn rounds }

-- each of the moments, so many rounds further on
abbrev pub placed_all : ℕ → List Moment → List Moment
placed_all rounds [] = []
placed_all rounds (m ∷ M) = placed rounds m ∷ placed_all rounds M

-- the entries of a log that have been logged since it was another
abbrev pub logged_since : Log → Log → List Entry
logged_since log new = drop (newest log - new.before) new.entries

-- the entries that will be logged
abbrev pub entries_ahead : State → ℕ → List LinkEvent → List Entry
entries_ahead d n [] = []
entries_ahead d n (event ∷ events) =
    logged_since (log_with d n) (log_with (happens event d) n) ++ entries_ahead (happens event d) n events

-- the entries that are held, and those that will be logged
abbrev pub history_ahead : ℕ → State → ℕ → List LinkEvent → History
history_ahead rounds d n events =
    record {
      logged = (log_with d n).before + turn rounds;
      entries = (log_with d n).entries ++ entries_ahead d n events;
    }

-- there is a log with this instance
abbrev pub IsThere : State → ℕ → Type 0
IsThere d n = (log : Log) × (log_of d n ≡ Some log)

-- The identifier is that of a log of the device, the reply size is the device's, and the events lead the log to these
-- moments, so many rounds further on. The history has the entries held and those to come, after any that are gone. So
-- the moments are those of one log (`served`, which follows from the rest).
pub record LiesAhead (rounds : ℕ) (d : State)
    (events : List LinkEvent) (id : Id) (r : ℕ) (M : List Moment) (H : History) : Type 0 where
  pub sound : IsSound d
  pub kind : id.kind ≡ 20
  pub there : IsThere d id.instance
  pub size : d.reply_size ≡ r
  pub moments : M ≡ placed_all rounds (moments_ahead d id.instance events)
  pub past : List Entry
  pub gone : length past + (H.logged + 1) ≡ oldest (log_with d id.instance) + turn rounds
  pub entries : H.entries ≡ past ++ ((log_with d id.instance).entries ++ entries_ahead d id.instance events)
  pub served : AreServed r M H

-- the same at some placing
abbrev pub IsAhead : State → List LinkEvent → Id → ℕ → List Moment → History → Type 0
IsAhead d events id r M H = (rounds : ℕ) × LiesAhead rounds d events id r M H

-- the identifier is that of a Trend Log which the device doesn't have
pub record Lacks (d : State) (id : Id) : Type 0 where
  pub sound : IsSound d
  pub kind : id.kind ≡ 20
  pub none : log_of d id.instance ≡ None
