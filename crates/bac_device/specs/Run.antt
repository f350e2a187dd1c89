-- What a device makes of events, one after the other.
use Rattle.std.specs.Prelude.{◌≡◌, ℕ, List, [], ◌∷◌, ◌++◌, fold, map, Option, None, Some, Result, Ok, Err}
use Rattle.bac_wire.specs.Stamp.{CivilTime}
use Rattle.bac_objects.specs.Sampling.{sampled}
use Rattle.bac_objects.specs.State.{State}
use Rattle.bac_objects.specs.declared.sampling.SampleFault.{SampleFault}
use Rattle.bac_device.specs.Answer.{answer}
use Rattle.bac_device.specs.Clock.{advanced}
use Rattle.bac_device.specs.History.{after}
use Rattle.bac_device.specs.declared.run.Event.{Event as EventCode}
use Rattle.bac_device.specs.declared.run.Event.TheVariants as code
use Rattle.bac_device.specs.declared.run.Outcome.{Outcome}
use Rattle.bac_device.specs.declared.run.Outcome.TheVariants as outcome

-- a datagram comes, the Trend Log with an instance is to take a sample, the clock goes on
pub data Event : Type 0 where
  Datagram : List ℕ → Event
  Sample : ℕ → Event
  Advance : CivilTime → Event

-- an event of the code, apart from where its octets lie in memory
abbrev pub event_of : EventCode → Event
event_of (code.Datagram octets) = Datagram octets.now
event_of (code.Sample instance) = Sample instance
event_of (code.Advance stamp) = Advance stamp

-- ---- one event: its outcome, and the device after it

-- the outcome of a sample on demand; a fault leaves the device as it was
abbrev pub after_sample : State → Result (ℕ × State) SampleFault → Outcome × State
after_sample d (Ok said) = (outcome.Sample (Ok said.0), said.1)
after_sample d (Err fault) = (outcome.Sample (Err fault), d)

-- the outcome of an advance; a clock that would go back leaves the device as it was
abbrev pub after_clock : State → Option (ℕ × State) → Outcome × State
after_clock d (Some said) = (outcome.Advance (Ok said.0), said.1)
after_clock d None = (outcome.Advance (Err (record {})), d)

-- what one event brings, and the device after it
abbrev pub step : State → Event → Outcome × State
step d (Datagram octets) = (outcome.Datagram (answer d octets).0, (answer d octets).1)
step d (Sample instance) = after_sample d (sampled d instance)
step d (Advance stamp) = after_clock d (advanced d stamp)

-- ---- events

-- the outcome of each
abbrev pub outcomes_of : State → List Event → List Outcome
outcomes_of d [] = []
outcomes_of d (event ∷ events) = (step d event).0 ∷ outcomes_of (step d event).1 events

-- the device after all of them
abbrev pub left_by : State → List Event → State
left_by d events = fold (λ now event. (step now event).1) d events

-- ---- laws

-- a run is that of its first events, and then that of the rest
abbrev pub RunsAreJoined : Type 0
RunsAreJoined =
    (d : State) (first rest : List Event)
    → (outcomes_of d (first ++ rest) ≡ outcomes_of d first ++ outcomes_of (left_by d first) rest)
    × (left_by d (first ++ rest) ≡ left_by (left_by d first) rest)

-- datagrams alone leave what History says
abbrev pub RunsOfDatagrams : Type 0
RunsOfDatagrams =
    (d : State) (datagrams : List (List ℕ)) → left_by d (map (λ octets. Datagram octets) datagrams) ≡ after d datagrams
