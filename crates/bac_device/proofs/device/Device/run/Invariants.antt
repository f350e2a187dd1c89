use Rattle.std.proofs.Common.{◌≡◌, ◌≤◌, ◌++◌, drop, length, map, vec_capacity}
use Rattle.bac_device.specs.Run.{event_of, left_by, outcomes_of}
use Rattle.bac_device.proofs.device.Device.run.Given as goal

-- the outcomes so far and those of what is left are those of all
abbrev pub invariant-loop-event : goal.invariant-loop-event
invariant-loop-event l = record {
  said : l.outcomes.items ++ outcomes_of l.self (map event_of (drop l.event-index l.events)) ≡ outcomes_of l.fn.self (map event_of l.events);
  left : left_by l.self (map event_of (drop l.event-index l.events)) ≡ left_by l.fn.self (map event_of l.events);
  count : length l.outcomes.items ≡ l.event-index;
  room : length l.events ≤ vec_capacity l.outcomes;
}
