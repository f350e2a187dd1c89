use Rattle.std.proofs.Common.{◌≡◌, drop}
use Rattle.bac_memory_link.specs.Events.{played}
use Rattle.bac_memory_link.proofs.direct_link.play.Given as goal

-- what all the events lead to, those that are left lead to
abbrev pub invariant-loop-event : goal.invariant-loop-event
invariant-loop-event l = record {
  count : l.count ≡ l.event-index;
  played : played l.fn.device l.events ≡ played l.device (drop l.event-index l.events);
}
