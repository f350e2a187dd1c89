use Rattle.std.proofs.Common.{◌≡◌, ◌++◌, ◌<◌, drop, map, length}
use Rattle.bac_objects.specs.Properties.{slot_value}
use Rattle.bac_objects.specs.Reading.{values_octets}
use Rattle.bac_objects.proofs.reading.all_slots.Given as goal

-- what is written, and what isn't yet
abbrev pub invariant-loop-slot : goal.invariant-loop-slot
invariant-loop-slot l = record {
  whole : l.out ++ values_octets (map slot_value (drop l.slot-index l.slots)) ≡ values_octets (map slot_value l.slots);
  fits : length l.out < 1502;
}
