use Rattle.std.proofs.Common.{◌≡◌, ◌+◌, ◌-◌, ◌≤◌, List, length, Ok, Err}
use Rattle.bac_wire.specs.declared.fault.WireFault.{WireFault}
use Rattle.bac_log.specs.declared.entry.Entry.{Entry}
use Rattle.bac_log.specs.RecordReading.{entries_at}
use Rattle.bac_link.specs.Heard.{records_in}
use Rattle.bac_walk.proofs.read.count_of.Given as goal

-- what is still to be read makes the whole
abbrev pub invariant-loop-taken : goal.invariant-loop-taken
invariant-loop-taken l = record {
  few : l.taken ≤ length l.octets;
  more : (es : List Entry) → entries_at (length l.octets - l.taken) l.rest ≡ Ok es →
      (all : List Entry) × (records_in l.octets ≡ Ok all) × (length all ≡ l.taken + length es);
  fault : (f : WireFault) → entries_at (length l.octets - l.taken) l.rest ≡ Err f → (g : WireFault) × (records_in l.octets ≡ Err g);
}
