use Rattle.std.proofs.Common.{◌≡◌, ◌+◌, ◌-◌, ◌≤◌, length}
use Rattle.bac_walk.specs.Flaws.{records_before}
use Rattle.bac_walk.proofs.flaw.records_before.Given as goal

-- the records that were passed, and those in front of what is left, are all of them
abbrev pub invariant-loop-taken : goal.invariant-loop-taken
invariant-loop-taken l = record {
  few : l.taken ≤ length l.octets;
  all : l.taken + records_before (length l.octets - l.taken) l.rest ≡ records_before (length l.octets) l.octets;
}
