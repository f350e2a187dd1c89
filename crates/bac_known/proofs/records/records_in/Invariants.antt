use Rattle.std.proofs.Common.{◌≡◌, ◌-◌, ◌++◌, ◌≤◌, length}
use Rattle.std.specs.Option.{option_map}
use Rattle.std.specs.Result.{result_ok}
use Rattle.bac_log.specs.RecordReading.{entries_at}
use Rattle.bac_walk.specs.Walks.{with_numbers}
use Rattle.bac_known.specs.Records.{numbered_in}
use Rattle.bac_known.proofs.records.records_in.Given as goal

-- what came and what the octets still hold is the whole
abbrev pub invariant-loop-taken : goal.invariant-loop-taken
invariant-loop-taken l = record {
  few : l.taken ≤ length l.octets;
  whole : numbered_in l.fn.first l.fn.octets ≡ option_map (λ es. l.records.items ++ with_numbers l.number es) (result_ok (entries_at (length l.octets - l.taken) l.rest));
}
