use Rattle.std.proofs.Common.{◌≡◌, ◌+◌, ◌-◌, ◌≤◌, ◌++◌, List, length, Ok}
use Rattle.bac_log.specs.declared.entry.Entry.{Entry}
use Rattle.bac_log.specs.RecordReading.{entries_at}
use Rattle.bac_walk.specs.Walks.{with_numbers}
use Rattle.bac_walk.specs.Spelled.{records_from}
use Rattle.bac_walk.proofs.walk.numbered_from.Given as goal

-- what the octets still hold makes the whole
abbrev pub invariant-loop-taken : goal.invariant-loop-taken
invariant-loop-taken l =
    (es : List Entry) × (entries_at (length l.octets - l.taken) l.rest ≡ Ok es)
    × (length l.numbered.items + length es ≤ 100) × (records_from l.fn.first l.fn.octets ≡ l.numbered.items ++ with_numbers l.number es)
