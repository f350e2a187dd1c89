use Rattle.std.proofs.Common.{◌≡◌, ◌-◌, ℕ, List, Option, length, Ok}
use Rattle.bac_log.specs.declared.entry.Entry.{Entry}
use Rattle.bac_log.specs.RecordReading.{entries_at}
use Rattle.bac_walk.specs.Sinks.{PutAll}
use Rattle.bac_walk.specs.Walks.{with_numbers}
use Rattle.bac_walk.specs.Spelled.{records_from}
use Rattle.bac_walk.proofs.sink.put_all.Given as goal

-- the octets that are left are the records that are still put, which make the whole
abbrev pub invariant-loop-taken : goal.invariant-loop-taken
invariant-loop-taken g l =
    (es : List Entry) × (entries_at (length l.octets - l.taken) l.rest ≡ Ok es)
    × ((refused : Option ℕ) (new : _) → PutAll g.S.Sink.puts l.sink l.before (with_numbers l.number es) refused new →
    PutAll g.S.Sink.puts l.fn.sink l.fn.gap (records_from l.fn.first l.fn.octets) refused new)
