use Rattle.std.proofs.Common.{◌≡◌, ◌+◌, length}
use Rattle.bac_known.specs.Known.{records_behind}
use Rattle.bac_known.proofs.known.records_behind.Given as goal

abbrev pub invariant-loop : goal.invariant-loop
invariant-loop l = record {
  same : records_behind l.number l.records.items ≡ records_behind l.fn.number l.fn.records.items;
  count : length l.records.items + l.counter ≡ length l.fn.records.items;
}
