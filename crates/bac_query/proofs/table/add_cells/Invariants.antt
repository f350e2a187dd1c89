-- What is still to be added makes the whole.
use Rattle.std.proofs.Common.{List, ℕ, drop}
use Rattle.bac_query.specs.Reading.{Answer, printing}
use Rattle.bac_query.specs.Tables.{AddsCells, client}
use Rattle.bac_query.proofs.table.add_cells.Given as goal

abbrev pub invariant-loop-property : goal.invariant-loop-property
invariant-loop-property g l =
    (result : Answer) (after : List ℕ) (new : _)
    → AddsCells g.L.LogLink.asks l.log (drop l.property-index l.properties) (printing (client l.link l.transactions) l.text.items) result (printing new after)
    → AddsCells g.L.LogLink.asks l.log l.properties (printing (client l.initial.link l.initial.transactions) l.initial.text.items) result (printing new after)
