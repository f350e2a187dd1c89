-- What is still to be printed makes the whole.
use Rattle.std.proofs.Common.{drop}
use Rattle.bac_query.specs.Reading.{Answer, Held, printing}
use Rattle.bac_query.specs.Tables.{PrintsRows, client}
use Rattle.bac_query.proofs.table.print_rows.Given as goal

abbrev pub invariant-loop-log : goal.invariant-loop-log
invariant-loop-log g l =
    (result : Answer) (new : _) (has : Held)
    → PrintsRows g.L.LogLink.asks (drop l.log-index l.logs) (printing (client l.link l.transactions) (g.W.Write.contents l.out)) result (printing new has)
    → PrintsRows g.L.LogLink.asks l.logs (printing (client l.initial.link l.initial.transactions) (g.W.Write.contents l.initial.out)) result (printing new has)
