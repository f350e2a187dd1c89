-- What is still to be printed makes the whole.
use Rattle.std.proofs.Common.{◌+◌, ◌-◌}
use Rattle.bac_query.specs.Reading.{Answer, Held, printing}
use Rattle.bac_query.specs.Tables.{PrintsEach, PrintsPlace, client}
use Rattle.bac_query.proofs.table.print_places.Given as goal

abbrev pub invariant-loop-place : goal.invariant-loop-place
invariant-loop-place g l =
    (result : Answer) (new : _) (has : Held)
    → PrintsEach (PrintsPlace g.L.LogLink.asks) (l.place + 1) (l.count - l.place) (printing (client l.link l.transactions) (g.W.Write.contents l.out)) result (printing new has)
    → PrintsEach (PrintsPlace g.L.LogLink.asks) 1 l.count (printing (client l.initial.link l.initial.transactions) (g.W.Write.contents l.initial.out)) result (printing new has)
