use Rattle.std.proofs.Common.{rules, arith, ◌<◌, ◌+◌}
use Rattle.bac_query.specs.Tables.{PrintsEach, PrintsPlace, client}
use Rattle.bac_query.proofs.Tables.{next_place, no_place}
use Rattle.bac_query.proofs.table.print_places.Goals as goal
use Rattle.bac_query.specs.Reading.{printing}

pub loop-place-preserved : goal.loop-place-preserved
loop-place-preserved g c =
    let less : c.loop-place.place < c.args.count = omega arith in
    next_place (PrintsPlace g.L.LogLink.asks) (c.loop-place.place + 1) c.loop-place.place c.args.count
    (client c.loop-place.link c.loop-place.transactions) (client c.print_place.new.link c.print_place.new.transactions)
    (g.W.Write.contents c.loop-place.out) (g.W.Write.contents c.print_place.new.out)
    (λ result new has. PrintsEach (PrintsPlace g.L.LogLink.asks) 1 c.args.count (printing (client c.args.link.now c.args.transactions.now) (g.W.Write.contents c.args.out.now)) result (printing new has))
    less c.in_ok-print_place.ensures c.loop-place.invariant

pub returns-in_err-print_place : goal.returns-in_err-print_place
returns-in_err-print_place g c =
    let less : c.loop-place.place < c.args.count = omega arith in
    no_place (PrintsPlace g.L.LogLink.asks) (c.loop-place.place + 1) c.loop-place.place c.args.count
    (client c.loop-place.link c.loop-place.transactions) (client c.print_place.new.link c.print_place.new.transactions)
    (g.W.Write.contents c.loop-place.out) (g.W.Write.contents c.print_place.new.out) c.in_err-print_place.field-0.0
    (λ result new has. PrintsEach (PrintsPlace g.L.LogLink.asks) 1 c.args.count (printing (client c.args.link.now c.args.transactions.now) (g.W.Write.contents c.args.out.now)) result (printing new has))
    c.from_residual.result (search rules)
    less c.in_err-print_place.ensures c.loop-place.invariant
