use Rattle.std.proofs.Common.{arith, ◌<◌, ◌∙◌, Err, ap}
use Rattle.std.proofs.lemmas.Result.{err_from_is_err_and}
use Rattle.bac_query.specs.Tables.{PrintsEach, PrintsListedAt, client}
use Rattle.bac_query.proofs.Tables.{next_place, no_place}
use Rattle.bac_query.proofs.table.print_among.Goals as goal
use Rattle.bac_query.specs.Reading.{printing}

pub print_listed_at-requires-clause-is : goal.print_listed_at-requires-clause-is
print_listed_at-requires-clause-is g c = c.requires.1 c.loop-place.place c.loop-place-test.true

pub loop-place-preserved : goal.loop-place-preserved
loop-place-preserved g c =
    let less : c.loop-place.place < c.args.count = omega arith in
    next_place (PrintsListedAt g.L.LogLink.asks c.args.values.now) c.loop-place.place c.loop-place.place c.args.count
    (client c.loop-place.link c.loop-place.transactions) (client c.print_listed_at.new.link c.print_listed_at.new.transactions)
    (g.W.Write.contents c.loop-place.out) (g.W.Write.contents c.print_listed_at.new.out)
    (λ result new has. PrintsEach (PrintsListedAt g.L.LogLink.asks c.args.values.now) 0 c.args.count (printing (client c.args.link.now c.args.transactions.now) (g.W.Write.contents c.args.out.now)) result (printing new has))
    less c.in_ok-print_listed_at.ensures c.loop-place.invariant

pub returns-in_err-print_listed_at : goal.returns-in_err-print_listed_at
returns-in_err-print_listed_at g c =
    let less : c.loop-place.place < c.args.count = omega arith in
    let err = err_from_is_err_and c.from_residual.result c.from_residual.ensures.1 in
    no_place (PrintsListedAt g.L.LogLink.asks c.args.values.now) c.loop-place.place c.loop-place.place c.args.count
    (client c.loop-place.link c.loop-place.transactions) (client c.print_listed_at.new.link c.print_listed_at.new.transactions)
    (g.W.Write.contents c.loop-place.out) (g.W.Write.contents c.print_listed_at.new.out) c.in_err-print_listed_at.field-0.0
    (λ result new has. PrintsEach (PrintsListedAt g.L.LogLink.asks c.args.values.now) 0 c.args.count (printing (client c.args.link.now c.args.transactions.now) (g.W.Write.contents c.args.out.now)) result (printing new has))
    c.from_residual.result (err.1 ∙ ap Err err.2)
    less c.in_err-print_listed_at.ensures c.loop-place.invariant
