use Rattle.std.proofs.Common.{rules, arith, ◌<◌, length}
use Rattle.bac_query.specs.Tables.{PrintsRows, client}
use Rattle.bac_query.proofs.Tables.{next_row, no_row, split}
use Rattle.bac_query.proofs.table.print_rows.Goals as goal
use Rattle.bac_query.specs.Reading.{printing}

pub loop-log-preserved : goal.loop-log-preserved
loop-log-preserved g c =
    let less : c.loop-log.log-index < length c.args.logs.now = omega arith in
    next_row g.L.LogLink.asks c.args.logs.now c.loop-log.log-index c.log-item.result
    (client c.loop-log.link c.loop-log.transactions) (client c.print_row.new.link c.print_row.new.transactions)
    (g.W.Write.contents c.loop-log.out) (g.W.Write.contents c.print_row.new.out)
    (λ result new has. PrintsRows g.L.LogLink.asks c.args.logs.now (printing (client c.args.link.now c.args.transactions.now) (g.W.Write.contents c.args.out.now)) result (printing new has))
    (split c.args.logs.now c.loop-log.log-index c.log-item.result c.log-item.result less c.log-item.is)
    c.in_ok-print_row.ensures c.loop-log.invariant

pub returns-in_err-print_row : goal.returns-in_err-print_row
returns-in_err-print_row g c =
    let less : c.loop-log.log-index < length c.args.logs.now = omega arith in
    no_row g.L.LogLink.asks c.args.logs.now c.loop-log.log-index c.log-item.result
    (client c.loop-log.link c.loop-log.transactions) (client c.print_row.new.link c.print_row.new.transactions)
    (g.W.Write.contents c.loop-log.out) (g.W.Write.contents c.print_row.new.out) c.in_err-print_row.field-0.0
    (λ result new has. PrintsRows g.L.LogLink.asks c.args.logs.now (printing (client c.args.link.now c.args.transactions.now) (g.W.Write.contents c.args.out.now)) result (printing new has))
    c.from_residual.result (search rules)
    (split c.args.logs.now c.loop-log.log-index c.log-item.result c.log-item.result less c.log-item.is)
    c.in_err-print_row.ensures c.loop-log.invariant
