use Rattle.std.proofs.Common.{Err, refl}
use Rattle.bac_query.specs.Tables.{client}
use Rattle.bac_query.proofs.Tables.{line_of, no_line}
use Rattle.bac_query.proofs.table.print_row.Goals as goal

pub returns : goal.returns
returns g c =
    no_line g.L.LogLink.asks c.args.log (client c.args.link.now c.args.transactions.now) (client c.add_row.new.link c.add_row.new.transactions)
    c.new-line.result.items c.add_row.new.text.items (g.W.Write.contents c.args.out.now) c.in-Err.fault (Err c.in-Err.fault)
    c.new-line.ensures.items refl c.in-Err.ensures

pub returns-in-Ok : goal.returns-in-Ok
returns-in-Ok g c =
    line_of g.L.LogLink.asks c.args.log (client c.args.link.now c.args.transactions.now) (client c.add_row.new.link c.add_row.new.transactions)
    c.new-line.result.items c.add_row.new.text.items c.deref.result.now (g.W.Write.contents c.args.out.now) (g.W.Write.contents c.print.new.out) c.print.result
    c.new-line.ensures.items c.deref.ensures.value c.in-Ok.ensures c.print.ensures
