use Rattle.std.proofs.Common.{rules, ◌≡◌, ◌++◌, decimal}
use Rattle.bac_query.specs.Tables.{client}
use Rattle.bac_query.proofs.Tables.{no_cells, no_end, whole_row}
use Rattle.bac_query.proofs.table.add_row.Goals as goal

pub returns-in_err-add_cells : goal.returns-in_err-add_cells
returns-in_err-add_cells g c =
    let begun : c.push_number.new.text.items ≡ c.args.text.now.items ++ decimal c.args.log.instance =
    cc (c.in_ok-push_number.ensures, c.from.ensures, c.instance.ensures.value) in
    no_cells g.L.LogLink.asks c.args.log (client c.args.link.now c.args.transactions.now) (client c.add_cells.new.link c.add_cells.new.transactions)
    c.args.text.now.items c.push_number.new.text.items c.add_cells.new.text.items c.add_cells.new.text.items
    c.in_err-add_cells.field-0.0 c.from_residual-in_err-add_cells.result begun (search rules) c.in_err-add_cells.ensures

pub returns-in_err-extend_from_slice : goal.returns-in_err-extend_from_slice
returns-in_err-extend_from_slice g c =
    let begun : c.push_number.new.text.items ≡ c.args.text.now.items ++ decimal c.args.log.instance =
    cc (c.in_ok-push_number.ensures, c.from.ensures, c.instance.ensures.value) in
    no_end g.L.LogLink.asks c.args.log (client c.args.link.now c.args.transactions.now) (client c.add_cells.new.link c.add_cells.new.transactions)
    c.args.text.now.items c.push_number.new.text.items c.add_cells.new.text.items c.extend_from_slice.new.self.items
    c.from_residual-in_err-extend_from_slice.result begun (search rules) c.in_ok-add_cells.ensures

pub returns : goal.returns
returns g c =
    let begun : c.push_number.new.text.items ≡ c.args.text.now.items ++ decimal c.args.log.instance =
    cc (c.in_ok-push_number.ensures, c.from.ensures, c.instance.ensures.value) in
    whole_row g.L.LogLink.asks c.args.log (client c.args.link.now c.args.transactions.now) (client c.add_cells.new.link c.add_cells.new.transactions)
    c.args.text.now.items c.push_number.new.text.items c.add_cells.new.text.items c.extend_from_slice.new.self.items
    begun c.in_ok-extend_from_slice.ensures.items c.in_ok-add_cells.ensures
