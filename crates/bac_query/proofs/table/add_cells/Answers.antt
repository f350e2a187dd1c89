use Rattle.std.proofs.Common.{rules, arith, ◌<◌, length, get_or, refl}
use Rattle.bac_query.specs.Tables.{AddsCells, client}
use Rattle.bac_query.proofs.Tables.{next_cell, no_cell, split}
use Rattle.bac_query.proofs.table.add_cells.Goals as goal
use Rattle.bac_query.specs.Reading.{printing}

pub loop-property-preserved : goal.loop-property-preserved
loop-property-preserved g c =
    let less : c.loop-property.property-index < length c.args.properties.now = omega arith in
    next_cell g.L.LogLink.asks c.args.log c.args.properties.now c.loop-property.property-index
    (get_or c.args.properties.now c.loop-property.property-index 0) c.property_of.result
    (client c.loop-property.link c.loop-property.transactions) (client c.add_cell.new.link c.add_cell.new.transactions)
    c.loop-property.text.items c.add_cell.new.text.items
    (λ result after new. AddsCells g.L.LogLink.asks c.args.log c.args.properties.now (printing (client c.args.link.now c.args.transactions.now) c.args.text.now.items) result (printing new after))
    (split c.args.properties.now c.loop-property.property-index (get_or c.args.properties.now c.loop-property.property-index 0) 0 less refl)
    c.property_of.ensures c.in_ok-add_cell.ensures c.loop-property.invariant

pub returns-in_err-add_cell : goal.returns-in_err-add_cell
returns-in_err-add_cell g c =
    let less : c.loop-property.property-index < length c.args.properties.now = omega arith in
    no_cell g.L.LogLink.asks c.args.log c.args.properties.now c.loop-property.property-index
    (get_or c.args.properties.now c.loop-property.property-index 0) c.property_of.result
    (client c.loop-property.link c.loop-property.transactions) (client c.add_cell.new.link c.add_cell.new.transactions)
    c.loop-property.text.items c.add_cell.new.text.items c.in_err-add_cell.field-0.0
    (λ result after new. AddsCells g.L.LogLink.asks c.args.log c.args.properties.now (printing (client c.args.link.now c.args.transactions.now) c.args.text.now.items) result (printing new after))
    c.from_residual.result (search rules)
    (split c.args.properties.now c.loop-property.property-index (get_or c.args.properties.now c.loop-property.property-index 0) 0 less refl)
    c.property_of.ensures c.in_err-add_cell.ensures c.loop-property.invariant
