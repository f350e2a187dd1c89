use Rattle.std.proofs.Common.{codes, decimal, sym, refl, ◌++◌}
use Rattle.bac_tools.specs.Flaws.{around, in_all, reply_text}
use Rattle.bac_print.proofs.Parts.{three}
use Rattle.bac_tools.proofs.Parts.{two}
use Rattle.bac_tools.proofs.flaw.push_unasked.Goals as goal

pub returns : goal.returns
unfolding reply_text
returns c =
    let count = around (codes " on; asked for were ") c.args.asked (codes " from number ") in
    let on = around (codes "") c.from-2.result (codes " on") in
    rw (sym c.from.ensures, sym c.from-2.ensures)
    (three c.push_around-2.result c.args.text.now.items (in_all c.args.records (codes " in all, from number ")) (decimal c.from.result) (count ++ on)
    c.push_records.new.text.items c.push_number.new.text.items c.push_around-2.new.text.items
    c.in_ok-push_records.ensures c.in_ok-push_number.ensures
    (two c.push_around-2.result c.push_number.new.text.items count on on
    c.push_around.new.text.items c.push_around-2.new.text.items c.in_ok-push_around.ensures refl c.push_around-2.ensures))
