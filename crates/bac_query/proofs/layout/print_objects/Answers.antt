use Rattle.std.proofs.Common.{◌++◌, ◌∙◌, ap}
use Rattle.bac_query.proofs.Rows.{json_printed}
use Rattle.bac_query.proofs.layout.print_objects.Goals as goal

pub returns-in-Ok : goal.returns-in-Ok
returns-in-Ok g c =
    let (rows, are, is) = c.in-Ok.ensures in
    json_printed c.args.items.now rows c.deref.result.now c.print.result (g.W.Write.contents c.args.out.now) (g.W.Write.contents c.print.new.out) are
    (c.deref.ensures.value ∙ is ∙ ap (λ l. l ++ rows) c.clear.ensures.items) c.print.ensures
