use Rattle.std.proofs.Common.{refl}
use Rattle.bac_query.specs.Tables.{client}
use Rattle.bac_query.proofs.Tables.{told_whole, untold_whole}
use Rattle.bac_query.proofs.table.print_objects.Goals as goal

pub returns-in-Some : goal.returns-in-Some
returns-in-Some g c =
    let (datagram, said, tells) = c.in-Some.ensures.found in
    told_whole g.L.LogLink.asks c.whole_list.result (client c.args.link.now c.args.transactions.now)
    (client c.ask-answer.new.link c.ask-answer.new.transactions) (client c.print_among.new.link c.print_among.new.transactions) c.ask-answer.result
    datagram c.in-Some.values.now c.args.count c.print_among.result (g.W.Write.contents c.args.out.now) (g.W.Write.contents c.print_among.new.out)
    c.whole_list.ensures c.ask-answer.ensures said tells c.print_among.ensures

pub returns-in-None : goal.returns-in-None
returns-in-None g c =
    untold_whole g.L.LogLink.asks c.whole_list.result (client c.args.link.now c.args.transactions.now)
    (client c.ask-answer.new.link c.ask-answer.new.transactions) (client c.print_places.new.link c.print_places.new.transactions) c.ask-answer.result
    c.args.count c.print_places.result (g.W.Write.contents c.args.out.now) (g.W.Write.contents c.print_places.new.out)
    c.whole_list.ensures c.ask-answer.ensures (c.in-None.ensures.none refl) c.print_places.ensures
