use Rattle.std.proofs.Common.{refl}
use Rattle.bac_query.specs.Tables.{client}
use Rattle.bac_query.proofs.Tables.{lost_place, told_place, untold_place}
use Rattle.bac_query.proofs.table.print_place.Goals as goal

pub returns-in-Err : goal.returns-in-Err
returns-in-Err g c =
    lost_place g.L.LogLink.asks c.args.place c.list_at.result (client c.args.link.now c.args.transactions.now)
    (client c.ask.new.link c.ask.new.transactions) c.ask.result c.in-Err.fault (g.W.Write.contents c.args.out.now)
    c.list_at.ensures c.in-Err.is c.ask.ensures

pub returns-in-Some : goal.returns-in-Some
returns-in-Some g c =
    told_place g.L.LogLink.asks c.args.place c.list_at.result (client c.args.link.now c.args.transactions.now)
    (client c.ask.new.link c.ask.new.transactions) (client c.print_object.new.link c.print_object.new.transactions) c.ask.result
    c.in-Ok.datagram c.in-Some.object c.print_object.result (g.W.Write.contents c.args.out.now) (g.W.Write.contents c.print_object.new.out)
    c.list_at.ensures c.in-Ok.is c.ask.ensures c.in-Some.ensures.found c.print_object.ensures

pub returns-in-None : goal.returns-in-None
returns-in-None g c =
    untold_place g.L.LogLink.asks c.args.place c.list_at.result (client c.args.link.now c.args.transactions.now)
    (client c.ask.new.link c.ask.new.transactions) c.ask.result c.in-Ok.datagram (g.W.Write.contents c.args.out.now)
    c.list_at.ensures c.in-Ok.is c.ask.ensures (λ object tells. c.in-None.ensures.none refl object tells)
