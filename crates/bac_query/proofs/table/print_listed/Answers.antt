use Rattle.std.proofs.Common.{refl}
use Rattle.bac_query.specs.Tables.{client}
use Rattle.bac_query.proofs.Tables.{lost_list, told_list, untold_list}
use Rattle.bac_query.proofs.table.print_listed.Goals as goal

pub returns-in-Err : goal.returns-in-Err
returns-in-Err g c =
    lost_list g.L.LogLink.asks c.list_at.result (client c.args.link.now c.args.transactions.now)
    (client c.ask.new.link c.ask.new.transactions) c.ask.result c.in-Err.fault (g.W.Write.contents c.args.out.now)
    c.list_at.ensures c.in-Err.is c.ask.ensures

pub returns-in-Some : goal.returns-in-Some
returns-in-Some g c =
    told_list g.L.LogLink.asks c.list_at.result (client c.args.link.now c.args.transactions.now)
    (client c.ask.new.link c.ask.new.transactions) (client c.print_objects.new.link c.print_objects.new.transactions) c.ask.result
    c.in-Ok.datagram c.in-Some.count c.print_objects.result (g.W.Write.contents c.args.out.now) (g.W.Write.contents c.print_objects.new.out)
    c.list_at.ensures c.in-Ok.is c.ask.ensures (c.in-Some.ensures.small, c.in-Some.ensures.found) c.print_objects.ensures

pub returns-in-None : goal.returns-in-None
returns-in-None g c =
    untold_list g.L.LogLink.asks c.list_at.result (client c.args.link.now c.args.transactions.now)
    (client c.ask.new.link c.ask.new.transactions) c.ask.result c.in-Ok.datagram (g.W.Write.contents c.args.out.now)
    c.list_at.ensures c.in-Ok.is c.ask.ensures (λ count tells. c.in-None.ensures.none refl count tells.0 tells.1)
