use Rattle.std.proofs.Common.{◌≡◌, List}
use Rattle.std.specs.Result.{result_ok}
use Rattle.bac_link.specs.Path.{towards}
use Rattle.bac_link.specs.declared.item.Item.{Item}
use Rattle.bac_ports.specs.declared.udp_link.UdpLink.{UdpLink}
use Rattle.bac_walk.specs.Sinks.{put_items}
use Rattle.bac_walk.proofs.Told.{Asking}
use Rattle.bac_query.specs.Ahead.{PrintsOn, pending, port_asks}
use Rattle.bac_query.specs.declared.ahead.Ahead.{Ahead}
use Rattle.bac_query.specs.declared.ahead.Reply.{Reply}
use Rattle.bac_query.proofs.Flaws.{flaw_kept}
use Rattle.bac_query.proofs.RunsAhead.{beside, over_step}
use Rattle.bac_query.proofs.fetching_ahead.step.Goals as goal

abbrev items_of : Reply → List Item
items_of reply = reply.items.items

pub returns-clause-ran : goal.returns-clause-ran
returns-clause-ran g c =
    let asks : Asking (Ahead g.row.P.Denot g.row.W.Denot) = λ old octets answer new. port_asks g.P.Port.sends g.P.Port.receives old.link.now octets answer new.link.now
    × PrintsOn (pending old.layout old.is_refused old.left.now.items (g.W.Write.contents old.out.now)) (pending new.layout new.is_refused new.left.now.items (g.W.Write.contents new.out.now))
    × (new.link.ghost_name ≡ old.link.ghost_name) × (new.out.ghost_name ≡ old.out.ghost_name) × (new.last ≡ result_ok answer) in
    let sink : Reply = record { items = c.clear.new.self } in
    let below : Ahead g.row.P.Denot g.row.W.Denot → UdpLink g.row.P.Denot = λ a. a.link.now in
    over_step below asks (port_asks g.P.Port.sends g.P.Port.receives) (λ a b octets answer h. h.0) items_of (λ a. a.last) (λ a b octets datagram h. h.4) c.args.transactions.now c.deliver-ended.new.transactions
    c.args.ahead.now.link.now.failures c.deliver-ended.new.link.link.now.failures c.args.ahead.now c.deliver-ended.new.link sink c.deliver-ended.new.sink c.args.walk.now c.deliver-ended.new.walk c.deliver-ended.result
    c.args.ahead.now.said_more c.more_last-ahead.result c.more_last-ahead.ensures c.clear.ensures.items c.deliver-ended.ensures.transacted c.deliver-ended.ensures.delivers c.deliver-ended.ensures.told

pub returns-clause-beside : goal.returns-clause-beside
returns-clause-beside g c =
    let asks : Asking (Ahead g.row.P.Denot g.row.W.Denot) = λ old octets answer new. port_asks g.P.Port.sends g.P.Port.receives old.link.now octets answer new.link.now
    × PrintsOn (pending old.layout old.is_refused old.left.now.items (g.W.Write.contents old.out.now)) (pending new.layout new.is_refused new.left.now.items (g.W.Write.contents new.out.now))
    × (new.link.ghost_name ≡ old.link.ghost_name) × (new.out.ghost_name ≡ old.out.ghost_name) × (new.last ≡ result_ok answer) in
    let b = c.deliver-ended.ensures.brought in
    beside asks (λ a. pending a.layout a.is_refused a.left.now.items (g.W.Write.contents a.out.now)) (λ a. a.link.ghost_name) (λ a. a.out.ghost_name) (λ a b octets answer h. (h.1, h.2, h.3))
    (towards c.args.transactions.now.route) c.args.transactions.now.retries c.args.ahead.now c.args.walk.now 1 b.4.0 (put_items b.0) c.deliver-ended.result c.deliver-ended.new.walk c.deliver-ended.new.link b.4.1

pub returns-clause-flaw : goal.returns-clause-flaw
returns-clause-flaw g c =
    let asks : Asking (Ahead g.row.P.Denot g.row.W.Denot) = λ old octets answer new. port_asks g.P.Port.sends g.P.Port.receives old.link.now octets answer new.link.now
    × PrintsOn (pending old.layout old.is_refused old.left.now.items (g.W.Write.contents old.out.now)) (pending new.layout new.is_refused new.left.now.items (g.W.Write.contents new.out.now))
    × (new.link.ghost_name ≡ old.link.ghost_name) × (new.out.ghost_name ≡ old.out.ghost_name) × (new.last ≡ result_ok answer) in
    let below : Ahead g.row.P.Denot g.row.W.Denot → UdpLink g.row.P.Denot = λ a. a.link.now in
    λ bad.
    flaw_kept below (λ a. a.last) asks (port_asks g.P.Port.sends g.P.Port.receives) (λ a b octets answer h. h.0) (λ a b octets datagram h. h.4) (towards c.args.transactions.now.route)
    c.args.transactions.now.retries c.deliver-ended.result c.deliver-ended.new.walk c.deliver-ended.new.link c.last_flaw-ahead.result c.last_flaw-ahead.ensures bad c.deliver-ended.ensures.told
