use Rattle.std.proofs.Common.{◌++◌, ◌∷◌, [], false, ◌∙◌, arith}
use Rattle.bac_apdu.specs.Apdu.{Complex}
use Rattle.bac_device.specs.Answer.{ack_octets}
use Rattle.bac_device.proofs.Replies.{begun_room, begun_size, begun_with, too_long}
use Rattle.bac_device.proofs.service.read_property.acknowledge.Goals as goal

pub end_within-requires : goal.end_within-requires
end_within-requires c =
    let head = 48 ∷ c.args.invoke ∷ 12 ∷ [] in
    let text = ack_octets c.args.object c.args.request.now.property c.args.request.now.index c.args.values.now in
    begun_room c.write.new.out (head ++ text) (begun_with c.begin_with.new.out c.write.new.out head text c.begin_with.ensures c.in-Ok.ensures.written.0)

pub returns-in-Ok : goal.returns-in-Ok
returns-in-Ok c =
    let head = 48 ∷ c.args.invoke ∷ 12 ∷ [] in
    let text = ack_octets c.args.object c.args.request.now.property c.args.request.now.index c.args.values.now in
    c.end_within.ensures (Complex false c.args.invoke 12 text) (begun_with c.begin_with.new.out c.write.new.out head text c.begin_with.ensures c.in-Ok.ensures.written.0)

pub returns-in-Err : goal.returns-in-Err
returns-in-Err c =
    let head = 48 ∷ c.args.invoke ∷ 12 ∷ [] in
    let text = ack_octets c.args.object c.args.request.now.property c.args.request.now.index c.args.values.now in
    c.abort.ensures ∙ too_long c.args.limit c.args.invoke (Complex false c.args.invoke 12 text) (omega (arith, c.requires, c.in-Err.ensures.written.1, begun_size c.begin_with.new.out head c.begin_with.ensures))
