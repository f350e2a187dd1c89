use Rattle.bac_apdu.specs.Apdu.{apdu_of, apdu_octets}
use Rattle.bac_device.proofs.Replies.{begun_room}
use Rattle.bac_device.proofs.reply.write_reply.Goals as goal

pub end-requires : goal.end-requires
end-requires c = begun_room c.begin_with.new.out (apdu_octets (apdu_of c.args.apdu.now)) c.begin_with.ensures

pub returns : goal.returns
returns c = c.end.ensures (apdu_of c.args.apdu.now) c.begin_with.ensures
