use Rattle.std.proofs.Common.{[], ◌++◌, refl}
use Rattle.bac_apdu.specs.Apdu.{apdu_octets}
use Rattle.bac_apdu.specs.Npdu.{header_octets}
use Rattle.bac_device.specs.Reply.{begun, datagram_octets, plain}
use Rattle.bac_device.proofs.reply.end.Goals as goal

pub returns : goal.returns
unfolding begun datagram_octets
returns c = λ m e. c.end_datagram.ensures.ended [] (header_octets plain ++ apdu_octets m) refl e
