use Rattle.std.proofs.Common.{ap, sym, ◌∙◌}
use Rattle.bac_apdu.specs.Npdu.{maybe_place_of}
use Rattle.bac_device.specs.Reply.{datagram_to}
use Rattle.bac_device.proofs.Said.{plain_same}
use Rattle.bac_device.proofs.reply.send_back.Goals as goal

pub returns-in-None : goal.returns-in-None
returns-in-None c = λ m short e. e ∙ plain_same m ∙ sym (ap (λ source. datagram_to (maybe_place_of source) m) c.in-None.is)
