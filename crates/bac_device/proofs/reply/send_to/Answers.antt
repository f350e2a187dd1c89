use Rattle.std.proofs.Common.{◌∙◌}
use Rattle.bac_apdu.specs.Npdu.{place_of}
use Rattle.bac_device.proofs.Said.{rerouted}
use Rattle.bac_device.proofs.reply.send_to.Goals as goal

pub returns : goal.returns
returns c = λ m short e.
    rerouted (place_of c.args.place) c.octets.result.now c.new-routed.result c.write_datagram.new.out c.write_datagram.result m c.requires.route short
    (c.octets.ensures.value ∙ e) c.new-routed.ensures c.write_datagram.ensures
