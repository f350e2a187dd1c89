use Rattle.std.proofs.Common.{[], arith}
use Rattle.bac_apdu.specs.Apdu.{apdu_of, apdu_octets}
use Rattle.bac_device.proofs.Replies.{begun_size, begun_with, fits_in}
use Rattle.bac_device.proofs.reply.begin_with.Goals as goal

pub unwrap-requires : goal.unwrap-requires
unwrap-requires c =
    (fits_in c.begin.new.out (apdu_octets (apdu_of c.args.apdu.now)) c.write_apdu.result c.write_apdu.new.out c.write_apdu.ensures (omega (arith, begun_size c.begin.new.out [] c.begin.ensures, c.requires.short))).0

pub returns : goal.returns
returns c =
    let text = apdu_octets (apdu_of c.args.apdu.now) in
    begun_with c.begin.new.out c.write_apdu.new.out [] text c.begin.ensures
    (fits_in c.begin.new.out text c.write_apdu.result c.write_apdu.new.out c.write_apdu.ensures (omega (arith, begun_size c.begin.new.out [] c.begin.ensures, c.requires.short))).1
