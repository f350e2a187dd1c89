use Rattle.std.proofs.Common.{◌∙◌}
use Rattle.bac_apdu.proofs.Ended.{ended, told}
use Rattle.bac_apdu.proofs.frame.end_datagram.Goals as goal

pub returns-clause-ended : goal.returns-clause-ended
returns-clause-ended c = λ before body is e.
    told c.args.start c.args.out.now c.octets.result.now c.to_be_bytes.result c.set.new.self c.set-2.new.self c.octets.ensures.value c.to_be_bytes.ensures c.set.ensures c.set-2.ensures
    ∙ ended c.args.start c.args.out.now before body is e
