use Rattle.bac_apdu.proofs.Flags.{one_octet, other_bits}
use Rattle.bac_apdu.proofs.service.read_range_ack.is_three_bits.Goals as goal

pub returns-then-unused-eq5-clause-value : goal.returns-then-unused-eq5-clause-value
returns-then-unused-eq5-clause-value c = one_octet c.args.unused c.args.octets.now c.if-unused-eq5.true

pub returns-else-unused-eq5-clause-value : goal.returns-else-unused-eq5-clause-value
returns-else-unused-eq5-clause-value c = other_bits c.args.unused c.args.octets.now c.requires c.if-unused-eq5.false
