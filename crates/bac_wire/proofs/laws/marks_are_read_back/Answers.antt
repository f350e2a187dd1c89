use Rattle.std.proofs.Common.{arith}
use Rattle.bac_wire.specs.Canon.{tag_octets}
use Rattle.bac_wire.proofs.Canonical.{tag_is}
use Rattle.bac_wire.proofs.Values.{mark_again}
use Rattle.bac_wire.proofs.laws.marks_are_read_back.Goals as goal

pub returns-clause-opening : goal.returns-clause-opening
returns-clause-opening c = λ tag rest small. mark_again 6 tag (tag_octets 8 tag 6) rest (omega arith) (tag_is 8 tag 6 small)

pub returns-clause-closing : goal.returns-clause-closing
returns-clause-closing c = λ tag rest small. mark_again 7 tag (tag_octets 8 tag 7) rest (omega arith) (tag_is 8 tag 7 small)
