use Rattle.bac_wire.specs.Canon.{canon}
use Rattle.bac_wire.proofs.Canonical.{canon_spells}
use Rattle.bac_wire.proofs.Values.{at_again}
use Rattle.bac_wire.proofs.laws.value_is_read_back.Goals as goal

pub returns : goal.returns
returns c = λ value rest v. at_again value (canon value) rest (canon_spells value v)
