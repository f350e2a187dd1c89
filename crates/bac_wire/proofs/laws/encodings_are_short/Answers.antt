use Rattle.bac_wire.proofs.Sizes.{length-unsigned, length-signed, few_octets, some_octets, few_behind, some_behind}
use Rattle.bac_wire.proofs.laws.encodings_are_short.Goals as goal

pub returns-clause-unsigned : goal.returns-clause-unsigned
returns-clause-unsigned c = length-unsigned

pub returns-clause-signed : goal.returns-clause-signed
returns-clause-signed c = length-signed

pub returns-clause-few : goal.returns-clause-few
returns-clause-few c = few_octets

pub returns-clause-value : goal.returns-clause-value
returns-clause-value c = some_octets

pub returns-clause-few_behind : goal.returns-clause-few_behind
returns-clause-few_behind c = few_behind

pub returns-clause-context : goal.returns-clause-context
returns-clause-context c = some_behind
