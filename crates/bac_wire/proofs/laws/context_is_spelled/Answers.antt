use Rattle.bac_wire.proofs.Canonical.{context_is, context_stands, tag_is}
use Rattle.bac_wire.proofs.laws.context_is_spelled.Goals as goal

pub returns-clause-contents : goal.returns-clause-contents
returns-clause-contents c = context_is

pub returns-clause-value : goal.returns-clause-value
returns-clause-value c = λ value v. (context_stands value v).0

pub returns-clause-mark : goal.returns-clause-mark
returns-clause-mark c = λ tag low small. tag_is 8 tag low small
