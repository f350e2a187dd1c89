use Rattle.bac_wire.specs.Canon.{contents_of, canon_context}
use Rattle.bac_wire.proofs.Canonical.{context_is, context_stands}
use Rattle.bac_wire.proofs.Contents.{contents_again}
use Rattle.bac_wire.proofs.Values.{context_again}
use Rattle.bac_wire.proofs.laws.context_is_read_back.Goals as goal

pub returns-clause-contents : goal.returns-clause-contents
returns-clause-contents c = λ tag value rest small v. context_again tag (contents_of value) (canon_context tag value) rest (context_is tag value small v)

pub returns-clause-value : goal.returns-clause-value
returns-clause-value c = λ value v. contents_again (contents_of value) value (context_stands value v).0
