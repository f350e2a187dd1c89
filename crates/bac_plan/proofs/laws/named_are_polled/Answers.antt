use Rattle.bac_plan.proofs.NamedLemmas.{named_polled}
use Rattle.bac_plan.proofs.laws.named_are_polled.Goals as goal

pub returns : goal.returns
returns c = named_polled
