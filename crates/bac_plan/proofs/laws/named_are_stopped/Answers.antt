use Rattle.bac_plan.proofs.StoppedLemmas.{named_stopped}
use Rattle.bac_plan.proofs.laws.named_are_stopped.Goals as goal

pub returns : goal.returns
returns c = named_stopped
