use Rattle.bac_plan.proofs.AskedLemmas.{named_asked}
use Rattle.bac_plan.proofs.laws.named_logs_are_asked.Goals as goal

pub returns : goal.returns
returns c = named_asked
