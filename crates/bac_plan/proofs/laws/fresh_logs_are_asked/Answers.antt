use Rattle.bac_plan.proofs.AskedLemmas.{fresh_asked}
use Rattle.bac_plan.proofs.laws.fresh_logs_are_asked.Goals as goal

pub returns : goal.returns
returns c = fresh_asked
