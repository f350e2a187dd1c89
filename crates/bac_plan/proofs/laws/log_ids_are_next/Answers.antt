use Rattle.bac_plan.proofs.IdLemmas.{log_ids}
use Rattle.bac_plan.proofs.laws.log_ids_are_next.Goals as goal

pub returns : goal.returns
returns c = log_ids
