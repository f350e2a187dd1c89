use Rattle.bac_plan.proofs.IdLemmas.{device_ids}
use Rattle.bac_plan.proofs.laws.device_ids_are_next.Goals as goal

pub returns : goal.returns
returns c = device_ids
