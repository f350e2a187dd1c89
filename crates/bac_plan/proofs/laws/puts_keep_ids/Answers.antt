use Rattle.bac_plan.proofs.Told.{keep_ids}
use Rattle.bac_plan.proofs.laws.puts_keep_ids.Goals as goal

pub returns : goal.returns
returns c = keep_ids
