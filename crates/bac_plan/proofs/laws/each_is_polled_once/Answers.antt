use Rattle.bac_plan.proofs.Polled.{polled_once}
use Rattle.bac_plan.proofs.laws.each_is_polled_once.Goals as goal

pub returns : goal.returns
returns c = polled_once
