use Rattle.bac_plan.proofs.Told.{keep_rise, told_own}
use Rattle.bac_plan.proofs.laws.told_have_own_ids.Goals as goal

pub returns-clause-told : goal.returns-clause-told
returns-clause-told c = told_own

pub returns-clause-rise : goal.returns-clause-rise
returns-clause-rise c = keep_rise
