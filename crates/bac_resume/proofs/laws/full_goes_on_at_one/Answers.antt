use Rattle.bac_resume.proofs.Behind.{full_one}
use Rattle.bac_resume.proofs.laws.full_goes_on_at_one.Goals as goal

pub returns : goal.returns
returns c = full_one
