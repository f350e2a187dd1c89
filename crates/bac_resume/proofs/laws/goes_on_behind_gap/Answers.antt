use Rattle.bac_resume.proofs.Behind.{behind_gap}
use Rattle.bac_resume.proofs.laws.goes_on_behind_gap.Goals as goal

pub returns : goal.returns
returns c = behind_gap
