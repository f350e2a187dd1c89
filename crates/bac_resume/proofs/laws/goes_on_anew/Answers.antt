use Rattle.bac_resume.proofs.Behind.{anew}
use Rattle.bac_resume.proofs.laws.goes_on_anew.Goals as goal

pub returns : goal.returns
returns c = anew
