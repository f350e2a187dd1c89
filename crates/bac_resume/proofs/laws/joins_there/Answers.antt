use Rattle.bac_resume.proofs.Behind.{joins}
use Rattle.bac_resume.proofs.laws.joins_there.Goals as goal

pub returns : goal.returns
returns c = joins
