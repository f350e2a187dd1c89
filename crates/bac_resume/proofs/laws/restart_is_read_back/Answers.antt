use Rattle.bac_resume.proofs.Kept.{restart_back}
use Rattle.bac_resume.proofs.laws.restart_is_read_back.Goals as goal

pub returns : goal.returns
returns c = restart_back
