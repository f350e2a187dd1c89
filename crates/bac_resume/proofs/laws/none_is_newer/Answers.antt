use Rattle.bac_resume.proofs.Kept.{no_newer}
use Rattle.bac_resume.proofs.laws.none_is_newer.Goals as goal

pub returns : goal.returns
returns c = no_newer
