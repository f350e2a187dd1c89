use Rattle.bac_resume.proofs.Kept.{newest_told}
use Rattle.bac_resume.proofs.laws.newest_are_told.Goals as goal

pub returns : goal.returns
returns c = newest_told
