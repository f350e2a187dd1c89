use Rattle.bac_walk.proofs.RestAll.{rest_resumes}
use Rattle.bac_walk.proofs.laws.rest_resumes.Goals as goal

pub returns : goal.returns
returns c = rest_resumes
