use Rattle.bac_resume.proofs.Kept.{where_stopped}
use Rattle.bac_resume.proofs.laws.goes_on_where_it_stopped.Goals as goal

pub returns : goal.returns
returns c = where_stopped
