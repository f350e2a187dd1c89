use Rattle.bac_resume.proofs.Kept.{next_number}
use Rattle.bac_resume.proofs.laws.next_is_number.Goals as goal

pub returns : goal.returns
returns c = next_number
