use Rattle.bac_resume.proofs.Behind.{behind_records}
use Rattle.bac_resume.proofs.laws.goes_on_behind_records.Goals as goal

pub returns : goal.returns
returns c = behind_records
