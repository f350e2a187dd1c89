use Rattle.bac_poll_laws.proofs.ByRecords.{by_records}
use Rattle.bac_poll_laws.proofs.laws.questions_by_records.Goals as goal

pub returns : goal.returns
returns c = by_records
