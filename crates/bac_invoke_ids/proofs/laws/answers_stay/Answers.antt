use Rattle.bac_invoke_ids.proofs.Moved.{answers_taken}
use Rattle.bac_invoke_ids.proofs.laws.answers_stay.Goals as goal

pub returns : goal.returns
returns c = answers_taken
