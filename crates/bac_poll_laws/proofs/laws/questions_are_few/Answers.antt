use Rattle.bac_poll_laws.proofs.Questions.{questions_few}
use Rattle.bac_poll_laws.proofs.laws.questions_are_few.Goals as goal

pub returns : goal.returns
returns c = questions_few
