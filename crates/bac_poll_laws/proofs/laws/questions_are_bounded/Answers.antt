use Rattle.bac_poll_laws.proofs.Bounds.{questions_bounded}
use Rattle.bac_poll_laws.proofs.laws.questions_are_bounded.Goals as goal

pub returns : goal.returns
returns c = questions_bounded
