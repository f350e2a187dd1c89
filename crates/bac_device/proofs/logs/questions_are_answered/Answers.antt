use Rattle.bac_device.proofs.Questions.{question_answered}
use Rattle.bac_device.proofs.logs.questions_are_answered.Goals as goal

pub returns : goal.returns
returns c = question_answered
