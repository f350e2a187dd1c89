use Rattle.bac_device.proofs.Questions.{question_refused}
use Rattle.bac_device.proofs.logs.questions_for_no_log_are_refused.Goals as goal

pub returns : goal.returns
returns c = question_refused
