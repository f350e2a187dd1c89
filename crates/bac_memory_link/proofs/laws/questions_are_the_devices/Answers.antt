use Rattle.bac_memory_link.proofs.Questions.{question_is}
use Rattle.bac_memory_link.proofs.laws.questions_are_the_devices.Goals as goal

pub returns : goal.returns
returns c = question_is
