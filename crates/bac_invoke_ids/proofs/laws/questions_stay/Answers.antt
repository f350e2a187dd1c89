use Rattle.bac_invoke_ids.proofs.Moved.{question_moved}
use Rattle.bac_invoke_ids.proofs.laws.questions_stay.Goals as goal

pub returns : goal.returns
returns c = λ path r id shift ways here fits lt. question_moved path r id shift ways here fits
