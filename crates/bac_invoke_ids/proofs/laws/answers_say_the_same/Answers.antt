use Rattle.bac_invoke_ids.proofs.Moved.{says_the_same}
use Rattle.bac_invoke_ids.proofs.laws.answers_say_the_same.Goals as goal

pub returns : goal.returns
returns c = says_the_same
