use Rattle.bac_link.proofs.Verdicts.{question_fits}
use Rattle.bac_poll_steps.proofs.state.LogState.oldest_question.Goals as goal

pub returns-clause-fits : goal.returns-clause-fits
returns-clause-fits c = question_fits _ _
