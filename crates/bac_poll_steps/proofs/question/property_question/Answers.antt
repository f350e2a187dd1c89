use Rattle.bac_poll_steps.proofs.Fits.{property_fits}
use Rattle.bac_poll_steps.proofs.question.property_question.Goals as goal

pub returns-clause-fits : goal.returns-clause-fits
returns-clause-fits c = property_fits _
