use Rattle.bac_apdu.proofs.Forms.{form_again, form_takes}
use Rattle.bac_apdu.proofs.reason.spelled_is_read.Goals as goal

pub returns-clause-read : goal.returns-clause-read
returns-clause-read c = form_again

pub returns-clause-spelled : goal.returns-clause-spelled
returns-clause-spelled c = λ form text items valid octets e. form_takes form text items valid octets e
