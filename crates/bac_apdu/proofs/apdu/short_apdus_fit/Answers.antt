use Rattle.bac_apdu.proofs.Shorts.{error_short}
use Rattle.bac_apdu.proofs.apdu.short_apdus_fit.Goals as goal

pub returns-clause-error : goal.returns-clause-error
returns-clause-error c = error_short
