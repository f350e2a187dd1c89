use Rattle.bac_apdu.proofs.Forms.{stops, stopped}
use Rattle.bac_apdu.proofs.reason.reason_is_by_place.Goals as goal

pub returns-clause-given : goal.returns-clause-given
returns-clause-given c = stops

pub returns-clause-only : goal.returns-clause-only
returns-clause-only c = stopped
