use Rattle.bac_apdu.proofs.ShownFields.{same_announcement}
use Rattle.bac_apdu.proofs.service.i_am.IAm.parameters_tell_fields.Goals as goal

pub returns : goal.returns
returns c = same_announcement
