use Rattle.bac_apdu.proofs.ShownFields.{same_who_is}
use Rattle.bac_apdu.proofs.service.who_is.WhoIs.parameters_tell_fields.Goals as goal

pub returns : goal.returns
returns c = same_who_is
