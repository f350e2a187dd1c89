use Rattle.bac_apdu.specs.FormCanon.{canon_form}
use Rattle.bac_apdu.specs.Service.WhoIs.{who_is, who_is_parameters, who_is_in, who_is_at}
use Rattle.bac_apdu.proofs.Services.{limits_again}
use Rattle.bac_apdu.proofs.Named.{fields_again_some, who_is_back}
use Rattle.bac_apdu.proofs.service.who_is.WhoIs.fields_are_read_back.Goals as goal

pub returns : goal.returns
unfolding who_is_at
returns c = λ w valid. fields_again_some who_is_in who_is (canon_form who_is (who_is_parameters w)) (who_is_parameters w) w (limits_again w valid) (who_is_back w)
