use Rattle.bac_apdu.specs.FormCanon.{canon_form}
use Rattle.bac_apdu.specs.Service.IAm.{i_am, i_am_parameters, i_am_in, i_am_at}
use Rattle.bac_apdu.proofs.Services.{announcement_again}
use Rattle.bac_apdu.proofs.Named.{fields_again_some, i_am_back}
use Rattle.bac_apdu.proofs.service.i_am.IAm.fields_are_read_back.Goals as goal

pub returns : goal.returns
unfolding i_am_at
returns c = λ a valid. fields_again_some i_am_in i_am (canon_form i_am (i_am_parameters a)) (i_am_parameters a) a (announcement_again a valid) (i_am_back a)
