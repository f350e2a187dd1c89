use Rattle.bac_apdu.specs.FormCanon.{canon_form}
use Rattle.bac_apdu.specs.Service.WriteProperty.{write_property, write_parameters, write_of_code, write_in, write_property_at}
use Rattle.bac_apdu.proofs.Services.{write_again}
use Rattle.bac_apdu.proofs.Named.{fields_again, write_back}
use Rattle.bac_apdu.proofs.service.write_property.WriteProperty.fields_are_read_back.Goals as goal

pub returns : goal.returns
unfolding write_property_at
returns c = λ w valid value priority. fields_again write_in write_property (canon_form write_property (write_parameters w)) (write_parameters w) (write_of_code w) (write_again w valid value priority) (write_back w)
