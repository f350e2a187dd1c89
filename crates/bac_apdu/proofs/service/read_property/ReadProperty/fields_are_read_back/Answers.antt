use Rattle.bac_apdu.specs.FormCanon.{canon_form}
use Rattle.bac_apdu.specs.Service.ReadProperty.{read_property, property_parameters, property_in, read_property_at}
use Rattle.bac_apdu.proofs.Services.{property_again}
use Rattle.bac_apdu.proofs.Named.{fields_again, property_back}
use Rattle.bac_apdu.proofs.service.read_property.ReadProperty.fields_are_read_back.Goals as goal

pub returns : goal.returns
unfolding read_property_at
returns c = λ p valid. fields_again property_in read_property (canon_form read_property (property_parameters p)) (property_parameters p) p (property_again p valid) (property_back p)
