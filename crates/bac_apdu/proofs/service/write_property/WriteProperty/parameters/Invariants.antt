use Rattle.bac_apdu.specs.Service.WriteProperty.{setting}
use Rattle.bac_apdu.proofs.service.write_property.WriteProperty.parameters.Given as goal

-- what follows object, property and index
abbrev pub ghost-property : goal.ghost-property
ghost-property a = setting
