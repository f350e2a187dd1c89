use Rattle.bac_apdu.specs.Form.{end}
use Rattle.bac_apdu.proofs.service.read_property.ReadProperty.parameters.Given as goal

-- what follows object, property and index
abbrev pub ghost-property : goal.ghost-property
ghost-property a = end
