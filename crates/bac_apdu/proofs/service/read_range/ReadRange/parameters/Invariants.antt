use Rattle.bac_apdu.specs.Service.Extent.{range}
use Rattle.bac_apdu.proofs.service.read_range.ReadRange.parameters.Given as goal

-- what follows object, property and index
abbrev pub ghost-property : goal.ghost-property
ghost-property a = range
