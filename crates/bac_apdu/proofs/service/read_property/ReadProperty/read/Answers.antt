use Rattle.std.proofs.Common.{arith, rules}
use Rattle.bac_apdu.specs.declared.service.read_property.ReadProperty.{ReadProperty}
use Rattle.bac_apdu.specs.Service.ReadProperty.{read_property, property_parameters}
use Rattle.bac_apdu.proofs.Forms.{is_found, is_only, is_refused}
use Rattle.bac_apdu.specs.FormReading.{form_at}
use Rattle.bac_apdu.specs.Service.ReadProperty.{property_in, read_property_at}
use Rattle.bac_apdu.proofs.Named.{is_named, is_same, property_back}
use Rattle.bac_apdu.proofs.Encoded.{if_ok, read_property_in_range}
use Rattle.bac_apdu.proofs.service.read_property.ReadProperty.read.Goals as goal

pub returns-clause-found : goal.returns-clause-found
returns-clause-found c = is_found ReadProperty property_parameters read_property c.args.bytes.now c.parameters.result (search rules) (λ i. omega (arith, c.type_inv.bytes i)) c.parameters.ensures

pub returns-clause-only : goal.returns-clause-only
returns-clause-only c = is_only ReadProperty property_parameters read_property c.args.bytes.now c.parameters.result c.parameters.ensures

pub returns-clause-refused : goal.returns-clause-refused
returns-clause-refused c = is_refused ReadProperty property_parameters read_property c.args.bytes.now c.parameters.result (search rules) (λ i. omega (arith, c.type_inv.bytes i)) c.parameters.ensures

pub returns-clause-named : goal.returns-clause-named
unfolding read_property_at
returns-clause-named c = is_same c.parameters.result (read_property_at c.args.bytes.now) (is_named property_parameters property_in (λ x. x) property_back c.parameters.result (form_at read_property c.args.bytes.now) c.parameters.ensures)

pub returns-clause-in_range : goal.returns-clause-in_range
returns-clause-in_range c = if_ok (λ p reads. read_property_in_range c.args.bytes.now (λ i. omega (arith, c.type_inv.bytes i)) p reads) c.parameters.result (returns-clause-found c)
