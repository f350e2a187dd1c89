use Rattle.bac_apdu.proofs.Additions.{property_adds, property_full}
use Rattle.bac_apdu.specs.Service.ReadPropertyAck.{values, value_parameters}
use Rattle.bac_apdu.proofs.service.read_property_ack.ReadPropertyAck.add.Goals as goal

pub returns-in_err-add_property-clause-written : goal.returns-in_err-add_property-clause-written
returns-in_err-add_property-clause-written c =
    property_full c.args.self.now.object c.args.self.now.property c.args.self.now.index values (value_parameters c.args.self.now) c.args.out.now c.add_property.new.out c.from_residual.result c.in_err-add_property.field-0.0 c.from_residual.ensures.0 c.in_err-add_property.ensures.written

pub returns-clause-written : goal.returns-clause-written
returns-clause-written c =
    property_adds c.args.self.now.object c.args.self.now.property c.args.self.now.index values (value_parameters c.args.self.now) c.args.out.now c.add_property.new.out c.add_values.new.out c.add_values.result c.in_ok-add_property.ensures.written c.add_values.ensures
