use Rattle.std.proofs.Common.{inr, refl}
use Rattle.bac_apdu.specs.declared.service.write_property.WriteProperty.{WriteProperty}
use Rattle.bac_tools.proofs.as_said.write_as_said.Goals as goal

pub returns : goal.returns
returns g c =
    let object = c.in_ok-object.ensures.ok in
    let value = c.value_of.ensures.value in
    let priority = c.priority.ensures in
    let w : WriteProperty = record {
      object = c.in_ok-object.field-0;
      property = c.args.said.property;
      index = c.args.said.index;
      value = c.value_of.result;
      priority = c.priority.result;
    } in
    inr (w, rw (object, value, priority) refl, c.wp.ensures)
