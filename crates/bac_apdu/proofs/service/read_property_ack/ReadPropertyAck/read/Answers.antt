use Rattle.std.proofs.Common.{arith, rules, refl, Ok, Err}
use Rattle.bac_apdu.specs.declared.service.read_property_ack.ReadPropertyAck.{ReadPropertyAck}
use Rattle.bac_apdu.specs.Service.ReadPropertyAck.{read_property_ack, property_ack_parameters}
use Rattle.bac_apdu.proofs.Forms.{is_found, is_only}
use Rattle.std.proofs.Common.{Some, None}
use Rattle.std.specs.Result.{result_ok}
use Rattle.bac_apdu.specs.FormReading.{form_at}
use Rattle.bac_apdu.specs.Service.ReadPropertyAck.{property_ack_of, property_ack_in, read_property_ack_at}
use Rattle.bac_apdu.proofs.Named.{is_named_some, gives_ok, property_ack_shown}
use Rattle.bac_apdu.proofs.Encoded.{property_ack_in_range}
use Rattle.bac_apdu.proofs.service.read_property_ack.ReadPropertyAck.read.Goals as goal

pub returns-in-Ok-clause-found : goal.returns-in-Ok-clause-found
returns-in-Ok-clause-found c = is_found ReadPropertyAck property_ack_parameters read_property_ack c.args.bytes.now (Ok c.in-Ok.ack) (search rules) (λ i. omega (arith, c.type_inv.bytes i)) c.in-Ok.ensures

pub returns-in-Ok-clause-only : goal.returns-in-Ok-clause-only
returns-in-Ok-clause-only c = is_only ReadPropertyAck property_ack_parameters read_property_ack c.args.bytes.now (Ok c.in-Ok.ack) c.in-Ok.ensures

pub returns-in-Err-clause-only : goal.returns-in-Err-clause-only
returns-in-Err-clause-only c = is_only ReadPropertyAck property_ack_parameters read_property_ack c.args.bytes.now (Err c.in-Err.field-0) c.in-Err.ensures

pub returns-in-Ok-clause-named : goal.returns-in-Ok-clause-named
unfolding read_property_ack_at
returns-in-Ok-clause-named c = is_named_some property_ack_parameters property_ack_in property_ack_of property_ack_shown (Some c.in-Ok.ack) (result_ok (form_at read_property_ack c.args.bytes.now)) (gives_ok property_ack_parameters (Ok c.in-Ok.ack) (form_at read_property_ack c.args.bytes.now) (Some c.in-Ok.ack) refl c.in-Ok.ensures)

pub returns-in-Err-clause-named : goal.returns-in-Err-clause-named
unfolding read_property_ack_at
returns-in-Err-clause-named c = is_named_some property_ack_parameters property_ack_in property_ack_of property_ack_shown None (result_ok (form_at read_property_ack c.args.bytes.now)) (gives_ok property_ack_parameters (Err c.in-Err.field-0) (form_at read_property_ack c.args.bytes.now) None refl c.in-Err.ensures)

pub returns-in-Ok-clause-in_range : goal.returns-in-Ok-clause-in_range
returns-in-Ok-clause-in_range c = property_ack_in_range c.args.bytes.now (λ i. omega (arith, c.type_inv.bytes i)) c.in-Ok.ack (returns-in-Ok-clause-found c)
