use Rattle.std.proofs.Common.{ℕ, List, Result, arith, rules}
use Rattle.bac_wire.specs.Chain.{Gives}
use Rattle.bac_apdu.specs.declared.reason.Reason.{Reason}
use Rattle.bac_apdu.specs.declared.service.write_property.WriteProperty.{WriteProperty}
use Rattle.bac_apdu.specs.Service.WriteProperty.{write_property, write_parameters}
use Rattle.bac_apdu.proofs.Forms.{is_found, is_only, is_refused}
use Rattle.bac_apdu.specs.FormReading.{form_at}
use Rattle.bac_apdu.specs.Service.WriteProperty.{write_of_code, write_in, write_property_at}
use Rattle.bac_apdu.proofs.Ranges.{priority_bounded}
use Rattle.bac_apdu.proofs.Named.{is_named, write_back}
use Rattle.bac_apdu.proofs.Encoded.{both_ok, write_in_range}
use Rattle.bac_apdu.proofs.service.write_property.WriteProperty.read.Goals as goal

pub returns-clause-found : goal.returns-clause-found
returns-clause-found c = is_found WriteProperty write_parameters write_property c.args.bytes.now c.parameters.result (search rules) (λ i. omega (arith, c.type_inv.bytes i)) c.parameters.ensures.exact

pub returns-clause-only : goal.returns-clause-only
returns-clause-only c = is_only WriteProperty write_parameters write_property c.args.bytes.now c.parameters.result c.parameters.ensures.exact

pub returns-clause-refused : goal.returns-clause-refused
returns-clause-refused c = is_refused WriteProperty write_parameters write_property c.args.bytes.now c.parameters.result (search rules) (λ i. omega (arith, c.type_inv.bytes i)) c.parameters.ensures.exact

-- what was read, with named fields
named : (bytes : List ℕ) (r : Result WriteProperty Reason) → Gives write_parameters r (form_at write_property bytes) → Gives write_of_code r (write_property_at bytes)
unfolding write_property_at
named bytes r e = is_named write_parameters write_in write_of_code write_back r (form_at write_property bytes) e

pub returns-clause-named : goal.returns-clause-named
returns-clause-named c = named c.args.bytes.now c.parameters.result c.parameters.ensures.exact

pub returns-clause-bound : goal.returns-clause-bound
returns-clause-bound c = priority_bounded c.args.bytes.now c.parameters.result (named c.args.bytes.now c.parameters.result c.parameters.ensures.exact)

pub returns-clause-in_range : goal.returns-clause-in_range
returns-clause-in_range c few =
    both_ok (λ w reads priority. write_in_range c.args.bytes.now (λ i. omega (arith, c.type_inv.bytes i)) few w reads priority) c.parameters.result (returns-clause-found c) (returns-clause-bound c)
