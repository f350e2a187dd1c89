use Rattle.std.proofs.Common.{◌≡◌, ℕ, List, Result, arith, rules}
use Rattle.bac_wire.specs.Chain.{Gives}
use Rattle.bac_apdu.specs.declared.reason.Reason.{Reason}
use Rattle.bac_apdu.specs.declared.service.read_range.ReadRange.{ReadRange}
use Rattle.bac_apdu.specs.Service.ReadRange.{read_range, range_parameters}
use Rattle.bac_apdu.proofs.Forms.{is_found, is_only, is_refused}
use Rattle.bac_apdu.specs.FormReading.{form_at}
use Rattle.bac_apdu.specs.Service.ReadRange.{range_in, read_range_at}
use Rattle.bac_apdu.proofs.Ranges.{extent_bounded}
use Rattle.bac_apdu.proofs.Named.{is_named, is_same, range_back}
use Rattle.bac_apdu.proofs.Encoded.{both_ok, range_in_range}
use Rattle.bac_apdu.proofs.service.read_range.ReadRange.read.Goals as goal

pub returns-clause-found : goal.returns-clause-found
returns-clause-found c = is_found ReadRange range_parameters read_range c.args.bytes.now c.parameters.result (search rules) (λ i. omega (arith, c.type_inv.bytes i)) c.parameters.ensures

pub returns-clause-only : goal.returns-clause-only
returns-clause-only c = is_only ReadRange range_parameters read_range c.args.bytes.now c.parameters.result c.parameters.ensures

pub returns-clause-refused : goal.returns-clause-refused
returns-clause-refused c = is_refused ReadRange range_parameters read_range c.args.bytes.now c.parameters.result (search rules) (λ i. omega (arith, c.type_inv.bytes i)) c.parameters.ensures

-- what was read, with named fields
named : (bytes : List ℕ) (r : Result ReadRange Reason) → Gives range_parameters r (form_at read_range bytes) → r ≡ read_range_at bytes
unfolding read_range_at
named bytes r e = is_same r (read_range_at bytes) (is_named range_parameters range_in (λ x. x) range_back r (form_at read_range bytes) e)

pub returns-clause-named : goal.returns-clause-named
returns-clause-named c = named c.args.bytes.now c.parameters.result c.parameters.ensures

pub returns-clause-in_range : goal.returns-clause-in_range
returns-clause-in_range c =
    let extent = extent_bounded c.args.bytes.now c.parameters.result (named c.args.bytes.now c.parameters.result c.parameters.ensures) in
    both_ok (λ r reads extent. range_in_range c.args.bytes.now (λ i. omega (arith, c.type_inv.bytes i)) r reads extent) c.parameters.result (returns-clause-found c) extent
