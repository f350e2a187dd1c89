use Rattle.std.proofs.Common.{◌≡◌, ℕ, List, Option, Result, arith, rules}
use Rattle.bac_wire.specs.Chain.{Gives}
use Rattle.bac_apdu.specs.declared.reason.Reason.{Reason}
use Rattle.bac_apdu.specs.declared.service.who_is.WhoIs.{WhoIs}
use Rattle.bac_apdu.specs.Service.WhoIs.{who_is, who_is_parameters}
use Rattle.bac_apdu.proofs.Forms.{is_found_some, is_only_some}
use Rattle.std.specs.Result.{result_ok}
use Rattle.bac_apdu.specs.FormReading.{form_at}
use Rattle.bac_apdu.specs.Service.WhoIs.{who_is_in, who_is_at}
use Rattle.bac_apdu.proofs.Named.{is_named_some, is_same_some, gives_ok, who_is_back}
use Rattle.bac_apdu.proofs.Encoded.{if_some, who_is_in_range}
use Rattle.bac_apdu.proofs.service.who_is.WhoIs.read.Goals as goal

pub returns-clause-found : goal.returns-clause-found
returns-clause-found c = is_found_some WhoIs who_is_parameters who_is c.args.bytes.now c.parameters.result c.ok.result c.ok.ensures.value (search rules) (λ i. omega (arith, c.type_inv.bytes i)) c.parameters.ensures

pub returns-clause-only : goal.returns-clause-only
returns-clause-only c = is_only_some WhoIs who_is_parameters who_is c.args.bytes.now c.parameters.result c.ok.result c.ok.ensures.value c.parameters.ensures

-- what was read, with named fields
named : (bytes : List ℕ) (r : Result WhoIs Reason) (given : Option WhoIs) → given ≡ result_ok r → Gives who_is_parameters r (form_at who_is bytes) → given ≡ who_is_at bytes
unfolding who_is_at
named bytes r given same e = is_same_some given (who_is_at bytes) (is_named_some who_is_parameters who_is_in (λ x. x) who_is_back given (result_ok (form_at who_is bytes)) (gives_ok who_is_parameters r (form_at who_is bytes) given same e))

pub returns-clause-named : goal.returns-clause-named
returns-clause-named c = named c.args.bytes.now c.parameters.result c.ok.result c.ok.ensures.value c.parameters.ensures

pub returns-clause-in_range : goal.returns-clause-in_range
returns-clause-in_range c = if_some (λ w reads. who_is_in_range c.args.bytes.now w reads) c.ok.result (returns-clause-found c)
