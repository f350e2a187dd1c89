use Rattle.std.proofs.Common.{arith, rules}
use Rattle.bac_apdu.specs.declared.service.i_am.IAm.{IAm}
use Rattle.bac_apdu.specs.Service.IAm.{i_am, i_am_parameters}
use Rattle.bac_apdu.proofs.Forms.{is_found_some, is_only_some}
use Rattle.std.specs.Result.{result_ok}
use Rattle.bac_apdu.specs.FormReading.{form_at}
use Rattle.bac_apdu.specs.Service.IAm.{i_am_in, i_am_at}
use Rattle.bac_apdu.proofs.Named.{is_named_some, is_same_some, gives_ok, i_am_back}
use Rattle.bac_apdu.proofs.Encoded.{if_some, i_am_in_range}
use Rattle.bac_apdu.proofs.service.i_am.IAm.read.Goals as goal

pub returns-clause-found : goal.returns-clause-found
returns-clause-found c = is_found_some IAm i_am_parameters i_am c.args.bytes.now c.parameters.result c.ok.result c.ok.ensures.value (search rules) (λ i. omega (arith, c.type_inv.bytes i)) c.parameters.ensures

pub returns-clause-only : goal.returns-clause-only
returns-clause-only c = is_only_some IAm i_am_parameters i_am c.args.bytes.now c.parameters.result c.ok.result c.ok.ensures.value c.parameters.ensures

pub returns-clause-named : goal.returns-clause-named
unfolding i_am_at
returns-clause-named c = is_same_some c.ok.result (i_am_at c.args.bytes.now) (is_named_some i_am_parameters i_am_in (λ x. x) i_am_back c.ok.result (result_ok (form_at i_am c.args.bytes.now)) (gives_ok i_am_parameters c.parameters.result (form_at i_am c.args.bytes.now) c.ok.result c.ok.ensures.value c.parameters.ensures))

pub returns-clause-in_range : goal.returns-clause-in_range
returns-clause-in_range c = if_some (λ a reads. i_am_in_range c.args.bytes.now (λ i. omega (arith, c.type_inv.bytes i)) a reads) c.ok.result (returns-clause-found c)
