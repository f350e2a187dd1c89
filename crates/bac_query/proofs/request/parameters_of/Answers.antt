use Rattle.std.proofs.Common.{arith}
use Rattle.bac_apdu.specs.FormCanon.{canon_form}
use Rattle.bac_apdu.specs.Service.WhoIs.{who_is, who_is_parameters}
use Rattle.bac_query.proofs.Requests.{fits, parameters_short}
use Rattle.bac_query.proofs.request.parameters_of.Goals as goal

pub unwrap-requires : goal.unwrap-requires
unwrap-requires c =
    fits c.new-parameters.result (canon_form who_is (who_is_parameters c.args.request.now)) c.write.result c.write.new.out c.write.ensures
    c.new-parameters.ensures (omega (arith, parameters_short c.args.request.now))
