use Rattle.std.proofs.Common.{◌∷◌, [], ◌++◌, ◌≤◌, length, ap, arith}
use Rattle.bac_query.proofs.Requests.{fits, parameters_short}
use Rattle.bac_query.proofs.request.apdu_of.Goals as goal

pub unwrap-requires : goal.unwrap-requires
unwrap-requires c =
    let short : length c.octets.result.now ≤ 20 = omega (arith, ap length c.octets.ensures.value, ap length c.parameters_of-parameters.ensures, parameters_short c.args.request.now) in
    fits c.new-apdu.result ((0x10 ∷ 8 ∷ []) ++ c.octets.result.now) c.write_apdu.result c.write_apdu.new.out c.write_apdu.ensures
    c.new-apdu.ensures (omega (arith, short))
