use Rattle.std.proofs.Common.{◌++◌, ◌≤◌, length, ap, arith}
use Rattle.bac_apdu.specs.Frame.{frame_octets}
use Rattle.bac_apdu.specs.Npdu.{header_octets, maybe_place_of}
use Rattle.bac_query.proofs.Requests.{apdu_short, fits, frame_short, to_place}
use Rattle.bac_query.proofs.request.datagram_of.Goals as goal

pub unwrap-requires : goal.unwrap-requires
unwrap-requires c =
    let octets = c.octets.result.now in
    let header = to_place (maybe_place_of c.devices_of.result) c.hops_to.result in
    let short : length octets ≤ 22 = omega (arith, ap length c.octets.ensures.value, ap length c.apdu_of-apdu.ensures, apdu_short c.args.search.now.who_is) in
    let small : length (frame_octets (header_octets header ++ octets)) ≤ 1501 =
    rw (c.devices_of.ensures, c.hops_to.ensures) (omega (arith, frame_short c.args.search.now.network octets short)) in
    fits c.new-datagram.result (frame_octets (header_octets header ++ octets)) c.write_datagram.result c.write_datagram.new.out
    c.write_datagram.ensures c.new-datagram.ensures small
