use Rattle.std.proofs.Common.{◌∷◌, [], ◌++◌, refl, subst, sym}
use Rattle.bac_apdu.specs.Frame.{frame_octets}
use Rattle.bac_apdu.specs.Npdu.{header_octets, maybe_place_of}
use Rattle.bac_apdu.specs.Route.{IsWay}
use Rattle.bac_answers.specs.Way.{to_place}
use Rattle.bac_answers.proofs.WhoIs.{fits, frame_short}
use Rattle.bac_answers.proofs.way.Way.who_is.Goals as goal

pub unwrap-requires : goal.unwrap-requires
unwrap-requires c =
    let place = maybe_place_of c.dest-dest.result in
    let hops = c.hops_to.result in
    fits c.new-datagram.result (frame_octets (header_octets (to_place place hops) ++ 16 ∷ 8 ∷ [])) c.write_datagram.result c.write_datagram.new.out
    c.write_datagram.ensures c.new-datagram.ensures
    (frame_short place hops (16 ∷ 8 ∷ []) (subst IsWay (sym c.dest-dest.ensures.value) c.dest-dest.ensures.way) refl)
