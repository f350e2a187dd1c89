-- A Who-Is fits a datagram.
use Rattle.std.proofs.Common.{◌≡◌, ℕ, ◌≤◌, List, [], ◌∷◌, ◌++◌, length, Option, None, Result, Ok, Err, refl, ap}
use Rattle.std.proofs.Common.{arith}
use Rattle.std.specs.Result.{IsOk}
use Rattle.std.proofs.lemmas.List.{length-append}
use Rattle.bac_wire.specs.Datagram.{Writes}
use Rattle.bac_apdu.specs.Frame.{frame_octets}
use Rattle.bac_apdu.specs.Npdu.{Place, control_of, header_octets, hops_octets, place_octets}
use Rattle.bac_apdu.specs.Route.{IsWay}
use Rattle.bac_apdu.proofs.Shorts.{length-frame, length-hops, length-no_place, length-place}
use Rattle.bac_answers.specs.Way.{to_place}

-- what fits is written
pub fits : {E : Type 0} (old text : List ℕ) (r : Result (Unit {0}) E) (new : List ℕ) → Writes old text r new → old ≡ [] → length text ≤ 1501 → IsOk r
fits old text (Ok x) new w empty small = refl
fits old text (Err e) new w empty small = absurd (omega (arith, w.1, ap length empty))

header_short : (place : Option Place) (hops : ℕ) → IsWay place → length (header_octets (to_place place hops)) ≤ 21
header_short place hops way =
    omega (
      arith,
      length-place place way,
      length-no_place,
      length-hops place hops,
      length-append (1 ∷ control_of (to_place place hops) ∷ []) (place_octets place ++ (place_octets None ++ hops_octets place hops)),
      length-append (place_octets place) (place_octets None ++ hops_octets place hops),
      length-append (place_octets None) (hops_octets place hops),
    )

pub frame_short : (place : Option Place) (hops : ℕ) (apdu : List ℕ) → IsWay place → length apdu ≡ 2 → length (frame_octets (header_octets (to_place place hops) ++ apdu)) ≤ 1501
frame_short place hops apdu way two =
    omega (
      arith,
      two,
      length-frame (header_octets (to_place place hops) ++ apdu),
      length-append (header_octets (to_place place hops)) apdu,
      header_short place hops way,
    )
