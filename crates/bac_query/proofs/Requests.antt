-- A Who-Is fits a datagram.
use Rattle.std.proofs.Common.{◌≡◌, ℕ, ◌≤◌, false, List, [], ◌∷◌, ◌++◌, length, Option, None, Some, Result, Ok, Err, refl, ap, arith, length-append}
use Rattle.std.specs.Result.{IsOk}
use Rattle.bac_wire.specs.Datagram.{Writes}
use Rattle.bac_wire.specs.Primitive.{Unsigned}
use Rattle.bac_apdu.specs.Adding.{context_octets}
use Rattle.bac_apdu.specs.FormCanon.{canon_form}
use Rattle.bac_apdu.specs.Frame.{frame_octets}
use Rattle.bac_apdu.specs.Npdu.{Header, Place, control_of, header_octets, hops_octets, place_octets}
use Rattle.bac_apdu.specs.Service.WhoIs.{who_is, who_is_parameters}
use Rattle.bac_apdu.specs.declared.service.who_is.WhoIs.{WhoIs}
use Rattle.bac_apdu.proofs.Shorts.{length-frame, length-hops, length-no_place, number_behind}
use Rattle.bac_query.specs.Requests.{asking, devices_of, who_is_apdu}

-- what fits is written
pub fits : {E : Type 0} (old text : List ℕ) (r : Result (Unit {0}) E) (new : List ℕ) → Writes old text r new → old ≡ [] → length text ≤ 1501 → IsOk r
fits old text (Ok x) new w empty small = refl
fits old text (Err e) new w empty small = absurd (omega (arith, w.1, ap length empty))

limits_short : (low high : ℕ) → length (context_octets 0 (Unsigned low) ++ (context_octets 1 (Unsigned high) ++ [])) ≤ 20
limits_short low high =
    omega (
      arith,
      length-append (context_octets 0 (Unsigned low)) (context_octets 1 (Unsigned high) ++ []),
      length-append (context_octets 1 (Unsigned high)) [],
      number_behind 0 low (omega arith),
      number_behind 1 high (omega arith),
    )

pub parameters_short : (w : WhoIs) → length (canon_form who_is (who_is_parameters w)) ≤ 20
parameters_short w = elim w.limits as (λ limits. length (canon_form who_is (who_is_parameters (record { limits = limits }))) ≤ 20) [
  | None ↦ omega arith
  | Some limits ↦ limits_short limits.0 limits.1
]

pub apdu_short : (w : WhoIs) → length (who_is_apdu w) ≤ 22
apdu_short w = omega (arith, parameters_short w)

-- to a place, and from this network; no reply is expected
abbrev pub to_place : Option Place → ℕ → Header
to_place place hops = record { network = false; reply = false; priority = 0; dest = place; source = None; hops = hops }

devices_short : (net : Option ℕ) → length (place_octets (devices_of net)) ≤ 3
unfolding place_octets
devices_short None = omega arith
devices_short (Some net) = omega arith

-- a network behind a router takes four octets more than none
header_short : (net : Option ℕ) → length (header_octets (asking net)) ≤ 6
header_short net =
    let h : Header = asking net in
    omega (
      arith,
      devices_short net,
      length-no_place,
      length-hops h.dest h.hops,
      length-append (1 ∷ control_of h ∷ []) (place_octets h.dest ++ (place_octets h.source ++ hops_octets h.dest h.hops)),
      length-append (place_octets h.dest) (place_octets h.source ++ hops_octets h.dest h.hops),
      length-append (place_octets h.source) (hops_octets h.dest h.hops),
    )

pub frame_short : (net : Option ℕ) (apdu : List ℕ) → length apdu ≤ 22 → length (frame_octets (header_octets (asking net) ++ apdu)) ≤ 32
frame_short net apdu short =
    omega (
      arith,
      length-frame (header_octets (asking net) ++ apdu),
      length-append (header_octets (asking net)) apdu,
      header_short net,
    )
