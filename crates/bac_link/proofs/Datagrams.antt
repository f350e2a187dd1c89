-- Requests as datagrams: how long they are, and that they are read back.
use Rattle.std.proofs.Common.{◌≡◌, ℕ, ◌+◌, ◌<◌, ◌≤◌, true, false, List, [], ◌∷◌, ◌++◌, length, Option, Some, None, refl, ap, arith, inr}
use Rattle.std.proofs.lemmas.Bool.{eq-eqb}
use Rattle.std.proofs.lemmas.List.{length-append}
use Rattle.std.specs.Str.{bytes_eq}
use Rattle.std.proofs.lemmas.Slice.Eq.{bytes_eq-Decides}
use Rattle.bac_apdu.specs.Apdu.{Apdu, Confirmed, Complex, Error, IsApdu, apdu_at, apdu_octets}
use Rattle.bac_apdu.specs.Frame.{frame_octets, unicast_head}
use Rattle.bac_apdu.specs.Npdu.{Header, Place, control_of, header_octets, hops_octets, place_octets, HasHops, IsHeader}
use Rattle.bac_apdu.specs.Route.{IsWay}
use Rattle.bac_apdu.proofs.Heads.{frame_again, header_again, message_again}
pub use Rattle.bac_apdu.proofs.Shorts.{length-place, length-no_place as none_long, length-hops, place_valid}
use Rattle.bac_link.specs.Datagrams.{carried_in, message_in, apdu_in, asked_id, answer_in, same_id, answers_to}
use Rattle.bac_link.specs.Path.{Path, AreWays, back, path_of, same_place, towards}
use Rattle.bac_link.specs.Requests.{asking, hops_to, service_of, parameters_of, request_apdu, request_octets}
use Rattle.bac_link.specs.Transactions.{is_awaited}
use Rattle.bac_link.specs.declared.request.Request.{Request}
use Rattle.bac_link.specs.declared.transactions.Pending.{Pending}

-- ---- how long a header is

pub length-asking : (path : Path) → AreWays path → length (header_octets (asking path)) ≤ 39
length-asking path ways =
    let h : Header = asking path in
    omega (
      arith,
      length-place path.dest ways.0,
      length-place path.source ways.1,
      length-hops path.dest h.hops,
      length-append (1 ∷ control_of h ∷ []) (place_octets path.dest ++ (place_octets path.source ++ hops_octets path.dest h.hops)),
      length-append (place_octets path.dest) (place_octets path.source ++ hops_octets path.dest h.hops),
      length-append (place_octets path.source) (hops_octets path.dest h.hops),
    )

-- to a place, and from this network
abbrev to_place : Option Place → ℕ → Header
to_place place hops = record { network = false; reply = true; priority = 0; dest = place; source = None; hops = hops }

length-to_place : (place : Option Place) (hops : ℕ) → IsWay place → length (header_octets (to_place place hops)) ≤ 21
length-to_place place hops way =
    omega (
      arith,
      length-place place way,
      none_long,
      length-hops place hops,
      length-append (1 ∷ control_of (to_place place hops) ∷ []) (place_octets place ++ (place_octets None ++ hops_octets place hops)),
      length-append (place_octets place) (place_octets None ++ hops_octets place hops),
      length-append (place_octets None) (hops_octets place hops),
    )

-- the heads of a frame leave room for an APDU of 1476 octets
pub heads_fit : (place : Option Place) (hops : ℕ) → IsWay place → length (unicast_head 0 ++ header_octets (to_place place hops)) ≤ 25
heads_fit place hops way =
    omega (arith, length-append (unicast_head 0) (header_octets (to_place place hops)), length-to_place place hops way)

-- so what was begun in an empty datagram is short
pub begun_short : (place : Option Place) (hops : ℕ) (old new : List ℕ) → IsWay place → old ≡ [] → new ≡ old ++ (unicast_head 0 ++ header_octets (to_place place hops)) → length new ≤ 25
begun_short place hops old new way none is =
    let heads : List ℕ = unicast_head 0 ++ header_octets (to_place place hops) in
    omega (arith, ap (λ (l : List ℕ). length l) is, length-append old heads, ap (λ (l : List ℕ). length l) none, heads_fit place hops way)

-- the invoke ID has one octet, whatever it is
pub same_size : (invoke : ℕ) (r : Request) → length (request_apdu invoke r) ≡ length (request_apdu 0 r)
unfolding request_apdu
same_size invoke r = refl

-- ---- what is read back

-- what stands in a frame to one device, after a header of no network message
pub carried_again : (h : Header) (apdu : List ℕ) → IsHeader h → h.network ≡ false → length (header_octets h ++ apdu) + 4 < 65536 → carried_in (frame_octets (header_octets h ++ apdu)) ≡ Some (path_of h, apdu)
unfolding carried_in
carried_again h apdu valid here small = rw (frame_again (header_octets h ++ apdu) small, header_again h apdu valid, here) refl

pub message_of : (h : Header) (apdu : List ℕ) (m : Apdu) → IsHeader h → h.network ≡ false → apdu_at apdu ≡ Some m → length (header_octets h ++ apdu) + 4 < 65536 → message_in (frame_octets (header_octets h ++ apdu)) ≡ Some (path_of h, m)
unfolding message_in
message_of h apdu m valid here is small = rw (carried_again h apdu valid here small, is) refl

pub message_back : (h : Header) (m : Apdu) → IsHeader h → h.network ≡ false → IsApdu m → length (header_octets h ++ apdu_octets m) + 4 < 65536 → message_in (frame_octets (header_octets h ++ apdu_octets m)) ≡ Some (path_of h, m)
message_back h m valid here is small = message_of h (apdu_octets m) m valid here (message_again m is) small

pub hops_valid : (place : Option Place) → HasHops place (hops_to place)
hops_valid None = refl
hops_valid (Some place) = tt

pub asking_valid : (path : Path) → AreWays path → IsHeader (asking path)
asking_valid path ways = (omega arith, place_valid path.dest ways.0, place_valid path.source ways.1, hops_valid path.dest)

-- a request is read back
pub request_again : (path : Path) (invoke : ℕ) (r : Request) → AreWays path → length (request_apdu invoke r) ≤ 1476 → message_in (request_octets path invoke r) ≡ Some (path, Confirmed false 1476 invoke (service_of r) (parameters_of r))
unfolding request_octets request_apdu
request_again path invoke r ways small =
    let m : Apdu = Confirmed false 1476 invoke (service_of r) (parameters_of r) in
    let size : length (header_octets (asking path) ++ apdu_octets m) + 4 < 65536 = omega (arith, length-append (header_octets (asking path)) (apdu_octets m), length-asking path ways, small) in
    message_back (asking path) m (asking_valid path ways) refl (refl, inr (inr (inr (inr (inr refl))))) size

-- ---- what answers it

same_place_self : (place : Option Place) → same_place place place ≡ true
same_place_self None = refl
same_place_self (Some place) = rw (eq-eqb place.net place.net refl, bytes_self place.address) refl
  where
    bytes_self : (xs : List ℕ) → bytes_eq xs xs ≡ true
    bytes_self xs = (bytes_eq-Decides xs xs).1 refl

-- a ComplexACK with its invoke ID, from where it went, answers it
pub ack_answers : (place : Option Place) (invoke : ℕ) (r : Request) (datagram : List ℕ) (service : ℕ) (parameters : List ℕ) → IsWay place → length (request_apdu invoke r) ≤ 1476 →
    message_in datagram ≡ Some (back (towards place), Complex false invoke service parameters) → answers_to (request_octets (towards place) invoke r) datagram ≡ true
unfolding answers_to
ack_answers place invoke r datagram service parameters way small e = rw (request_again (towards place) invoke r (way, tt) small, e) (rw (eq-eqb invoke invoke refl) (same_place_self place))

-- and so does an Error with it
pub error_answers : (place : Option Place) (invoke : ℕ) (r : Request) (datagram : List ℕ) (service class code : ℕ) → IsWay place → length (request_apdu invoke r) ≤ 1476 →
    message_in datagram ≡ Some (back (towards place), Error invoke service class code) → answers_to (request_octets (towards place) invoke r) datagram ≡ true
unfolding answers_to
error_answers place invoke r datagram service class code way small e = rw (request_again (towards place) invoke r (way, tt) small, e) (rw (eq-eqb invoke invoke refl) (same_place_self place))

same_none : (invoke : Option ℕ) → same_id invoke None ≡ false
same_none None = refl
same_none (Some invoke) = refl

-- what is no answer answers nothing
pub not_awaited : (pending : Option Pending) (datagram : List ℕ) → None ≡ answer_in (apdu_in datagram) → is_awaited pending datagram ≡ false
unfolding answers_to
not_awaited None datagram e = refl
not_awaited (Some p) datagram e = rw (← e) (rw (same_none (asked_id (apdu_in p.request))) refl)
