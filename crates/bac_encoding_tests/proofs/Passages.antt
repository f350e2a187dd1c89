-- What goes through all layers comes back. Each lemma takes the public laws of the crates that it needs as premises.
use Rattle.std.proofs.Common.{◌≡◌, ℕ, ◌+◌, ◌^◌, ◌<◌, ◌≤◌, Bool, true, false, List, [], ◌++◌, length, Some, None, Ok, refl, sym, ap, ◌∙◌, append-nil, length-append, arith, inr}
use Rattle.bac_wire.specs.Canon.{canon, IsValid}
use Rattle.bac_wire.specs.Encoding.{value_octets}
use Rattle.bac_wire.specs.Level.{IsLevel}
use Rattle.bac_wire.specs.Primitive.{Id, Primitive, Object}
use Rattle.bac_wire.specs.Reading.{value_at}
use Rattle.bac_apdu.specs.Apdu.{Apdu, Confirmed, IsApdu, apdu_at, apdu_octets}
use Rattle.bac_apdu.specs.FormCanon.{canon_form}
use Rattle.bac_apdu.specs.Frame.{Unicast, frame_at, frame_octets}
use Rattle.bac_apdu.specs.Npdu.{Header, IsHeader, header_at, header_octets}
use Rattle.bac_apdu.specs.Service.Choice.{read_range_service}
use Rattle.bac_apdu.specs.Service.Extent.{IsExtent}
use Rattle.bac_apdu.specs.Service.ReadProperty.{IsProperty}
use Rattle.bac_apdu.specs.Service.ReadPropertyAck.{PropertyAck, property_ack_octets, read_property_ack_at}
use Rattle.bac_apdu.specs.Service.ReadRange.{read_range, range_parameters, read_range_at}
use Rattle.bac_apdu.specs.declared.service.read_range.ReadRange.{ReadRange}
use Rattle.bac_encoding_tests.specs.Passage.{header_with, datagram_with, apdu_in, question, question_in, two_values, answer, values_in, answer_in}

-- an APDU that is sent is received
abbrev pub Again : Type 0
Again = (reply : Bool) (apdu : Apdu) → IsApdu apdu → length (apdu_octets apdu) ≤ 1495 → apdu_in (datagram_with reply apdu) ≡ Some apdu

pub apdu_again : (frame : (body : List ℕ) → length body + 4 < 65536 → frame_at (frame_octets body) ≡ Some (Unicast body)) (header : (h : Header) (rest : List ℕ) → IsHeader h → header_at (header_octets h ++ rest) ≡ Some (h, rest))
    (message : (m : Apdu) → IsApdu m → apdu_at (apdu_octets m) ≡ Some m) (size : (h : Header) → h.dest ≡ None → h.source ≡ None → length (header_octets h) ≡ 2) → Again
unfolding apdu_in datagram_with
apdu_again frame header message size reply m valid short =
    let h = header_with reply in
    let fits : length (header_octets h ++ apdu_octets m) + 4 < 65536 = omega (arith, length-append (header_octets h) (apdu_octets m), size h refl refl, short) in
    rw (frame (header_octets h ++ apdu_octets m) fits, header h (apdu_octets m) (omega arith, tt, tt, refl), message m valid) refl

pub question_again : Again → (short : (r : ReadRange) (size invoke : ℕ) → length (apdu_octets (Confirmed false size invoke read_range_service (canon_form read_range (range_parameters r)))) ≤ 51)
    (back : (r : ReadRange) → IsProperty r.object r.property r.index → IsExtent r.extent → read_range_at (canon_form read_range (range_parameters r)) ≡ Ok r)
    (r : ReadRange) (invoke : ℕ) → IsProperty r.object r.property r.index → IsExtent r.extent → question_in (datagram_with true (question r invoke)) ≡ Some r
unfolding question_in
question_again again short back r invoke valid extent =
    let fits : length (apdu_octets (question r invoke)) ≤ 1495 = omega (arith, short r 1476 invoke) in
    rw (again true (question r invoke) (refl, inr (inr (inr (inr (inr refl))))) fits, back r valid extent) refl

two_level : (value : (v : Primitive) → IsValid v → IsLevel (canon v)) (joined : (a b : List ℕ) → IsLevel a → IsLevel b → IsLevel (a ++ b)) (v w : Primitive) → IsValid v → IsValid w → IsLevel (value_octets v ++ value_octets w)
unfolding value_octets
two_level value joined v w f g = joined (canon v) (canon w) (value v f) (value w g)

values_again : (value : (v : Primitive) (rest : List ℕ) → IsValid v → value_at (canon v ++ rest) ≡ Ok (v, rest)) (v w : Primitive) → IsValid v → IsValid w → values_in (value_octets v ++ value_octets w) ≡ Some (v, w)
unfolding values_in value_octets
values_again value v w f g =
    let last : value_at (canon w) ≡ Ok (w, []) = ap value_at (sym (append-nil (canon w))) ∙ value w [] g in
    rw (value v (canon w) f, last) refl

pub answer_again : Again → (level : (v : Primitive) → IsValid v → IsLevel (canon v)) (joined : (a b : List ℕ) → IsLevel a → IsLevel b → IsLevel (a ++ b)) (value : (v : Primitive) (rest : List ℕ) → IsValid v → value_at (canon v ++ rest) ≡ Ok (v, rest))
    (back : (a : PropertyAck) → IsProperty a.object a.property a.index → IsLevel a.values → read_property_ack_at (property_ack_octets a) ≡ Some a)
    (object : Id) (property invoke : ℕ) (v w : Primitive) → IsValid (Object object) → property < 2 ^ 32 → IsValid v → IsValid w → length (apdu_octets (answer object property v w invoke)) ≤ 1495
    → answer_in (datagram_with false (answer object property v w invoke)) ≡ Some (v, w)
unfolding answer_in
answer_again again level joined value back object property invoke v w valid small f g short =
    let ack = two_values object property v w in
    rw (again false (answer object property v w invoke) refl short, back ack (valid, small, tt) (two_level level joined v w f g), values_again value v w f g) refl
