-- ACKs that are too long.
use Rattle.std.proofs.Common.{◌≡◌, refl, ap, sym, ◌∙◌, arith, ℕ, ◌<◌, ◌≤◌, false, List, [], ◌++◌, length, Option, Some, None, Result, Ok, Err, length-append}
use Rattle.std.proofs.lemmas.Bool.{lt-ltb}
use Rattle.bac_wire.specs.Primitive.{Id, Object, Enumerated, Unsigned}
use Rattle.bac_apdu.specs.Adding.{context_octets, open_octets, close_octets}
use Rattle.bac_apdu.specs.Apdu.{Complex, apdu_octets}
use Rattle.bac_apdu.specs.declared.service.read_property.ReadProperty.{ReadProperty}
use Rattle.bac_objects.specs.State.{State}
use Rattle.bac_objects.specs.Reading.{fitted}
use Rattle.bac_device.specs.Answer.{ack_octets, ack, own_id, read_said}
use Rattle.bac_device.specs.Reply.{abort, error, limited, datagram_octets}
use Rattle.bac_objects.specs.declared.fault.Fault.{Fault}
use Rattle.bac_objects.specs.declared.fault.Refused.{Refused}
use Rattle.bac_objects.specs.declared.fault.Refused.TheVariants as refused
use Rattle.bac_objects.proofs.Encodings.{of_fault, of_long, of_ok}

tail-len : (values : List ℕ) → length values ≤ length (open_octets 3 ++ ((values ++ close_octets 3) ++ []))
tail-len values = omega (arith, length-append (open_octets 3) ((values ++ close_octets 3) ++ []), length-append (values ++ close_octets 3) [], length-append values (close_octets 3))

ack-len : (object : Id) (property : ℕ) (index : Option ℕ) (values : List ℕ) → length values ≤ length (ack_octets object property index values)
ack-len object property None values =
    let tail = open_octets 3 ++ ((values ++ close_octets 3) ++ []) in
    omega (arith, tail-len values, length-append (context_octets 0 (Object object)) (context_octets 1 (Enumerated property) ++ tail), length-append (context_octets 1 (Enumerated property)) tail)
ack-len object property (Some index) values =
    let tail = open_octets 3 ++ ((values ++ close_octets 3) ++ []) in
    omega (
      arith,
      tail-len values,
      length-append (context_octets 0 (Object object)) (context_octets 1 (Enumerated property) ++ (context_octets 2 (Unsigned index) ++ tail)),
      length-append (context_octets 1 (Enumerated property)) (context_octets 2 (Unsigned index) ++ tail),
      length-append (context_octets 2 (Unsigned index)) tail,
    )

long_ack : (limit invoke : ℕ) (d : State) (r : ReadProperty) (vs : List ℕ) → limit ≤ 1476 → 1501 < length vs → limited limit invoke (ack invoke d r vs) ≡ abort invoke
long_ack limit invoke d r vs low long =
    let size : limit < length (apdu_octets (ack invoke d r vs)) = omega (arith, low, long, ack-len (own_id d r.object) r.property r.index vs) in
    rw (lt-ltb limit (length (apdu_octets (ack invoke d r vs))) size) refl

as_err : (e f : Refused) → e ≡ f → (let r : Result (List ℕ) Refused = Err f in r) ≡ Err e
as_err e f is = rw is refl

pub said_fault : (d : State) (limit invoke : ℕ) (r : ReadProperty) (f : Fault) (e : Refused) (x : Result (List ℕ) Fault) → e ≡ refused.Fault f → Err e ≡ fitted x → datagram_octets (error invoke 12 f) ≡ datagram_octets (read_said d limit invoke r x)
said_fault d limit invoke r f e x is fitted_ = ap (λ (y : Result (List ℕ) Fault). datagram_octets (read_said d limit invoke r y)) (sym (of_fault x f (as_err e (refused.Fault f) is ∙ fitted_)))

pub said_long : (d : State) (limit invoke : ℕ) (r : ReadProperty) (f : Refused) (x : Result (List ℕ) Fault) → limit ≤ 1476 → f ≡ refused.TooLong → Err f ≡ fitted x → datagram_octets (abort invoke) ≡ datagram_octets (read_said d limit invoke r x)
said_long d limit invoke r f x low is e =
    let o = of_long x (as_err f refused.TooLong is ∙ e) in
    ap datagram_octets (sym (long_ack limit invoke d r o.0 low o.2)) ∙ ap (λ (y : Result (List ℕ) Fault). datagram_octets (read_said d limit invoke r y)) (sym o.1)

pub said_ok : (d : State) (limit invoke : ℕ) (r : ReadProperty) (out : List ℕ) (x : Result (List ℕ) Fault) → Ok out ≡ fitted x
    → datagram_octets (limited limit invoke (Complex false invoke 12 (ack_octets (own_id d r.object) r.property r.index out))) ≡ datagram_octets (read_said d limit invoke r x)
said_ok d limit invoke r out x e =
    ap (λ (y : Result (List ℕ) Fault). datagram_octets (read_said d limit invoke r y)) (sym (of_ok x out e))
