-- What each answer does to the state.
use Rattle.std.specs.Prelude.{nat_le, not}
use Rattle.std.proofs.lemmas.Bool.{leb-true, and_parts}
use Rattle.std.proofs.lemmas.Option.{none-some, same_Some}
use Rattle.std.proofs.Common.{◌≡◌, ◌==◌, refl, sym, ap, subst, arith, ℕ, ◌+◌, ◌<◌, ◌≤◌, ◌^◌, Bool, true, false, cond, List, [], ◌∷◌, ◌++◌, length, Option, Some, None, Result, Ok, Err, ◌⊎◌, inl, inr, length-append}
use Rattle.std.proofs.lemmas.Bool.Decides.{nat_tests}
use Rattle.std.specs.Result.{result_ok}
use Rattle.bac_apdu.specs.Apdu.{Apdu, Confirmed, Unconfirmed, Simple, Complex, SegmentAck, Error, Reject, Abort, IsApdu, apdu_at, apdu_octets}
use Rattle.bac_apdu.specs.Frame.{Frame, Unicast, Broadcast, Forwarded, Function, frame_at}
use Rattle.bac_apdu.specs.Npdu.{Place, header_at, header_octets, IsHeader, place_octets}
use Rattle.bac_apdu.specs.Route.{IsRoute, IsWay}
use Rattle.bac_apdu.proofs.Grammar.{bind_some, chosen_some}
use Rattle.bac_apdu.proofs.Heads.{frame_again, header_again, message_again}
use Rattle.bac_apdu.specs.declared.reason.Reason.{Reason}
use Rattle.bac_objects.specs.State.{State}
use Rattle.bac_apdu.specs.Service.WriteProperty.{PropertyWrite, write_property_at}
use Rattle.bac_apdu.proofs.Shorts.{place_valid}
use Rattle.bac_objects.specs.Writing.{write_of}
use Rattle.bac_device.specs.Receiving.{ReceivedApdu, heard_at, is_answerable, is_heard}
use Rattle.bac_device.specs.Answer.{write_said, answer_write, answer_request, replied, answer_apdu, answer_heard, returning, sent, answer_npdu, answer_frame, answer}
use Rattle.bac_objects.specs.Fault.{class_of, code_of}
use Rattle.bac_device.specs.Reply.{Return, datagram_to, error, plain, plain_to, reply}
use Rattle.bac_device.specs.History.{apdu_told, heard_in, told_in, write_in_apdu, write_heard, is_done}
use Rattle.bac_objects.specs.declared.fault.Fault.{Fault}
use Rattle.bac_objects.specs.declared.fault.Fault.TheVariants.{UnknownObject, UnknownProperty, NotArray, BadIndex, ReadDenied, NotList, WriteDenied, BadType, BadValue}
use Rattle.bac_device.specs.declared.reply.Reply.{Reply}
use Rattle.bac_device.specs.declared.reply.Receiver.{Receiver}
use Rattle.bac_device.specs.declared.reply.Receiver.TheVariants.{Sender, Address}
use Rattle.bac_device.proofs.Replies.{error-len}

-- ---- replies are read back

plain_is : header_octets plain ≡ 1 ∷ 0 ∷ []
unfolding place_octets
plain_is = refl

plain_valid : IsHeader plain
plain_valid = (omega arith, tt, tt, refl)

pub plain_to_valid : (place : Option Place) → IsWay place → IsHeader (plain_to place)
plain_to_valid None way = plain_valid
plain_to_valid (Some place) way = (omega arith, place_valid (Some place) way, tt, tt)

length-place : (place : Place) → IsRoute place → length (header_octets (plain_to (Some place))) ≤ 21
unfolding place_octets
length-place place way = omega (arith, way.3, length-append place.address (255 ∷ []))

pub length-plain_to : (place : Option Place) → IsWay place → length (header_octets (plain_to place)) ≤ 21
length-plain_to None way = omega (arith, ap (λ (l : List ℕ). length l) plain_is)
length-plain_to (Some place) way = length-place place way

pub again : (place : Option Place) (m : Apdu) → IsWay place → IsApdu m → length (apdu_octets m) ≤ 1476 → told_in (frame_at (datagram_to place m)) ≡ Some m
unfolding datagram_to apdu_told
again place m way valid short =
    let head : List ℕ = header_octets (plain_to place) in
    let size : length (head ++ apdu_octets m) + 4 < 65536 = omega (arith, length-append head (apdu_octets m), length-plain_to place way, short) in
    rw (frame_again (head ++ apdu_octets m) size, header_again (plain_to place) (apdu_octets m) (plain_to_valid place way), message_again m valid) refl

simple_done : (to : Return) (way : IsWay to.place) (invoke service : ℕ) → is_done (Some (reply to (Simple invoke service))) ≡ true
simple_done to way invoke service = rw (again to.place (Simple invoke service) way tt (omega arith)) refl

pub small : (f : Fault) → (class_of f < 2 ^ 32) × (code_of f < 2 ^ 32)
small UnknownObject = (omega arith, omega arith)
small UnknownProperty = (omega arith, omega arith)
small NotArray = (omega arith, omega arith)
small BadIndex = (omega arith, omega arith)
small ReadDenied = (omega arith, omega arith)
small NotList = (omega arith, omega arith)
small WriteDenied = (omega arith, omega arith)
small BadType = (omega arith, omega arith)
small BadValue = (omega arith, omega arith)

error_not_done : (to : Return) (way : IsWay to.place) (invoke service : ℕ) (f : Fault) → is_done (Some (reply to (error invoke service f))) ≡ false
error_not_done to way invoke service f = rw (again to.place (error invoke service f) way (small f) (omega (arith, error-len (class_of f) (code_of f)))) refl

-- ---- what was said

-- nothing was accepted and nothing changed, or a write was accepted, and the state is the one after it
abbrev pub Told : State → Option Reply × State → Option PropertyWrite → Type 0
Told d said asked =
    ((cond (is_done said.0) asked None ≡ None) × (said.1 ≡ d))
    ⊎ ((w : PropertyWrite) × (cond (is_done said.0) asked None ≡ Some w) × (is_done said.0 ≡ true) × (write_of d w ≡ Ok said.1))

unasked : (b : Bool) → (let none : Option PropertyWrite = None in cond b none None) ≡ None
unasked true = refl
unasked false = refl

told_done : (d : State) (to : Return) (way : IsWay to.place) (invoke : ℕ) (w : PropertyWrite) (x : Result State Fault) → write_of d w ≡ x → Told d (sent to (replied (write_said d invoke x))) (Some w)
told_done d to way invoke w (Ok new) e = inr (w, rw (simple_done to way invoke 15) refl, simple_done to way invoke 15, e)
told_done d to way invoke w (Err fault) e = inl (rw (error_not_done to way invoke 15 fault) refl, refl)

told_write : (d : State) (to : Return) (way : IsWay to.place) (invoke : ℕ) (r : Result PropertyWrite Reason) → Told d (sent to (replied (answer_write d invoke r))) (result_ok r)
told_write d to way invoke (Ok w) = told_done d to way invoke w (write_of d w) refl
told_write d to way invoke (Err reason) = inl (unasked _, refl)

is_read : (n : ℕ) → (n == 12) ≡ true → (n == 15) ≡ false
is_read n e = grind (arith, nat_tests)

-- records, or a service that isn't there
told_last : (b : Bool) (d : State) (to : Return) (way : IsWay to.place) (m n : Apdu) → Told d (sent to (replied (cond b (m, d) (n, d)))) None
told_last true d to way m n = inl (unasked _, refl)
told_last false d to way m n = inl (unasked _, refl)

told_other : (b : Bool) (d : State) (to : Return) (way : IsWay to.place) (m : Apdu) (range : Bool) (invoke : ℕ) (parameters : List ℕ) →
    Told d (sent to (replied (cond b (answer_write d invoke (write_property_at parameters)) (cond range (m, d) (Reject invoke 9, d))))) (cond b (result_ok (write_property_at parameters)) None)
told_other true d to way m range invoke parameters = told_write d to way invoke (write_property_at parameters)
told_other false d to way m range invoke parameters = told_last range d to way m (Reject invoke 9)

told_service : (b : Bool) (d : State) (to : Return) (way : IsWay to.place) (m n : Apdu) (invoke service : ℕ) (parameters : List ℕ) → (service == 12) ≡ b →
    Told d (sent to (replied (cond b (m, d) (cond (service == 15) (answer_write d invoke (write_property_at parameters)) (cond (service == 26) (n, d) (Reject invoke 9, d)))))) (cond (service == 15) (result_ok (write_property_at parameters)) None)
told_service true d to way m n invoke service parameters e = rw (is_read service e) (inl (unasked _, refl))
told_service false d to way m n invoke service parameters e = told_other (service == 15) d to way n (service == 26) invoke parameters

told_request : (segmented : Bool) (d : State) (to : Return) (way : IsWay to.place) (size invoke service : ℕ) (parameters : List ℕ) →
    Told d (sent to (replied (answer_request d segmented size invoke service parameters))) (write_in_apdu (Confirmed segmented size invoke service parameters))
told_request true d to way size invoke service parameters = inl (unasked _, refl)
told_request false d to way size invoke service parameters = told_service (service == 12) d to way _ _ invoke service parameters refl

told_apdu : (d : State) (to : Return) (way : IsWay to.place) (to_all : Bool) (m : Apdu) → Told d (sent to (answer_apdu d to_all m)) (cond to_all None (write_in_apdu m))
told_apdu d to way true (Confirmed segmented size invoke service parameters) = inl (refl, refl)
told_apdu d to way false (Confirmed segmented size invoke service parameters) = told_request segmented d to way size invoke service parameters
told_apdu d to way true (Unconfirmed service parameters) = inl (unasked _, refl)
told_apdu d to way false (Unconfirmed service parameters) = inl (unasked _, refl)
told_apdu d to way true (Simple invoke service) = inl (refl, refl)
told_apdu d to way false (Simple invoke service) = inl (refl, refl)
told_apdu d to way true (Complex segmented invoke service parameters) = inl (refl, refl)
told_apdu d to way false (Complex segmented invoke service parameters) = inl (refl, refl)
told_apdu d to way true (SegmentAck invoke) = inl (refl, refl)
told_apdu d to way false (SegmentAck invoke) = inl (refl, refl)
told_apdu d to way true (Error invoke service class code) = inl (refl, refl)
told_apdu d to way false (Error invoke service class code) = inl (refl, refl)
told_apdu d to way true (Reject invoke reason) = inl (refl, refl)
told_apdu d to way false (Reject invoke reason) = inl (refl, refl)
told_apdu d to way true (Abort by_server invoke reason) = inl (refl, refl)
told_apdu d to way false (Abort by_server invoke reason) = inl (refl, refl)

told_heard : (d : State) (to : Return) (way : IsWay to.place) (h : Option ReceivedApdu) → Told d (sent to (answer_heard d h)) (write_heard h)
told_heard d to way None = inl (refl, refl)
told_heard d to way (Some h) = told_apdu d to way h.to_all h.apdu

-- ---- where answers go

answerable_way : (place : Option Place) → is_answerable place ≡ true → IsWay place
answerable_way None e = tt
answerable_way (Some place) e =
    let one = and_parts (nat_le 1 place.net) _ e in
    let two = and_parts (nat_le place.net 65534) _ one.1 in
    let three = and_parts (nat_le 1 (length place.address)) _ two.1 in
    (leb-true _ _ one.0, leb-true _ _ two.0, leb-true _ _ three.0, leb-true _ _ three.1)

pub heard_way : (to_all : Bool) (npdu : List ℕ) (h : ReceivedApdu) → heard_at to_all npdu ≡ Some h → IsWay h.source
unfolding heard_at
heard_way to_all npdu h e =
    let x = bind_some (header_at npdu) _ h e in
    elim (chosen_some (is_heard x.0.0) _ None h x.2) [
      | inl t ↦
          let a = bind_some (apdu_at x.0.1) _ h t.1 in
          let from : h.source ≡ x.0.0.source = ap (λ (y : ReceivedApdu). y.source) (sym (same_Some _ h a.2)) in
          let tests = and_parts (not x.0.0.network) _ t.0 in
          let first = and_parts (is_answerable x.0.0.source) _ tests.1 in
          subst IsWay (sym from) (answerable_way x.0.0.source first.0)
      | inr f ↦ absurd (none-some h f.1)
    ]

pub return_way : (to : Receiver) (to_all : Bool) (npdu : List ℕ) (h : Option ReceivedApdu) → heard_at to_all npdu ≡ h → IsWay (returning to h).place
return_way to to_all npdu None e = tt
return_way to to_all npdu (Some h) e = heard_way to_all npdu h e

told_npdu : (d : State) (to : Receiver) (to_all : Bool) (npdu : List ℕ) → Told d (answer_npdu d to (heard_at to_all npdu)) (write_heard (heard_at to_all npdu))
told_npdu d to to_all npdu =
    let h : Option ReceivedApdu = heard_at to_all npdu in
    told_heard d (returning to h) (return_way to to_all npdu h refl) h

told_frame : (d : State) (f : Option Frame) → Told d (answer_frame d f) (write_heard (heard_in f))
told_frame d None = inl (refl, refl)
told_frame d (Some (Unicast npdu)) = told_npdu d Sender false npdu
told_frame d (Some (Broadcast npdu)) = told_npdu d Sender true npdu
told_frame d (Some (Forwarded address npdu)) = told_npdu d (Address address) true npdu
told_frame d (Some (Function function rest)) = inl (unasked _, refl)

pub told : (d : State) (datagram : List ℕ) → Told d (answer d datagram) (write_heard (heard_in (frame_at datagram)))
unfolding answer
told d datagram = told_frame d (frame_at datagram)
