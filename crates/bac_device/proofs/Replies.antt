-- Replies fit a datagram.
use Rattle.std.proofs.Common.{◌≡◌, ℕ, ◌+◌, ◌*◌, ◌^◌, ◌<◌, ◌≤◌, Bool, true, false, cond, nat_lt, List, [], ◌++◌, length, Option, Some, None, Result, Ok, Err, refl, ap, sym, ◌∙◌, arith, length-append}
use Rattle.std.specs.Int.{w32, to_be_bytes}
use Rattle.std.specs.Result.{IsOk}
use Rattle.bac_wire.specs.Primitive.{Id, Unsigned, Enumerated, Object}
use Rattle.bac_wire.specs.Datagram.{Writes}
use Rattle.bac_wire.specs.Canon.{unsigned_octets, tag_octets, length_octets, head_octets, tagged}
use Rattle.bac_apdu.specs.Adding.{value_octets}
use Rattle.bac_apdu.specs.Apdu.{Apdu, apdu_octets}
use Rattle.bac_apdu.specs.FormCanon.{canon_form}
use Rattle.std.specs.Prelude.{is_some}
use Rattle.std.specs.Option.{option_map}
use Rattle.std.proofs.lemmas.Bool.{lt-ltb, le-ltb}
use Rattle.bac_apdu.specs.Frame.{unicast_head}
use Rattle.bac_apdu.specs.Service.IAm.{i_am, i_am_parameters}
use Rattle.bac_apdu.specs.Npdu.{place_octets, header_octets}
use Rattle.bac_apdu.specs.declared.service.i_am.IAm.{IAm}
use Rattle.bac_device.specs.Reply.{Return, abort, begun, datagram_octets, limited, plain, receiver_of, reply, reply_octets}
use Rattle.bac_device.specs.declared.reply.Receiver.{Receiver}
use Rattle.bac_device.specs.declared.reply.Reply.{Reply}
use Rattle.bac_wire.proofs.Sizes.{length-unsigned}
use Rattle.bac_wire.proofs.Fewest.{length-length_octets}

-- what fits is appended
pub fits_in : {E : Type 0} (old text : List ℕ) (r : Result (Unit {0}) E) (new : List ℕ) → Writes old text r new → length old + length text ≤ 1501 → IsOk r × (new ≡ old ++ text)
fits_in old text (Ok x) new w fits = (refl, w.0)
fits_in old text (Err e) new w fits = absurd (omega (arith, w.1, fits))

cond-len : (b : Bool) (xs ys : List ℕ) (n : ℕ) → length xs ≤ n → length ys ≤ n → length (cond b xs ys) ≤ n
cond-len true xs ys n h k = h
cond-len false xs ys n h k = k

tag-len : (class tag low : ℕ) → length (tag_octets class tag low) ≤ 2
tag-len class tag low = cond-len (nat_lt tag 15) _ _ 2 (omega arith) (omega arith)

tagged-len : (class tag : ℕ) (contents : List ℕ) → length (tagged class tag contents) ≤ 7 + length contents
tagged-len class tag contents =
    let len = length contents in
    let low = cond (nat_lt len 5) len 5 in
    let first = tag-len class tag low in
    let size = length-length_octets len in
    let head = length-append (tag_octets class tag low) (length_octets len) in
    omega (arith, first, size, head, length-append (head_octets class tag len) contents)

object-len : (id : Id) → length (value_octets (Object id)) ≤ 11
unfolding value_octets
object-len id = tagged-len 0 12 (to_be_bytes w32 (id.kind * 2 ^ 22 + id.instance))

number-len : (n : ℕ) → length (value_octets (Unsigned n)) ≤ 15
unfolding value_octets
number-len n = omega (arith, tagged-len 0 2 (unsigned_octets n), length-unsigned n)

enumerated-len : (n : ℕ) → length (value_octets (Enumerated n)) ≤ 15
unfolding value_octets
enumerated-len n = omega (arith, tagged-len 0 9 (unsigned_octets n), length-unsigned n)

pub announcement-len : (a : IAm) → length (canon_form i_am (i_am_parameters a)) ≤ 56
announcement-len a =
    let w = value_octets (Object a.device) in
    let x = value_octets (Unsigned a.max_apdu) in
    let y = value_octets (Enumerated a.segmentation) in
    let z = value_octets (Unsigned a.vendor) in
    omega (
      arith,
      object-len a.device,
      number-len a.max_apdu,
      enumerated-len a.segmentation,
      number-len a.vendor,
      length-append w (x ++ (y ++ (z ++ []))),
      length-append x (y ++ (z ++ [])),
      length-append y (z ++ []),
      length-append {A = ℕ} z [],
    )

pub error-len : (class code : ℕ) → length (value_octets (Enumerated class) ++ value_octets (Enumerated code)) ≤ 30
error-len class code = omega (arith, enumerated-len class, enumerated-len code, length-append (value_octets (Enumerated class)) (value_octets (Enumerated code)))

-- ---- datagrams that are begun

pub begun_more : (xs ys : List ℕ) → begun xs ++ ys ≡ begun (xs ++ ys)
unfolding begun place_octets
begun_more xs ys = refl

pub begun_len : (apdu : List ℕ) → length (begun apdu) ≡ 6 + length apdu
unfolding begun place_octets
begun_len apdu = omega arith

pub heads_are : begun [] ≡ unicast_head 0 ++ header_octets plain
unfolding begun place_octets
heads_are = refl

pub begun_room : (out apdu : List ℕ) → out ≡ begun apdu → 6 ≤ length out
begun_room out apdu e = omega (arith, ap (λ (l : List ℕ). length l) e, begun_len apdu)

pub begun_size : (out apdu : List ℕ) → out ≡ begun apdu → length out ≡ 6 + length apdu
begun_size out apdu e = ap (λ (l : List ℕ). length l) e ∙ begun_len apdu

-- appended to one that was begun
pub begun_with : (old out xs ys : List ℕ) → old ≡ begun xs → out ≡ old ++ ys → out ≡ begun (xs ++ ys)
begun_with old out xs ys e is = is ∙ ap (λ (l : List ℕ). l ++ ys) e ∙ begun_more xs ys

-- ---- answers that are too long

pub too_long : (limit invoke : ℕ) (m : Apdu) → limit < length (apdu_octets m) → datagram_octets (abort invoke) ≡ datagram_octets (limited limit invoke m)
too_long limit invoke m lt = ap (λ (b : Bool). datagram_octets (cond b (abort invoke) m)) (sym (lt-ltb limit (length (apdu_octets m)) lt))

pub short_enough : (limit invoke : ℕ) (m : Apdu) → length (apdu_octets m) ≤ limit → datagram_octets m ≡ datagram_octets (limited limit invoke m)
short_enough limit invoke m le = ap (λ (b : Bool). datagram_octets (cond b (abort invoke) m)) (sym (le-ltb limit (length (apdu_octets m)) le))

-- ---- refusals of functions

-- ---- replies

pub sent_to : (to : Return) (said : Option Apdu) → is_some said ≡ true → receiver_of (option_map (reply to) said) ≡ Some to.to
sent_to to None e = absurd cc
sent_to to (Some m) e = refl

pub sent_nobody : (to : Return) (said : Option Apdu) → is_some said ≡ false → receiver_of (option_map (reply to) said) ≡ None
sent_nobody to None e = refl
sent_nobody to (Some m) e = absurd cc

pub reply_is : (said : Option Reply) (to : Receiver) (octets : List ℕ) → Some to ≡ receiver_of said → octets ≡ reply_octets said → (let r : Reply = record { datagram = octets; to = to } in Some r) ≡ said
reply_is None to octets e is = absurd cc
reply_is (Some r) to octets e is =
    let same : to ≡ r.to = cc in
    ap (λ (l : List ℕ). (let x : Reply = record { datagram = l; to = to } in Some x)) is ∙ ap (λ (t : Receiver). (let x : Reply = record { datagram = r.datagram; to = t } in Some x)) same

pub no_reply : (said : Option Reply) → None ≡ receiver_of said → None ≡ said
no_reply None e = refl
no_reply (Some r) e = absurd cc
