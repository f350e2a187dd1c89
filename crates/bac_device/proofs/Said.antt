-- Every answer has at most 1476 octets, so it fits a datagram by whatever networks it goes.
use Rattle.std.proofs.Common.{◌≡◌, refl, ap, sym, subst, ◌∙◌, arith, ℕ, ◌≤◌, ◌==◌, nat_lt, min, Bool, true, false, cond, List, [], ◌++◌, take, drop, length, ◌-◌, Option, Some, None, Result, Ok, Err, length-append}
use Rattle.std.proofs.lemmas.Bool.Decides.{nat_tests}
use Rattle.std.proofs.lemmas.List.{length-drop, take_all}
use Rattle.bac_wire.specs.Primitive.{Id}
use Rattle.bac_apdu.specs.Apdu.{Apdu, Confirmed, Unconfirmed, Simple, Complex, SegmentAck, Error, Reject, Abort, apdu_octets}
use Rattle.bac_apdu.specs.Frame.{frame_octets}
use Rattle.bac_apdu.specs.Npdu.{Place, header_octets, place_octets}
use Rattle.bac_apdu.specs.Service.ReadProperty.{read_property_at}
use Rattle.bac_apdu.specs.Service.ReadRange.{read_range_at}
use Rattle.bac_apdu.specs.Service.WhoIs.{who_is_at}
use Rattle.bac_apdu.specs.Service.WriteProperty.{PropertyWrite, write_property_at}
use Rattle.bac_apdu.specs.declared.reason.Reason.{Reason}
use Rattle.bac_apdu.specs.declared.service.extent.Extent.{Extent}
use Rattle.bac_apdu.specs.declared.service.read_property.ReadProperty.{ReadProperty}
use Rattle.bac_apdu.specs.declared.service.read_range.ReadRange.{ReadRange}
use Rattle.bac_apdu.specs.declared.service.who_is.WhoIs.{WhoIs}
use Rattle.bac_log.specs.TrendLog.{Log}
use Rattle.bac_objects.specs.Fault.{class_of, code_of}
use Rattle.bac_objects.specs.Reading.{read_of}
use Rattle.bac_objects.specs.Records.{records_of}
use Rattle.bac_objects.specs.State.{State}
use Rattle.bac_objects.specs.Writing.{write_of}
use Rattle.bac_objects.specs.declared.fault.Fault.{Fault}
use Rattle.bac_device.specs.Answer.{ack, announced, announcement, answer_apdu, answer_npdu, answer_range, answer_read, answer_request, answer_write, asks_for, i_am_apdu, is_too_small, range_said, read_said, records_ack, records_said, write_said}
use Rattle.std.specs.Prelude.{is_some}
use Rattle.std.specs.Option.{option_map}
use Rattle.bac_device.specs.Receiving.{ReceivedApdu, heard_at}
use Rattle.bac_device.specs.declared.reply.Receiver.{Receiver}
use Rattle.bac_device.specs.Reply.{abort, datagram_octets, datagram_to, error, limited, plain_to, reply, reply_octets, said_octets}
use Rattle.bac_device.proofs.Told.{length-plain_to}
use Rattle.bac_wire.specs.Datagram.{Writes}
use Rattle.bac_apdu.specs.Route.{IsRoute}
use Rattle.bac_device.proofs.Replies.{announcement-len, error-len, fits_in}
use Rattle.bac_apdu.proofs.Shorts.{length-frame}

abbrev IsShort : Apdu → Type 0
IsShort m = length (apdu_octets m) ≤ 1476

abbrev AreShort : Option Apdu → Type 0
AreShort None = Unit {0}
AreShort (Some m) = IsShort m

short_if : (b : Bool) (m n : Apdu) → IsShort m → IsShort n → IsShort (cond b m n)
short_if true m n p q = p
short_if false m n p q = q

limited_at : (b : Bool) (limit invoke : ℕ) (m : Apdu) → nat_lt limit (length (apdu_octets m)) ≡ b → limit ≤ 1476 → IsShort (cond b (abort invoke) m)
limited_at true limit invoke m e le = omega arith
limited_at false limit invoke m e le = within limit (length (apdu_octets m)) e le
  where
    within : (a n : ℕ) → nat_lt a n ≡ false → a ≤ 1476 → n ≤ 1476
    within a n e le = grind (arith, nat_tests)

limited_short : (limit invoke : ℕ) (m : Apdu) → limit ≤ 1476 → IsShort (limited limit invoke m)
limited_short limit invoke m le = limited_at (nat_lt limit (length (apdu_octets m))) limit invoke m refl le

error_short : (invoke service : ℕ) (f : Fault) → IsShort (error invoke service f)
error_short invoke service f = omega (arith, error-len (class_of f) (code_of f))

read_short : (d : State) (limit invoke : ℕ) (r : ReadProperty) (x : Result (List ℕ) Fault) → limit ≤ 1476 → IsShort (read_said d limit invoke r x)
read_short d limit invoke r (Ok values) le = limited_short limit invoke (ack invoke d r values) le
read_short d limit invoke r (Err fault) le = error_short invoke 12 fault

answer_read_short : (d : State) (limit invoke : ℕ) (x : Result ReadProperty Reason) → limit ≤ 1476 → IsShort (answer_read d limit invoke x)
answer_read_short d limit invoke (Ok r) le = read_short d limit invoke r (read_of d r) le
answer_read_short d limit invoke (Err reason) le = omega arith

write_short : (d : State) (invoke : ℕ) (x : Result State Fault) → IsShort (write_said d invoke x).0
write_short d invoke (Ok new) = omega arith
write_short d invoke (Err fault) = error_short invoke 15 fault

answer_write_short : (d : State) (invoke : ℕ) (x : Result PropertyWrite Reason) → IsShort (answer_write d invoke x).0
answer_write_short d invoke (Ok w) = write_short d invoke (write_of d w)
answer_write_short d invoke (Err reason) = omega arith

records_short : (limit invoke : ℕ) (object : Id) (extent : Extent) (log : Log) → limit ≤ 1476 → IsShort (records_said limit invoke object extent log)
records_short limit invoke object extent log le =
    short_if (is_too_small limit extent log) (abort invoke) _ (omega arith) (limited_short limit invoke (records_ack limit invoke object extent log) le)

range_short : (limit invoke : ℕ) (r : ReadRange) (x : Result Log Fault) → limit ≤ 1476 → IsShort (range_said limit invoke r x)
range_short limit invoke r (Ok log) le = records_short limit invoke r.object r.extent log le
range_short limit invoke r (Err fault) le = error_short invoke 26 fault

answer_range_short : (d : State) (limit invoke : ℕ) (x : Result ReadRange Reason) → limit ≤ 1476 → IsShort (answer_range d limit invoke x)
answer_range_short d limit invoke (Ok r) le = range_short limit invoke r (records_of d r) le
answer_range_short d limit invoke (Err reason) le = omega arith

pair_if : (b : Bool) (x y : Apdu × State) → IsShort x.0 → IsShort y.0 → IsShort (cond b x y).0
pair_if true x y p q = p
pair_if false x y p q = q

request_short : (d : State) (segmented : Bool) (size invoke service : ℕ) (parameters : List ℕ) → d.reply_size ≤ 1476 → IsShort (answer_request d segmented size invoke service parameters).0
request_short d segmented size invoke service parameters le =
    let limit : min size d.reply_size ≤ 1476 = omega (arith, le) in
    pair_if segmented _ _ (omega arith)
    (pair_if (service == 12) _ _ (answer_read_short d (min size d.reply_size) invoke (read_property_at parameters) limit)
    (pair_if (service == 15) _ _ (answer_write_short d invoke (write_property_at parameters))
    (pair_if (service == 26) _ _ (answer_range_short d (min size d.reply_size) invoke (read_range_at parameters) limit) (omega arith))))

announced_if : (b : Bool) (d : State) → AreShort (cond b (Some (i_am_apdu d)) None)
announced_if true d = omega (arith, announcement-len (announcement d))
announced_if false d = tt

announced_short : (d : State) (w : Option WhoIs) → AreShort (announced d w)
announced_short d None = tt
announced_short d (Some w) = announced_if (asks_for d.instance w.limits) d

some_if : (b : Bool) (m : Option Apdu) → AreShort m → AreShort (cond b m None)
some_if true m p = p
some_if false m p = tt

pub said_short : (d : State) (to_all : Bool) (m : Apdu) → d.reply_size ≤ 1476 → AreShort (answer_apdu d to_all m).0
said_short d true (Confirmed segmented size invoke service parameters) le = tt
said_short d false (Confirmed segmented size invoke service parameters) le = request_short d segmented size invoke service parameters le
said_short d to_all (Unconfirmed service parameters) le = some_if (service == 8) (announced d (who_is_at parameters)) (announced_short d (who_is_at parameters))
said_short d to_all (Simple invoke service) le = tt
said_short d to_all (Complex segmented invoke service parameters) le = tt
said_short d to_all (SegmentAck invoke) le = tt
said_short d to_all (Error invoke service class code) le = tt
said_short d to_all (Reject invoke reason) le = tt
said_short d to_all (Abort by_server invoke reason) le = tt

-- after the heads of a reply comes its APDU
pub behind_heads : (m : Apdu) → drop 6 (datagram_octets m) ≡ apdu_octets m
unfolding datagram_octets frame_octets place_octets
behind_heads m = refl

-- the octets from the APDU on
rest_is : (out : List ℕ) → take (length out - 6) (drop 6 out) ≡ drop 6 out
rest_is out = take_all (length out - 6) (drop 6 out) (omega (arith, length-drop 6 out))

-- what is written to a place behind a router is that APDU
pub rerouted : {E : Type 0} (place : Place) (out empty new : List ℕ) (r : Result (Unit {0}) E) (m : Apdu) → IsRoute place → length (apdu_octets m) ≤ 1476 → out ≡ datagram_octets m → empty ≡ []
    → Writes empty (frame_octets (header_octets (plain_to (Some place)) ++ take (length out - 6) (drop 6 out))) r new → new ≡ datagram_to (Some place) m
unfolding datagram_to
rerouted place out empty new r m way short is none w =
    let head : List ℕ = header_octets (plain_to (Some place)) in
    let rest : List ℕ = take (length out - 6) (drop 6 out) in
    let text : List ℕ = frame_octets (head ++ rest) in
    let apdu : rest ≡ apdu_octets m = rest_is out ∙ ap (λ (l : List ℕ). drop 6 l) is ∙ behind_heads m in
    let size : length rest ≡ length (apdu_octets m) = ap (λ (l : List ℕ). length l) apdu in
    let zero : length empty ≡ 0 = ap (λ (l : List ℕ). length l) none in
    (fits_in empty text r new w (omega (arith, zero, length-frame (head ++ rest), length-append head rest, length-plain_to (Some place) way, size, short))).1
    ∙ ap (λ (l : List ℕ). l ++ text) none
    ∙ ap (λ (l : List ℕ). frame_octets (head ++ l)) apdu

pub plain_same : (m : Apdu) → datagram_octets m ≡ datagram_to None m
unfolding datagram_octets datagram_to
plain_same m = refl

-- ---- what an NPDU is answered

some_of : (said : Option Apdu) → is_some said ≡ true → (m : Apdu) × (said ≡ Some m)
some_of None e = absurd cc
some_of (Some m) e = (m, refl)

heads_long : (m : Apdu) → 6 ≤ length (datagram_octets m)
unfolding datagram_octets frame_octets place_octets
heads_long m = omega arith

pub heads_there : (said : Option Apdu) (out : List ℕ) → is_some said ≡ true → out ≡ said_octets said → 6 ≤ length out
heads_there said out some is =
    let m = some_of said some in
    let e : out ≡ datagram_octets m.0 = is ∙ ap (λ (o : Option Apdu). said_octets o) m.1 in
    omega (arith, heads_long m.0, ap (λ (l : List ℕ). length l) e)

pub sent_back : (d : State) (to : Receiver) (to_all : Bool) (npdu : List ℕ) (heard : ReceivedApdu) (out new : List ℕ) → heard_at to_all npdu ≡ Some heard → d.reply_size ≤ 1476
    → is_some (answer_apdu d heard.to_all heard.apdu).0 ≡ true → out ≡ said_octets (answer_apdu d heard.to_all heard.apdu).0
    → ((m : Apdu) → length (apdu_octets m) ≤ 1476 → out ≡ datagram_octets m → new ≡ datagram_to heard.source m) → new ≡ reply_octets (answer_npdu d to (heard_at to_all npdu)).0
sent_back d to to_all npdu heard out new e le some is back =
    let said : Option Apdu = (answer_apdu d heard.to_all heard.apdu).0 in
    let m = some_of said some in
    let short : IsShort m.0 = subst (λ (o : Option Apdu). AreShort o) m.1 (said_short d heard.to_all heard.apdu le) in
    back m.0 short (is ∙ ap (λ (o : Option Apdu). said_octets o) m.1)
    ∙ sym (ap (λ (h : Option ReceivedApdu). reply_octets (answer_npdu d to h).0) e ∙ ap (λ (o : Option Apdu). reply_octets (option_map (reply (record { to = to; place = heard.source })) o)) m.1)
