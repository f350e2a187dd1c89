-- A link's questions are the device's: what the device makes of one.
use Rattle.std.proofs.Common.{◌≡◌, refl, ap, ◌∙◌, arith, inr, ℕ, min, false, List, ◌++◌, length, Option, Some, None, Ok, sym, length-append, ◌+◌, ◌<◌}
use Rattle.bac_wire.specs.Primitive.{Id, Object}
use Rattle.bac_wire.specs.Canon.{IsValid}
use Rattle.bac_apdu.specs.Apdu.{Apdu, Confirmed, apdu_octets}
use Rattle.bac_apdu.specs.FormCanon.{canon_form}
use Rattle.bac_apdu.specs.Frame.{Unicast, frame_at, frame_octets}
use Rattle.bac_apdu.specs.Npdu.{Place, header_octets, is_there}
use Rattle.bac_apdu.specs.Route.{IsWay}
use Rattle.bac_apdu.specs.Service.Extent.{IsExtent}
use Rattle.bac_apdu.specs.Service.ReadRange.{read_range, range_parameters, range_in, read_range_at}
use Rattle.bac_apdu.specs.declared.service.extent.Extent.{Extent}
use Rattle.bac_apdu.specs.declared.service.read_range.ReadRange.{ReadRange}
use Rattle.bac_apdu.proofs.Heads.{frame_again, header_again, message_again}
use Rattle.bac_apdu.proofs.Named.{fields_again, range_back}
use Rattle.bac_apdu.proofs.Services.{range_again}
use Rattle.bac_apdu.proofs.Shorts.{range_apdu_short}
use Rattle.bac_log.specs.Ack.{log_buffer}
use Rattle.bac_objects.specs.Records.{records_of}
use Rattle.bac_objects.specs.Sampling.{log_id}
use Rattle.bac_objects.specs.State.{State}
use Rattle.bac_device.specs.Answer.{answer, range_said}
use Rattle.bac_device.specs.Logs.{asking, question_octets}
use Rattle.bac_device.specs.Receiving.{heard_at}
use Rattle.bac_device.specs.Reply.{reply}
use Rattle.bac_device.specs.declared.reply.Receiver.TheVariants.{Sender}
use Rattle.bac_link.specs.Links.{IsQuestion, question}
use Rattle.bac_link.specs.Path.{Path, back, towards}
use Rattle.bac_link.specs.Requests.{asking as asking_by}
use Rattle.bac_link.proofs.Datagrams.{asking_valid, length-asking}
use Rattle.bac_link.proofs.Verdicts.{question_short}
use Rattle.bac_device.proofs.Questions.{is_answered}
use Rattle.bac_memory_link.specs.Events.{goes_on}
use Rattle.bac_link.specs.Requests.{parameters_of, request_apdu, request_octets}

-- a ReadRange of the Log_Buffer of any object
abbrev pub range : Id → Extent → ReadRange
range id extent = record { object = id; property = log_buffer; index = None; extent = extent }

abbrev asked : ℕ → Id → Extent → Apdu
asked invoke id extent = Confirmed false 1476 invoke 26 (canon_form read_range (range_parameters (range id extent)))

request_is : (source : Option Place) (invoke : ℕ) (id : Id) (extent : Extent) → request_octets (back (towards source)) invoke (question id extent) ≡ frame_octets (header_octets (asking source) ++ apdu_octets (asked invoke id extent))
unfolding request_octets request_apdu parameters_of
request_is source invoke id extent = refl

-- of a Trend Log it is the question that the device's laws speak of
pub question_is : (source : Option Place) (invoke n : ℕ) (extent : Extent) → request_octets (back (towards source)) invoke (question (log_id n) extent) ≡ question_octets source invoke n extent
question_is source invoke n extent = request_is source invoke (log_id n) extent

-- ---- it is read back

frame_is : (source : Option Place) (invoke : ℕ) (id : Id) (extent : Extent) → IsWay source → frame_at (request_octets (back (towards source)) invoke (question id extent)) ≡ Some (Unicast (header_octets (asking source) ++ apdu_octets (asked invoke id extent)))
frame_is source invoke id extent way =
    ap frame_at (request_is source invoke id extent)
    ∙ frame_again (header_octets (asking source) ++ apdu_octets (asked invoke id extent))
    (omega (arith, length-asking (back (towards source)) (tt, way), range_apdu_short (range id extent) 1476 invoke, length-append (header_octets (asking source)) (apdu_octets (asked invoke id extent))))

heard_is : (source : Option Place) (invoke : ℕ) (id : Id) (extent : Extent) → IsWay source → heard_at false (header_octets (asking source) ++ apdu_octets (asked invoke id extent)) ≡ Some (record { to_all = false; source = source; apdu = asked invoke id extent })
unfolding heard_at
heard_is source invoke id extent way =
    rw (header_again (asking source) (apdu_octets (asked invoke id extent)) (asking_valid (back (towards source)) (tt, way)), is_answered source way, message_again (asked invoke id extent) (refl, inr (inr (inr (inr (inr refl)))))) refl

read_is : (id : Id) (extent : Extent) → IsValid (Object id) → IsExtent extent → read_range_at (canon_form read_range (range_parameters (range id extent))) ≡ Ok (range id extent)
unfolding read_range_at
read_is id extent valid ranged =
    let q : ReadRange = range id extent in
    fields_again range_in read_range (canon_form read_range (range_parameters q)) (range_parameters q) q (range_again q (valid, omega arith, tt) ranged) (range_back q)

-- ---- it is answered, and changes nothing

answered : (d : State) (source : Option Place) (invoke : ℕ) (id : Id) (extent : Extent) → IsWay source → IsValid (Object id) → IsExtent extent
    → answer d (request_octets (back (towards source)) invoke (question id extent)) ≡ (Some (reply (record { to = Sender; place = source }) (range_said (min 1476 d.reply_size) invoke (range id extent) (records_of d (range id extent)))), d)
unfolding answer
answered d source invoke id extent way valid ranged = rw (frame_is source invoke id extent way, heard_is source invoke id extent way, read_is id extent valid ranged) refl

pub answer_is : (d : State) (source : Option Place) (invoke : ℕ) (id : Id) (extent : Extent) (octets : List ℕ) → IsQuestion id extent (back (towards source)) invoke octets
    → answer d octets ≡ (Some (reply (record { to = Sender; place = source }) (range_said (min 1476 d.reply_size) invoke (range id extent) (records_of d (range id extent)))), d)
answer_is d source invoke id extent octets asks = ap (λ (o : List ℕ). answer d o) asks.0 ∙ answered d source invoke id extent asks.3.1 asks.2 asks.1

-- ---- whether it goes on

header_is : (path : Path) (id : Id) (extent : Extent) (invoke : ℕ) (octets : List ℕ) → IsQuestion id extent path invoke octets → goes_on octets ≡ is_there path.dest
unfolding goes_on request_octets
header_is path id extent invoke octets asks =
    let apdu : List ℕ = request_apdu invoke (question id extent) in
    let small : length (header_octets (asking_by path) ++ apdu) + 4 < 65536 =
    omega (arith, length-append (header_octets (asking_by path)) apdu, length-asking path asks.3, question_short id extent invoke) in
    rw (asks.0, frame_again (header_octets (asking_by path) ++ apdu) small, header_again (asking_by path) apdu (asking_valid path asks.3)) refl

none_there : (place : Option Place) → is_there place ≡ false → place ≡ None
none_there None e = refl
none_there (Some place) e = absurd cc

-- one that stays is from a place behind a router, or from none
pub stays_here : (path : Path) (id : Id) (extent : Extent) (invoke : ℕ) (octets : List ℕ) → IsQuestion id extent path invoke octets → goes_on octets ≡ false → path ≡ back (towards path.source)
stays_here path id extent invoke octets asks e =
    ap (λ d. (let p : Path = record { dest = d; source = path.source } in p)) (none_there path.dest (sym (header_is path id extent invoke octets asks) ∙ e))

pub here_stays : (path : Path) (id : Id) (extent : Extent) (invoke : ℕ) (octets : List ℕ) → IsQuestion id extent path invoke octets → path.dest ≡ None → goes_on octets ≡ false
here_stays path id extent invoke octets asks none = header_is path id extent invoke octets asks ∙ ap is_there none
