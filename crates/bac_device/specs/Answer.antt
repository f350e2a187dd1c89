-- What a device answers to a datagram, and what it is afterwards.
-- Read from the end: a frame (Annex J), what it has for the device (clause 6), an APDU (20.1), a request, a service.
use Rattle.std.specs.Prelude.{ℕ, ◌==◌, ◌&&◌, not, nat_le, Bool, true, false, if◌then◌else◌, List, [], ◌∷◌, min, Option}
use Rattle.std.specs.Prelude.{None, Some, Result, Ok, Err}
use Rattle.std.specs.Option.{option_map}
use Rattle.bac_wire.specs.Primitive.{Object, Enumerated, Id}
use Rattle.bac_apdu.specs.Apdu.{Apdu, Confirmed, Unconfirmed, Simple, Complex, Reject}
use Rattle.bac_apdu.specs.Form.{Value, Mark, Inside, number_parameter}
use Rattle.bac_apdu.specs.FormCanon.{canon_form}
use Rattle.bac_apdu.specs.Frame.{Frame, Unicast, Broadcast, Forwarded, Function, frame_at}
pub use Rattle.bac_apdu.specs.Service.Choice.{i_am_service, read_property_service, who_is_service}
pub use Rattle.bac_apdu.specs.Service.Choice.{write_property_service}
use Rattle.bac_apdu.specs.Service.IAm.{i_am, i_am_parameters}
use Rattle.bac_apdu.specs.Service.ReadPropertyAck.{read_property_ack}
use Rattle.bac_apdu.specs.declared.reason.Reason.{Reason}
use Rattle.bac_apdu.specs.declared.service.i_am.IAm.{IAm}
use Rattle.bac_apdu.specs.declared.service.read_property.ReadProperty.{ReadProperty}
use Rattle.bac_objects.specs.Properties.{device_id, is_here}
use Rattle.bac_apdu.specs.Service.ReadProperty.{read_property_at}
use Rattle.bac_apdu.specs.Service.ReadRange.{read_range_at}
use Rattle.bac_apdu.specs.Service.WhoIs.{who_is_at}
use Rattle.bac_apdu.specs.Service.WriteProperty.{PropertyWrite, write_property_at}
use Rattle.bac_apdu.specs.declared.service.who_is.WhoIs.{WhoIs}
use Rattle.bac_apdu.specs.declared.service.extent.Extent.{Extent}
use Rattle.bac_apdu.specs.declared.service.read_range.ReadRange.{ReadRange}
use Rattle.bac_log.specs.Ack.{ack_parameters, read_range_service}
use Rattle.bac_log.specs.Select.{HeldEntry, answer_of, entries_in, first_shown, packed, selected}
use Rattle.bac_log.specs.TrendLog.{Log}
use Rattle.bac_objects.specs.Reading.{read_of}
use Rattle.bac_objects.specs.Records.{records_of}
use Rattle.bac_objects.specs.State.{State}
use Rattle.bac_objects.specs.Writing.{write_of}
use Rattle.bac_objects.specs.declared.fault.Fault.{Fault}
use Rattle.bac_device.specs.Receiving.{ReceivedApdu, heard_at, nak_code, nak_octets}
use Rattle.bac_device.specs.Reply.{Return, abort, error, limited, reject, reply}
use Rattle.bac_device.specs.declared.reply.Receiver.{Receiver}
use Rattle.bac_device.specs.declared.reply.Receiver.TheVariants.{Sender, Address}
use Rattle.bac_device.specs.declared.reply.Reply.{Reply}

-- ---- numbers (clause 21)

-- the reason of a Reject that the service isn't there (clause 21, BACnetRejectReason)
abbrev pub unrecognized_service : ℕ
unrecognized_service = 9

-- ---- ReadProperty (15.5)

-- the ACK has the device's own identifier if the device is asked
abbrev pub own_id : State → Id → Id
own_id d id = if is_here d id then device_id d else id

-- the parameters of the ACK, each as short as can be
abbrev pub ack_octets : Id → ℕ → Option ℕ → List ℕ → List ℕ
ack_octets object property index values =
    canon_form read_property_ack
    (Value (Object object) ∷ Value (Enumerated property) ∷ number_parameter index ∷ Mark 3 ∷ Inside values ∷ [])

-- the ACK with the values that were read
abbrev pub ack : ℕ → State → ReadProperty → List ℕ → Apdu
ack invoke d r values =
    Complex false invoke read_property_service (ack_octets (own_id d r.object) r.property r.index values)

-- the ACK, or an Abort if it is over the limit, or the Error of the read
abbrev pub read_said : State → ℕ → ℕ → ReadProperty → Result (List ℕ) Fault → Apdu
read_said d limit invoke r (Ok values) = limited limit invoke (ack invoke d r values)
read_said d limit invoke r (Err fault) = error invoke read_property_service fault

-- the answer to a ReadProperty; parameters that can't be read are rejected
abbrev pub answer_read : State → ℕ → ℕ → Result ReadProperty Reason → Apdu
answer_read d limit invoke (Ok r) = read_said d limit invoke r (read_of d r)
answer_read d limit invoke (Err reason) = reject invoke reason

-- ---- WriteProperty (15.9)

-- a SimpleACK and the device after the write, or an Error and the device as it was
abbrev pub write_said : State → ℕ → Result State Fault → Apdu × State
write_said d invoke (Ok new) = (Simple invoke write_property_service, new)
write_said d invoke (Err fault) = (error invoke write_property_service fault, d)

-- the answer to a WriteProperty, and the device after it; parameters that can't be read are rejected
abbrev pub answer_write : State → ℕ → Result PropertyWrite Reason → Apdu × State
answer_write d invoke (Ok w) = write_said d invoke (write_of d w)
answer_write d invoke (Err reason) = (reject invoke reason, d)

-- ---- ReadRange (15.8)

-- the ACK of as many of the records asked for, from the first on, as a limit holds
abbrev pub records_ack : ℕ → ℕ → Id → Extent → Log → Apdu
records_ack limit invoke object extent log =
    let records = packed extent limit (selected log extent) in
    Complex false invoke read_range_service
    (ack_parameters object (answer_of log extent limit).flags (first_shown extent records) (entries_in records))

-- there are no records
abbrev pub is_empty : List HeldEntry → Bool
is_empty [] = true
is_empty (r ∷ rs) = false

-- records are asked for, and not one of them fits
abbrev pub is_too_small : ℕ → Extent → Log → Bool
is_too_small limit extent log =
    not (is_empty (selected log extent)) && is_empty (packed extent limit (selected log extent))

-- that ACK, or an Abort if no record fits or the ACK is over the limit
abbrev pub records_said : ℕ → ℕ → Id → Extent → Log → Apdu
records_said limit invoke object extent log = if is_too_small limit extent log
    then abort invoke else limited limit invoke (records_ack limit invoke object extent log)

-- the same of the log that was found, or the Error
abbrev pub range_said : ℕ → ℕ → ReadRange → Result Log Fault → Apdu
range_said limit invoke r (Ok log) = records_said limit invoke r.object r.extent log
range_said limit invoke r (Err fault) = error invoke read_range_service fault

-- the answer to a ReadRange; parameters that can't be read are rejected
abbrev pub answer_range : State → ℕ → ℕ → Result ReadRange Reason → Apdu
answer_range d limit invoke (Ok r) = range_said limit invoke r (records_of d r)
answer_range d limit invoke (Err reason) = reject invoke reason

-- ---- confirmed requests

-- The answer to a request has at most the octets that the device sends, and that the request takes.
abbrev pub answer_request : State → Bool → ℕ → ℕ → ℕ → List ℕ → Apdu × State
answer_request d segmented size invoke service parameters =
    if segmented then (abort invoke, d) else
    if service == read_property_service
    then (answer_read d (min size d.reply_size) invoke (read_property_at parameters), d) else
    if service == write_property_service then answer_write d invoke (write_property_at parameters) else
    if service == read_range_service
    then (answer_range d (min size d.reply_size) invoke (read_range_at parameters), d) else
    (Reject invoke unrecognized_service, d)

-- ---- Who-Is (16.10)

-- without limits, or with the instance between them
abbrev pub asks_for : ℕ → Option (ℕ × ℕ) → Bool
asks_for instance None = true
asks_for instance (Some limits) = nat_le limits.0 instance && nat_le instance limits.1

-- its identifier, the greatest APDU that it takes, that it doesn't segment, its vendor
abbrev pub announcement : State → IAm
announcement d = record { device = device_id d; max_apdu = d.reply_size; segmentation = 3; vendor = d.vendor }

-- the announcement as an I-Am
abbrev pub i_am_apdu : State → Apdu
i_am_apdu d = Unconfirmed i_am_service (canon_form i_am (i_am_parameters (announcement d)))

-- the I-Am, if the Who-Is can be read and asks for this device
abbrev pub announced : State → Option WhoIs → Option Apdu
announced d (Some w) = if asks_for d.instance w.limits then Some (i_am_apdu d) else None
announced d None = None

-- ---- APDUs

-- an answer that is always given, and the device after it
abbrev pub replied : Apdu × State → Option Apdu × State
replied said = (Some said.0, said.1)

-- A confirmed request to all devices isn't answered, nor is any other APDU but Who-Is.
abbrev pub answer_apdu : State → Bool → Apdu → Option Apdu × State
answer_apdu d to_all (Confirmed segmented size invoke service parameters) =
    if to_all then (None, d) else replied (answer_request d segmented size invoke service parameters)
answer_apdu d to_all (Unconfirmed service parameters) =
    (if service == who_is_service then announced d (who_is_at parameters) else None, d)
answer_apdu d to_all other = (None, d)

-- the answer to what an NPDU has for the device, if it has anything
abbrev pub answer_heard : State → Option ReceivedApdu → Option Apdu × State
answer_heard d None = (None, d)
answer_heard d (Some heard) = answer_apdu d heard.to_all heard.apdu

-- ---- datagrams

-- the answer goes to where the frame says, by the way that the request came
abbrev pub sent : Return → Option Apdu × State → Option Reply × State
sent back said = (option_map (reply back) said.0, said.1)

-- who gets the answer to what was heard, and the place behind a router that it is for
abbrev pub returning : Receiver → Option ReceivedApdu → Return
returning to None = record { to = to; place = None }
returning to (Some heard) = record { to = to; place = heard.source }

-- the reply to what an NPDU has for the device, and the device after it
abbrev pub answer_npdu : State → Receiver → Option ReceivedApdu → Option Reply × State
answer_npdu d to heard = sent (returning to heard) (answer_heard d heard)

-- what refuses a function of broadcast management
abbrev pub nak : ℕ → Option Reply
nak function =
    option_map (λ code. let r : Reply = record { datagram = nak_octets code; to = Sender } in r) (nak_code function)

-- Original-Unicast-NPDU and Original-Broadcast-NPDU are answered to their sender, Forwarded-NPDU to its address
-- (J.2.5).
abbrev pub answer_frame : State → Option Frame → Option Reply × State
answer_frame d None = (None, d)
answer_frame d (Some (Unicast npdu)) = answer_npdu d Sender (heard_at false npdu)
answer_frame d (Some (Broadcast npdu)) = answer_npdu d Sender (heard_at true npdu)
answer_frame d (Some (Forwarded address npdu)) = answer_npdu d (Address address) (heard_at true npdu)
answer_frame d (Some (Function function rest)) = (nak function, d)

-- the reply to a datagram, if there is one, and the device after it
unfoldable pub answer : State → List ℕ → Option Reply × State
answer d datagram = answer_frame d (frame_at datagram)
