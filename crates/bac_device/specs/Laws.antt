-- What holds of every device and every datagram, as laws of `answer`.
use Rattle.std.specs.Prelude.{◌≡◌, ◌==◌, ℕ, false, List, [], ◌∷◌, length, min, slice_get, Option, Some, None, Ok}
use Rattle.std.specs.Map.{lookup}
use Rattle.bac_wire.specs.Primitive.{Primitive, Id, Object, Enumerated}
use Rattle.bac_apdu.specs.Apdu.{Confirmed, Simple}
use Rattle.bac_apdu.specs.Form.{Value, Mark, Inside, number_parameter}
use Rattle.bac_apdu.specs.FormReading.{form_at}
use Rattle.bac_apdu.specs.Frame.{frame_at}
use Rattle.bac_apdu.specs.Service.ReadProperty.{IsProperty}
use Rattle.bac_apdu.specs.Service.ReadPropertyAck.{read_property_ack}
use Rattle.bac_apdu.specs.declared.service.read_property.ReadProperty.{ReadProperty}
use Rattle.bac_apdu.specs.Npdu.{Place}
use Rattle.bac_objects.specs.Build.{build_fault, built, id_of}
use Rattle.bac_objects.specs.Reading.{AreValid, read_of, values_octets}
use Rattle.bac_apdu.specs.Service.ReadProperty.{read_property_at}
use Rattle.bac_apdu.specs.Service.WriteProperty.{PropertyWrite, write_property_at}
use Rattle.bac_objects.specs.Writing.{write_of}
use Rattle.bac_objects.specs.State.{State, is_id}
use Rattle.bac_objects.specs.declared.command.Command.{Command}
use Rattle.bac_objects.specs.declared.command.Setting.{Setting}
use Rattle.bac_objects.specs.declared.lines.DeviceLine.{DeviceLine}
use Rattle.bac_objects.specs.declared.lines.ObjectLine.{ObjectLine}
use Rattle.bac_objects.specs.declared.object.Body.TheVariants as body
use Rattle.bac_objects.specs.declared.object.Object as object
use Rattle.bac_device.specs.Answer.{ack, ack_octets, answer, read_property_service, write_property_service}
use Rattle.bac_device.specs.History.{IsCommanded, Stands, after, default_of, heard_in, ids_in_order, is_done}
use Rattle.bac_device.specs.History.{write_asked, writes}
use Rattle.bac_device.specs.Reply.{limited, reply}
use Rattle.bac_device.specs.declared.reply.Receiver.{Receiver}

-- ---- what changes nothing

-- a datagram that isn't answered by a SimpleACK
abbrev pub RefusalsChangeNothing : Type 0
RefusalsChangeNothing =
    (d : State) (datagram : List ℕ) → is_done (answer d datagram).0 ≡ false → (answer d datagram).1 ≡ d

-- a datagram that is no WriteProperty to this device alone
abbrev pub OthersChangeNothing : Type 0
OthersChangeNothing = (d : State) (datagram : List ℕ) → write_asked datagram ≡ None → (answer d datagram).1 ≡ d

-- ---- writes

-- after any datagrams, each slot of a commandable object has what the last accepted write to it set
abbrev pub AcceptedWritesStand : Type 0
AcceptedWritesStand =
    (d : State) (datagrams : List (List ℕ)) (id : Id) (o : object.Object) (c : Command)
    → lookup (is_id id) d.objects ≡ Some o → o.body ≡ body.Command c → length c.slots ≡ 16 → (id.kind == 8) ≡ false
    → Stands d datagrams id o c

-- the same of each commandable object of a device that was built of lines
abbrev pub BuiltObjectsAreCommanded : Type 0
BuiltObjectsAreCommanded =
    (device : DeviceLine) (lines : List ObjectLine)
    (datagrams : List (List ℕ)) (i : ℕ) (line : ObjectLine) (default : Setting)
    → build_fault device lines ≡ None → slice_get lines i ≡ Some line → default_of line ≡ Some default
    → IsCommanded (after (built device lines) datagrams) (id_of line) (writes (built device lines) datagrams) default

-- an accepted WriteProperty to this device alone is answered by SimpleACK, and leaves the device with what was written
abbrev pub WritesAreAnswered : Type 0
WritesAreAnswered =
    (d new : State) (datagram : List ℕ) (source : Option Place)
    (size invoke : ℕ) (parameters : List ℕ) (w : PropertyWrite)
    → heard_in (frame_at datagram)
    ≡ Some
    (record {
      to_all = false;
      source = source;
      apdu = Confirmed false size invoke write_property_service parameters;
    })
    → write_property_at parameters ≡ Ok w → write_of d w ≡ Ok new
    → (to : Receiver)
    × (answer d datagram
    ≡ (Some (reply (record { to = to; place = source }) (Simple invoke write_property_service)), new))

-- ---- reads

-- after any datagrams to a device that was built of lines, Object_List has the device and then the objects in the
-- lines' order
abbrev pub ObjectListKeepsTheOrderOfLines : Type 0
ObjectListKeepsTheOrderOfLines =
    (device : DeviceLine) (lines : List ObjectLine) (datagrams : List (List ℕ))
    → read_of (after (built device lines) datagrams)
    (record { object = record { kind = 8; instance = device.instance }; property = 76; index = None })
    ≡ Ok (values_octets (ids_in_order device lines))

-- a ReadProperty to this device alone is answered by the ACK with the values that are read, within the limit
abbrev pub ReadsAreAnswered : Type 0
ReadsAreAnswered =
    (d : State) (datagram : List ℕ) (source : Option Place)
    (size invoke : ℕ) (parameters : List ℕ) (r : ReadProperty) (values : List ℕ)
    → heard_in (frame_at datagram)
    ≡ Some
    (record {
      to_all = false;
      source = source;
      apdu = Confirmed false size invoke read_property_service parameters;
    })
    → read_property_at parameters ≡ Ok r → read_of d r ≡ Ok values
    → (to : Receiver)
    × ((answer d datagram).0
    ≡ Some
    (reply (record { to = to; place = source }) (limited (min size d.reply_size) invoke (ack invoke d r values))))

-- what an ACK has is read back
abbrev pub AcksAreReadBack : Type 0
AcksAreReadBack =
    (id : Id) (property : ℕ) (index : Option ℕ) (values : List Primitive) →
    IsProperty id property index → AreValid values
    → form_at read_property_ack (ack_octets id property index (values_octets values))
    ≡ Ok
    (Value (Object id) ∷ Value (Enumerated property) ∷ number_parameter index ∷ Mark 3 ∷ Inside
    (values_octets values) ∷ [])
