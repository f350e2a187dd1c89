-- What a device is after datagrams, and which writes among them it accepted.
use Rattle.std.specs.Prelude.{◌≡◌, ◌≤◌, ◌-◌, ℕ, Bool, true, false, not, ◌&&◌, ◌==◌, if◌then◌else◌, List, [], ◌∷◌}
use Rattle.std.specs.Prelude.{length, map, slice_get, Option, None, Some, Ok}
use Rattle.std.specs.List.{range_with_len}
use Rattle.std.specs.Map.{lookup}
use Rattle.std.specs.Option.{option_or, unwrap_or}
use Rattle.std.specs.Result.{result_ok}
use Rattle.bac_wire.specs.Primitive.{Primitive, Unsigned, Signed, Enumerated, Object, Id}
use Rattle.bac_wire.specs.OptionChain.{◌>>=◌}
use Rattle.bac_apdu.specs.Apdu.{Apdu, Confirmed, Simple, apdu_at}
use Rattle.bac_apdu.specs.Frame.{Frame, Unicast, Broadcast, Forwarded, Function, frame_at}
use Rattle.bac_apdu.specs.Npdu.{header_at}
use Rattle.bac_objects.specs.Build.{id_of}
use Rattle.bac_objects.specs.Command.{present}
use Rattle.bac_objects.specs.Properties.{slot_value, value_of}
use Rattle.bac_objects.specs.Reading.{read_of, values_octets}
use Rattle.bac_apdu.specs.Service.WriteProperty.{PropertyWrite, write_property_at}
use Rattle.bac_objects.specs.State.{State, is_id}
use Rattle.bac_objects.specs.Writing.{priority_of}
use Rattle.bac_objects.specs.declared.command.Command as command
use Rattle.bac_objects.specs.declared.command.Setting.{Setting}
use Rattle.bac_objects.specs.declared.command.Setting.TheVariants as setting
use Rattle.bac_objects.specs.declared.lines.DeviceLine.{DeviceLine}
use Rattle.bac_objects.specs.declared.lines.ObjectLine.{ObjectLine}
use Rattle.bac_objects.specs.declared.lines.ObjectLine.TheVariants.{Binary, Multistate, Integer, Log}
use Rattle.bac_objects.specs.declared.object.Body.TheVariants as body
use Rattle.bac_objects.specs.declared.object.Object as object
use Rattle.bac_device.specs.Answer.{answer, write_property_service}
use Rattle.bac_device.specs.Receiving.{ReceivedApdu, heard_at}
use Rattle.bac_device.specs.declared.reply.Reply.{Reply}

-- ---- what a datagram is

-- what a frame has for a device
abbrev pub heard_in : Option Frame → Option ReceivedApdu
heard_in (Some (Unicast npdu)) = heard_at false npdu
heard_in (Some (Broadcast npdu)) = heard_at true npdu
heard_in (Some (Forwarded address npdu)) = heard_at true npdu
heard_in (Some (Function function rest)) = None
heard_in None = None

-- the WriteProperty that an APDU is, if it is one without segments that can be read
abbrev pub write_in_apdu : Apdu → Option PropertyWrite
write_in_apdu (Confirmed segmented size invoke service parameters) =
    if not segmented && (service == write_property_service) then result_ok (write_property_at parameters) else None
write_in_apdu other = None

-- the same of what was heard, unless it went to all devices
abbrev pub write_heard : Option ReceivedApdu → Option PropertyWrite
write_heard None = None
write_heard (Some heard) = if heard.to_all then None else write_in_apdu heard.apdu

-- the WriteProperty that a datagram is, if it is one to this device alone
abbrev pub write_asked : List ℕ → Option PropertyWrite
write_asked datagram = write_heard (heard_in (frame_at datagram))

-- a SimpleACK (20.1.4)
abbrev pub is_simple : Apdu → Bool
is_simple (Simple invoke service) = true
is_simple other = false

-- the APDU in a datagram to one receiver, by whatever networks it goes
unfoldable pub apdu_told : List ℕ → Option Apdu
apdu_told npdu = do
  header ← header_at npdu
  apdu_at header.1

-- the same of a frame that may not be there or may be another
abbrev pub told_in : Option Frame → Option Apdu
told_in (Some (Unicast npdu)) = apdu_told npdu
told_in other = None

-- there is an APDU, and it is a SimpleACK
abbrev pub told_simple : Option Apdu → Bool
told_simple None = false
told_simple (Some apdu) = is_simple apdu

-- the reply is a SimpleACK
abbrev pub is_done : Option Reply → Bool
is_done None = false
is_done (Some reply) = told_simple (told_in (frame_at reply.datagram))

-- ---- after datagrams

-- the device after datagrams, one after the other
abbrev pub after : State → List (List ℕ) → State
after d [] = d
after d (datagram ∷ datagrams) = after (answer d datagram).1 datagrams

-- the write in a datagram that is answered by SimpleACK
abbrev pub accepted : State → List ℕ → Option PropertyWrite
accepted d datagram = if is_done (answer d datagram).0 then write_asked datagram else None

-- writes, and before them this one, if there is one
abbrev pub with_first : Option PropertyWrite → List PropertyWrite → List PropertyWrite
with_first None ws = ws
with_first (Some w) ws = w ∷ ws

-- the accepted writes, in their order
abbrev pub writes : State → List (List ℕ) → List PropertyWrite
writes d [] = []
writes d (datagram ∷ datagrams) = with_first (accepted d datagram) (writes (answer d datagram).1 datagrams)

-- ---- slots

-- what a value puts into a slot: Null empties it
abbrev pub set_to : Primitive → Option Setting
set_to (Enumerated n) = Some (setting.Enumerated n)
set_to (Unsigned n) = Some (setting.Unsigned n)
set_to (Signed z) = Some (setting.Signed z)
set_to value = None

-- whether a write is one to this object at this priority
abbrev pub sets : Id → ℕ → PropertyWrite → Bool
sets id priority w = is_id id w.object && (priority_of w == priority)

-- what the last of the writes to this object at this priority set, if there is one
abbrev pub last_at : Id → ℕ → List PropertyWrite → Option (Option Setting)
last_at id priority [] = None
last_at id priority (w ∷ ws) =
    option_or (last_at id priority ws) (if sets id priority w then Some (set_to w.value) else None)

-- the same object with other slots
abbrev pub with_slots : object.Object → command.Command → List (Option Setting) → object.Object
with_slots o c slots = record o { body = body.Command (record c { slots = slots }) }

-- what the last of the writes set, or else Null
abbrev pub slot_after : Id → List PropertyWrite → ℕ → Option Setting
slot_after id ws priority = unwrap_or (last_at id priority ws) None

-- At each priority the object has what the last accepted write at it set, or what it had; nothing else of the object
-- has changed; and Present_Value is read as the value at the lowest-numbered priority that isn't Null, else as
-- Relinquish_Default.
pub record Stands (d : State) (datagrams : List (List ℕ)) (id : Id) (o : object.Object) (c : command.Command)
    : Type 0 where
  pub slots : List (Option Setting)
  pub size : length slots ≡ 16
  pub last : (priority : ℕ) → 1 ≤ priority → priority ≤ 16
      → slice_get slots (priority - 1)
      ≡ option_or (last_at id priority (writes d datagrams)) (slice_get c.slots (priority - 1))
  pub held : lookup (is_id id) (after d datagrams).objects ≡ Some (with_slots o c slots)
  pub read : read_of (after d datagrams) (record { object = id; property = 85; index = None })
      ≡ Ok (values_octets (value_of (present slots c.default) ∷ []))

-- ---- devices that were built

-- what a line says of a commandable object
abbrev pub default_of : ObjectLine → Option Setting
default_of (Binary instance name default) = Some (setting.Enumerated default)
default_of (Multistate instance name states default) = Some (setting.Unsigned default)
default_of (Integer instance name default) = Some (setting.Signed default)
default_of (Log instance name source capacity interval logged) = None

-- After these writes each priority of the object is read as what the last of them at it set, else as Null;
-- Present_Value as the value at the lowest-numbered priority that isn't Null, else as Relinquish_Default; and that as
-- the line had it.
pub record IsCommanded (d : State) (id : Id) (ws : List PropertyWrite) (default : Setting) : Type 0 where
  pub array : read_of d (record { object = id; property = 87; index = None })
      ≡ Ok (values_octets (map (λ priority. slot_value (slot_after id ws priority)) (range_with_len 1 16)))
  pub present_value : read_of d (record { object = id; property = 85; index = None })
      ≡ Ok (values_octets (value_of (present (map (slot_after id ws) (range_with_len 1 16)) default) ∷ []))
  pub default_value : read_of d (record { object = id; property = 104; index = None })
      ≡ Ok (values_octets (value_of default ∷ []))

-- the device of a line first, then the objects of lines in their order
abbrev pub ids_in_order : DeviceLine → List ObjectLine → List Primitive
ids_in_order device lines =
    Object (record { kind = 8; instance = device.instance }) ∷ map (λ line. Object (id_of line)) lines
