-- What `bac serve` sends. Read `AnswersOnly`; that it answers, `ServesDevice`.
use Rattle.std.specs.Prelude.{◌≡◌, ◌⊎◌, ◌≤◌, ℕ, List, [], ◌∷◌, ◌++◌, Option, Some, None, Ok, Err, length}
use Rattle.std.specs.Io.KnownBytes.{Keeps}
use Rattle.std.specs.Str.Lines.{lines}
use Rattle.bac_apdu.specs.Frame.{Frame, Unicast, Broadcast, Forwarded, Function, frame_at}
use Rattle.bac_device.specs.Answer.{answer}
use Rattle.bac_device.specs.declared.reply.Reply.{Reply}
use Rattle.bac_socket_notes.specs.Ports.{Event, Sent, Received, came_in}
use Rattle.bac_objects.specs.Build.{build_fault, built}
use Rattle.bac_objects.specs.State.{State}
use Rattle.bac_objects.specs.declared.lines.DeviceLine.{DeviceLine}
use Rattle.bac_objects.specs.declared.lines.ObjectLine.{ObjectLine}
use Rattle.bac_ports.specs.declared.port.Heard.{Heard}
use Rattle.bac_ports.specs.declared.port.SocketFault.TheVariants.{Failed}
use Rattle.bac_print.specs.Output.{Held}
use Rattle.bac_script.specs.Configuration.{plan_of}
use Rattle.bac_serve.specs.Serving.{receiver_of, ticked_at}
use Rattle.bac_wire.specs.Stamp.{CivilTime}
use Rattle.bac_command_line.specs.declared.job.ServedDevice.{ServedDevice}

-- whom an answer goes to: the sender of what it answers, or the address in a Forwarded-NPDU (J.2.5)
abbrev pub asker_in : List ℕ → Option Frame → List ℕ
asker_in from (Some (Forwarded address npdu)) = address
asker_in from (Some (Unicast npdu)) = from
asker_in from (Some (Broadcast npdu)) = from
asker_in from (Some (Function function rest)) = from
asker_in from None = from

-- this address asked by what came
abbrev pub Asks : Heard → List ℕ → Type 0
Asks heard to = (datagram : List ℕ) × (heard.datagram ≡ Some datagram) × (to ≡ asker_in heard.from (frame_at datagram))

-- Each datagram that is sent is right behind one that came, which may be answered still, and goes to who asked by it:
-- so to each there is one answer at most, and nothing is sent unasked.
abbrev pub AnswersEach : Option Heard → List Event → Type 0
AnswersEach asked [] = Unit {0}
AnswersEach asked (Received (Ok heard) ∷ es) = AnswersEach (Some heard) es
AnswersEach asked (Received (Err fault) ∷ es) = AnswersEach None es
AnswersEach (Some heard) (Sent octets to sent ∷ es) = Asks heard to × AnswersEach None es
AnswersEach None (Sent octets to sent ∷ es) = ⊥

-- `bac serve` sends answers alone, to no more datagrams than its words say, to as many if it ends with 0, and prints
-- nothing.
abbrev pub AnswersOnly : ServedDevice → List Event → Held → Held → ℕ → Type 0
AnswersOnly said es before after status = AnswersEach None es × (length (came_in es) ≤ said.count)
    × (status ≡ 0 → length (came_in es) ≡ said.count) × Keeps before after

-- ---- that it answers

-- the reply of a device to what came, if it has one, and the device after it; one datagram is too long to be looked at
abbrev pub reply_by : State → Option (List ℕ) → Option Reply × State
reply_by device None = (None, device)
reply_by device (Some datagram) = answer device datagram

-- what is sent next, and to whom, where this address sent what is answered
abbrev pub next_of : List ℕ → Option Reply → Option (List ℕ × List ℕ)
next_of from None = None
next_of from (Some reply) = Some (reply.datagram, receiver_of reply.to from)

-- A device, whose clock goes to some time at each receive: if it has a reply to what came, that is sent next; and
-- nothing else is sent.
abbrev pub Replies : State → Option (List ℕ × List ℕ) → List Event → Type 0
Replies device None [] = Unit {0}
Replies device None (Received (Ok heard) ∷ es) = (now : Option CivilTime)
    × Replies (reply_by (ticked_at device now) heard.datagram).1
    (next_of heard.from (reply_by (ticked_at device now) heard.datagram).0) es
Replies device None (Received (Err fault) ∷ es) = (now : Option CivilTime) × Replies (ticked_at device now) None es
Replies device None (Sent octets to sent ∷ es) = ⊥
Replies device (Some next) [] = ⊥
Replies device (Some next) (Received received ∷ es) = ⊥
Replies device (Some next) (Sent octets to sent ∷ es) = (next ≡ (octets, to)) × Replies device None es

-- a script describes a device and its objects, and that device can be built
abbrev pub Describes : List ℕ → DeviceLine → List ObjectLine → Type 0
Describes script device objects = (length script ≤ 1048576)
    × (plan_of 1 None (lines script) ≡ Ok (Some (device, objects))) × (build_fault device objects ≡ None)

-- The status where nothing is served: 1, the script describes no device; 2, it can't be read, or there is no socket; 5,
-- there is no memory.
abbrev pub IsUnserved : List ℕ → ℕ → Type 0
IsUnserved script status =
    ((status ≡ 1) × ((device : DeviceLine) (objects : List ObjectLine) → Describes script device objects → ⊥))
    ⊎ ((status ≡ 2) ⊎ (status ≡ 5))

-- a receive failed at last; or datagrams were waited for some 2^64 times
abbrev pub IsCutOff : List Event → Type 0
IsCutOff es = ((earlier : List Event) × (es ≡ earlier ++ Received (Err Failed) ∷ []))
    ⊎ (18446744073709551615 ≤ length es)

-- the status 0 behind as many datagrams as the words say; 2 where it was cut off, or 5 without memory to tell it
abbrev pub IsThrough : ServedDevice → List Event → ℕ → Type 0
IsThrough said es status = ((status ≡ 0) × (length (came_in es) ≡ said.count))
    ⊎ (((status ≡ 2) ⊎ (status ≡ 5)) × IsCutOff es)

-- The device that the script on the input describes replies to all that comes, until as much came as the words say, or
-- the socket fails. Or nothing is served, and the status says so.
abbrev pub ServesDevice : ServedDevice → List ℕ → List Event → ℕ → Type 0
ServesDevice said script es status = ((es ≡ []) × IsUnserved script status)
    ⊎ ((device : DeviceLine) × (objects : List ObjectLine) × Describes script device objects
    × Replies (built device objects) None es × IsThrough said es status)
