-- A device that is served over any port, with any clock. Read from the end.
use Rattle.std.specs.Prelude.{◌≡◌, ℕ, zero, suc, Bool, true, false, List, Option, Some, None, Result, Ok, Err}
use Rattle.bac_wire.specs.Stamp.{CivilTime}
use Rattle.bac_objects.specs.State.{State}
use Rattle.bac_device.specs.Answer.{answer}
use Rattle.bac_device.specs.Clock.{advanced}
use Rattle.bac_device.specs.declared.reply.Receiver.{Receiver}
use Rattle.bac_device.specs.declared.reply.Receiver.TheVariants.{Sender, Address}
use Rattle.bac_device.specs.declared.reply.Reply.{Reply}
use Rattle.bac_ports.specs.declared.port.Heard.{Heard}
use Rattle.bac_ports.specs.declared.port.SocketFault.{SocketFault}
use Rattle.bac_ports.specs.declared.port.SocketFault.TheVariants.{Timeout, Failed}
use Rattle.bac_ports.specs.Port.{Receiving, Sending}

-- ---- a server

-- a port, the device that is served there, and a clock
pub record Server (P C : Type 0) : Type 0 where
  pub port : P
  pub device : State
  pub clock : C

-- the server of these three
abbrev pub server : {P C : Type 0} → P → State → C → Server P C
server port device clock = record { port = port; device = device; clock = clock }

-- nothing has changed
abbrev pub Rests : {P C : Type 0} → Server P C → Server P C → Type 0
Rests old new = (new.port ≡ old.port) × (new.device ≡ old.device) × (new.clock ≡ old.clock)

-- ---- the clock

-- the device with its clock set, or as it was if the clock would go back
abbrev pub set_by : State → Option (ℕ × State) → State
set_by device None = device
set_by device (Some said) = said.1

-- the device when its clock goes to a time, if there is one and it isn't earlier
abbrev pub ticked_at : State → Option CivilTime → State
ticked_at device None = device
ticked_at device (Some now) = set_by device (advanced device now)

-- one look at the clock, and the device's clock goes to its time
abbrev pub Ticks : {C : Type 0} → (C → Option CivilTime → C → Type 0) → C → State → C → State → Type 0
Ticks tells clock device told after = (now : Option CivilTime) × tells clock now told × (after ≡ ticked_at device now)

-- ---- a datagram

-- who gets a reply, when this address sent what it answers
abbrev pub receiver_of : Receiver → List ℕ → List ℕ
receiver_of Sender sender = sender
receiver_of (Address address) sender = address

-- whether a reply was sent
abbrev pub sent_of : Sending → Result Bool SocketFault
sent_of (Ok done) = Ok true
sent_of (Err fault) = Err fault

-- nothing is sent without a reply, and with one that one
abbrev pub Sends : {P : Type 0} → (P → List ℕ → List ℕ → Sending → P → Type 0) → List ℕ → Option Reply → P
    → Result Bool SocketFault → P → Type 0
Sends sends from None port result new = (result ≡ Ok false) × (new ≡ port)
Sends sends from (Some reply) port result new =
    (sent : Sending) × sends port reply.datagram (receiver_of reply.to from) sent new × (result ≡ sent_of sent)

-- the device has handled the datagram, or there is none that it could handle
abbrev pub Handles : {P C : Type 0} → (P → List ℕ → List ℕ → Sending → P → Type 0) → List ℕ → Option (List ℕ)
    → Server P C → Result Bool SocketFault → Server P C → Type 0
Handles sends from None old result new =
    (result ≡ Ok false) × (new.port ≡ old.port) × (new.device ≡ old.device)
Handles sends from (Some datagram) old result new =
    Sends sends from (answer old.device datagram).0 old.port result new.port
    × (new.device ≡ (answer old.device datagram).1)

-- the clock first, then the datagram
abbrev pub Answers : {P C : Type 0} → (P → List ℕ → List ℕ → Sending → P → Type 0) → (C → Option CivilTime → C → Type 0)
    → Heard → Server P C → Result Bool SocketFault → Server P C → Type 0
Answers sends tells heard old result new =
    (now : Option CivilTime) × tells old.clock now new.clock
    × Handles sends heard.from heard.datagram (server old.port (ticked_at old.device now) new.clock) result new

-- ---- one receive

-- a refused receive leaves the server as it was
abbrev pub IsReceived : {P C : Type 0} → (P → List ℕ → List ℕ → Sending → P → Type 0)
    → (C → Option CivilTime → C → Type 0) → Receiving → Server P C → Result Bool SocketFault → Server P C → Type 0
IsReceived sends tells (Err fault) old result new = (result ≡ Err fault) × Rests old new
IsReceived sends tells (Ok heard) old result new = Answers sends tells heard old result new

-- one receive, and what comes is answered
abbrev pub ServesOne : {P C : Type 0} → (P → List ℕ → List ℕ → Sending → P → Type 0) → (P → Receiving → P → Type 0)
    → (C → Option CivilTime → C → Type 0) → Server P C → Result Bool SocketFault → Server P C → Type 0
ServesOne {P = P} sends receives tells old result new =
    (heard : Receiving) × (mid : P) × receives old.port heard mid
    × IsReceived sends tells heard (server mid old.device old.clock) result new

-- ---- the next datagram

-- what serving answers
abbrev pub Done : Type 0
Done = Result (Unit {0}) SocketFault

-- a wait in vain lets the clock go on, and more is done; a failure is the end;
-- what comes is answered, whatever becomes of its reply
abbrev pub IsWaited : {P C : Type 0} → (P → List ℕ → List ℕ → Sending → P → Type 0)
    → (C → Option CivilTime → C → Type 0)
    → Receiving → Server P C → Done → Server P C → (Server P C → Type 0) → Type 0
IsWaited {C = C} sends tells (Err Timeout) old result new more =
    (now : Option CivilTime) × (seen : C) × tells old.clock now seen
    × more (server old.port (ticked_at old.device now) seen)
IsWaited sends tells (Err Failed) old result new more = (result ≡ Err Failed) × Rests old new
IsWaited sends tells (Ok heard) old result new more =
    (result ≡ Ok tt) × ((sent : Result Bool SocketFault) × Answers sends tells heard old sent new)

-- at most so many waits, up to the first datagram
unfoldable pub ServesNext : {P C : Type 0} → (P → List ℕ → List ℕ → Sending → P → Type 0) → (P → Receiving → P → Type 0)
    → (C → Option CivilTime → C → Type 0) → ℕ → Server P C → Done → Server P C → Type 0
ServesNext sends receives tells zero old result new = (result ≡ Err Timeout) × Rests old new
ServesNext {P = P} sends receives tells (suc waits) old result new =
    (heard : Receiving) × (mid : P) × receives old.port heard mid
    × IsWaited sends tells heard (server mid old.device old.clock) result new
    (λ ticked. ServesNext sends receives tells waits ticked result new)

-- ---- so many datagrams

-- a failure is the end
abbrev pub IsServed : {P C : Type 0} → Done → Server P C → Done → Server P C → Type 0 → Type 0
IsServed (Err fault) old result new more = (result ≡ Err fault) × Rests old new
IsServed (Ok done) old result new more = more

-- so many datagrams, each waited for 2^64 - 1 times at most
unfoldable pub Serves : {P C : Type 0} → (P → List ℕ → List ℕ → Sending → P → Type 0) → (P → Receiving → P → Type 0)
    → (C → Option CivilTime → C → Type 0) → ℕ → Server P C → Done → Server P C → Type 0
Serves sends receives tells zero old result new = (result ≡ Ok tt) × Rests old new
Serves {P = P} {C = C} sends receives tells (suc count) old result new =
    (served : Done) × (mid : Server P C)
    × ServesNext sends receives tells 18446744073709551615 old served mid
    × IsServed served mid result new (Serves sends receives tells count mid result new)
