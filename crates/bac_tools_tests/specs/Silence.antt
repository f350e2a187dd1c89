-- Sockets over which nothing comes, and sockets that never fail.
use Rattle.std.specs.Prelude.{◌≡◌, ◌⊎◌, ℕ, ◌+◌, List, Option, Ok, Err}
use Rattle.bac_link.specs.Exchanges.{Unanswered}
use Rattle.bac_link.specs.Path.{towards}
use Rattle.bac_link.specs.Requests.{next_invoke, request_octets}
use Rattle.bac_link.specs.declared.exchanges.ExchangeFault.TheVariants as exchange
use Rattle.bac_link.specs.declared.request.Request.TheVariants as request
use Rattle.bac_ports.specs.Port.{Receiving}
use Rattle.bac_ports.specs.declared.port.Heard.{Heard}
use Rattle.bac_ports.specs.declared.port.OpenFault.{OpenFault}
use Rattle.bac_ports.specs.declared.port.SocketFault.{SocketFault}
use Rattle.bac_ports.specs.declared.udp_link.UdpLink.{UdpLink}
use Rattle.bac_tools.specs.Run.{Works, question}
use Rattle.bac_ports.specs.Sockets.{SocketRules, UsesSocket, link_over, own_address, socket_asks}
use Rattle.bac_tools.specs.Streams.{Streams}
use Rattle.bac_tools.specs.declared.fault.Fault.{Fault}
use Rattle.bac_tools.specs.declared.fault.Fault.TheVariants.{Exchange, Unopened, Socket}
use Rattle.bac_wire.specs.Stamp.{CivilTime}
use Rattle.bac_command_line.specs.declared.job.Job.TheVariants.{Rp, Serve}
use Rattle.bac_command_line.specs.declared.job.PropertyReading.{PropertyReading}
use Rattle.bac_command_line.specs.declared.job.ServedDevice.{ServedDevice}

-- no datagram ever comes
abbrev pub IsSilent : {P : Type 0} → (P → Receiving → P → Type 0) → Type 0
IsSilent {P = P} receives = (old new : P) (heard : Heard) → receives old (Ok heard) new → ⊥

-- none comes to a receive with a wait of its own either
abbrev pub IsSilentWithin : {P : Type 0} → (P → ℕ → Receiving → P → Type 0) → Type 0
IsSilentWithin {P = P} within = (old new : P) (wait : ℕ) (heard : Heard) → within old wait (Ok heard) new → ⊥

-- each open gives a socket, and each receive a datagram
abbrev pub NeverFails : {S P : Type 0} → SocketRules S P → Type 0
NeverFails {S = S} {P = P} rules =
    ((old new : S) (address : List ℕ) (wait : ℕ) (fault : OpenFault) → rules.opens old address wait (Err fault) new → ⊥)
    × ((old new : P) (fault : SocketFault) → rules.receives old (Err fault) new → ⊥)

-- If `rp` tells that its answer is lost, its request was asked over the socket that was opened, once and as often again
-- as the retries say, with the same octets, no answer came, and nothing more was done before the socket was closed.
abbrev pub LostWasAsked : {S P C : Type 0} → SocketRules S P → (C → Option CivilTime → C → Type 0) → Type 0
LostWasAsked {S = S} {P = P} {C = C} rules tells =
    (said : PropertyReading) (old new : Streams S C) →
    Works rules tells (Rp said) old (Err (Exchange said.asked.address exchange.Lost)) new →
    UsesSocket rules (own_address said.asked.local) said.asked.timeout old.sockets
    (λ port last. (left : UdpLink P) × Unanswered (socket_asks rules)
    (request_octets (towards said.asked.route) (next_invoke 0) (request.ReadProperty (question said)))
    (said.asked.retries + 1) (link_over said.asked.address port) left × (last ≡ left.port))
    new.sockets

-- a socket wasn't opened, or it failed
abbrev pub IsOfSocket : Fault → Type 0
IsOfSocket fault = (fault ≡ Socket) ⊎ ((why : OpenFault) × (fault ≡ Unopened why))

-- a server doesn't end with a socket fault over sockets that never fail
abbrev pub ServersStay : {S P C : Type 0} → SocketRules S P → (C → Option CivilTime → C → Type 0) → Type 0
ServersStay {S = S} {C = C} rules tells =
    (said : ServedDevice) (fault : Fault) (old new : Streams S C) → NeverFails rules → IsOfSocket fault →
    Works rules tells (Serve said) old (Err fault) new → ⊥
