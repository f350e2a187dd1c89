-- What is done over a socket, from its open to its close: the rules that sockets and ports name, in one record.
use Rattle.std.specs.Prelude.{◌≡◌, ℕ, List, [], ◌∷◌, Option, Result, Ok}
use Rattle.std.specs.Option.{unwrap_or}
use Rattle.bac_link.specs.declared.link.Lost.{Lost}
use Rattle.bac_ports.specs.Asking.{Asks, to_peer}
use Rattle.bac_ports.specs.Port.{Opening, Receiving, Sending}
use Rattle.bac_ports.specs.declared.udp_link.UdpLink.{UdpLink}

-- what an open and a close are, and a send, a receive, and a receive with a wait of its own of what was opened
pub record SocketRules (S P : Type 0) : Type 1 where
  pub opens : S → List ℕ → ℕ → Opening P → S → Type 0
  pub closes : S → P → S → Type 0
  pub sends : P → List ℕ → List ℕ → Sending → P → Type 0
  pub receives : P → Receiving → P → Type 0
  pub receives_within : P → ℕ → Receiving → P → Type 0

-- the rules that are these
abbrev pub socket_rules : {S P : Type 0} → (S → List ℕ → ℕ → Opening P → S → Type 0) → (S → P → S → Type 0) →
    (P → List ℕ → List ℕ → Sending → P → Type 0) → (P → Receiving → P → Type 0) →
    (P → ℕ → Receiving → P → Type 0) → SocketRules S P
socket_rules opens closes sends receives within =
    record { opens = opens; closes = closes; sends = sends; receives = receives; receives_within = within }

-- One socket is opened at this address, whose receives wait so many milliseconds. This is done over it, from what was
-- opened to what is closed then; nothing else happens to the sockets.
abbrev pub UsesSocket : {S P : Type 0} → SocketRules S P → List ℕ → ℕ → S → (P → P → Type 0) → S → Type 0
UsesSocket {S = S} {P = P} rules address wait old does new =
    (port : P) × (between : S) × (last : P) × rules.opens old address wait (Ok port) between
    × does port last × rules.closes between last new

-- any address of this machine and any free port, if the words name none
abbrev pub own_address : Option (List ℕ) → List ℕ
own_address local = unwrap_or local (0 ∷ 0 ∷ 0 ∷ 0 ∷ 0 ∷ 0 ∷ [])

-- a link over a socket to the device at this address, which was asked for nothing yet
abbrev pub link_over : {P : Type 0} → List ℕ → P → UdpLink P
link_over address port = record { port = port; peer = address; failures = 0 }

-- an ask over a socket: the request is sent once to the peer, and at most 16 datagrams are taken, up to the first one
-- that comes from the peer and answers it
abbrev pub socket_asks : {S P : Type 0} → SocketRules S P →
    UdpLink P → List ℕ → Result (List ℕ) Lost → UdpLink P → Type 0
socket_asks rules old octets answer new =
    Asks rules.sends rules.receives (to_peer old.peer octets) 16 old.port answer new.port × (new.peer ≡ old.peer)
