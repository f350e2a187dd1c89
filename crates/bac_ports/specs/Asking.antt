-- How a request is asked over any port: it is sent once, and then so many datagrams are taken at most, up to the first
-- one that comes from the peer and answers the request. Read from the end.
use Rattle.std.specs.Prelude.{◌≡◌, ℕ, zero, suc, ◌&&◌, if◌then◌else◌, List, Option, Some, None, Result, Ok, Err}
use Rattle.std.specs.Str.{bytes_eq}
use Rattle.bac_link.specs.Datagrams.{answers_to}
use Rattle.bac_link.specs.declared.link.Lost.{Lost}
use Rattle.bac_ports.specs.declared.port.Heard.{Heard}
use Rattle.bac_ports.specs.Port.{Receiving, Sending}

-- the request has no answer
abbrev pub IsLost : Result (List ℕ) Lost → Type 0
IsLost (Ok datagram) = ⊥
IsLost (Err lost) = Unit {0}

-- the same with sender and datagram apart, and none if no datagram came
abbrev pub fitting_of : List ℕ → List ℕ → List ℕ → Option (List ℕ) → Option (List ℕ)
fitting_of peer request from None = None
fitting_of peer request from (Some datagram) =
    if bytes_eq from peer && answers_to request datagram then Some datagram else None

-- the datagram that came, if it is from the peer and answers the request
abbrev pub fitting : List ℕ → List ℕ → Heard → Option (List ℕ)
fitting peer request heard = fitting_of peer request heard.from heard.datagram

-- if it fits it is the result, else there is more to be done
abbrev pub IsTaken : {P : Type 0} → Option (List ℕ) → P → Result (List ℕ) Lost → P → Type 0 → Type 0
IsTaken None port result new more = more
IsTaken (Some datagram) port result new more = (result ≡ Ok datagram) × (new ≡ port)

-- a refused receive is the end
abbrev pub IsHeard : {P : Type 0} → List ℕ → List ℕ → Receiving → P → Result (List ℕ) Lost → P → Type 0 → Type 0
IsHeard peer request (Err fault) port result new more = IsLost result × (new ≡ port)
IsHeard peer request (Ok heard) port result new more = IsTaken (fitting peer request heard) port result new more

-- at most so many receives, up to the first datagram that fits
unfoldable pub Awaits : {P : Type 0} → (P → Receiving → P → Type 0) →
    List ℕ → List ℕ → ℕ → P → Result (List ℕ) Lost → P → Type 0
Awaits {P = P} receives peer request zero port result new = IsLost result × (new ≡ port)
Awaits {P = P} receives peer request (suc n) port result new =
    (heard : Receiving) × (mid : P) × receives port heard mid
    × IsHeard peer request heard mid result new (Awaits receives peer request n mid result new)

-- a request that goes to a peer: the peer's address, and the octets
pub record ToPeer : Type 0 where
  pub peer : List ℕ
  pub request : List ℕ

-- the two together
abbrev pub to_peer : List ℕ → List ℕ → ToPeer
to_peer peer request = record { peer = peer; request = request }

-- a refused send is the end
abbrev pub IsSent : {P : Type 0} → (P → Receiving → P → Type 0) →
    ToPeer → ℕ → Sending → P → Result (List ℕ) Lost → P → Type 0
IsSent {P = P} receives to limit (Err fault) port result new = IsLost result × (new ≡ port)
IsSent {P = P} receives to limit (Ok done) port result new =
    Awaits receives to.peer to.request limit port result new

-- one send to the peer, and then at most so many receives
abbrev pub Asks : {P : Type 0} → (P → List ℕ → List ℕ → Sending → P → Type 0) → (P → Receiving → P → Type 0)
    → ToPeer → ℕ → P → Result (List ℕ) Lost → P → Type 0
Asks {P = P} sends receives to limit port result new =
    (sent : Sending) × (mid : P) × sends port to.request to.peer sent mid
    × IsSent receives to limit sent mid result new
