-- What a run sends over its sockets and what comes, as one list of events. Read `IsCaptured`; for one request
-- `Exchanged`.
use Rattle.std.specs.Prelude.{◌≡◌, ℕ, zero, suc, ◌+◌, ◌≤◌, Bool, true, false, List, [], ◌∷◌, ◌++◌, replicate}
use Rattle.std.specs.Prelude.{Option, Some, None, IsSome, Result, Ok, Err, IfOk}
use Rattle.std.specs.List.{Contains}
use Rattle.bac_socket_notes.specs.Ports.{Event, Sent, Received}
use Rattle.bac_link.specs.Datagrams.{answers_to}
use Rattle.bac_ports.specs.Port.{Receiving, Sending}
use Rattle.bac_ports.specs.Sockets.{SocketRules}
use Rattle.bac_ports.specs.declared.port.OpenFault.{OpenFault}

-- ---- what happened

-- A capture of sockets, and of each port that they open: what was sent and what came so far, in order. A port that is
-- opened has nothing yet. Each send, refused or not, and each receive is put behind what its port has; and what a port
-- has once it is closed behind what the sockets have.
pub record Capture {S P : Type 0} (rules : SocketRules S P) (traces : S → Bool → S → Type 0) : Type 0 where
  pub sockets : S → List Event
  pub port : P → List Event
  pub opens : (old new : S) (address : List ℕ) (wait : ℕ) (answer : Result P OpenFault)
      → rules.opens old address wait answer new → (sockets new ≡ sockets old) × IfOk answer (λ p. port p ≡ [])
  pub sends : (old new : P) (octets to : List ℕ) (answer : Sending) → rules.sends old octets to answer new
      → port new ≡ port old ++ Sent octets to answer ∷ []
  pub receives : (old new : P) (answer : Receiving) → rules.receives old answer new
      → port new ≡ port old ++ Received answer ∷ []
  pub waits : (old new : P) (ms : ℕ) (answer : Receiving) → rules.receives_within old ms answer new
      → port new ≡ port old ++ Received answer ∷ []
  pub closes : (old new : S) (last : P) → rules.closes old last new → sockets new ≡ sockets old ++ port last
  pub traced : (old new : S) (on : Bool) → traces old on new → sockets new ≡ sockets old

-- this happened over the sockets in between, whatever captures it
abbrev pub IsCaptured : {S P : Type 0} → SocketRules S P → (S → Bool → S → Type 0) → S → S → List Event → Type 0
IsCaptured rules traces old new es =
    (capture : Capture rules traces) → capture.sockets new ≡ capture.sockets old ++ es

-- sockets that are what happened so far, so there are sockets that have a capture
abbrev pub recording : SocketRules (List Event) (List Event)
recording = record {
  opens = λ old address wait answer new. (new ≡ old) × IfOk answer (λ port. port ≡ []);
  closes = λ old last new. new ≡ old ++ last;
  sends = λ old octets to answer new. new ≡ old ++ Sent octets to answer ∷ [];
  receives = λ old answer new. new ≡ old ++ Received answer ∷ [];
  receives_within = λ old wait answer new. new ≡ old ++ Received answer ∷ [];
}

-- of these the capture is what they are
abbrev pub CanBeCaptured : Type 0
CanBeCaptured = (capture : Capture recording (λ old on new. new ≡ old))
    × ((sockets : List Event) → capture.sockets sockets ≡ sockets)

-- ---- one request

-- octets and whom they were sent to, in order
abbrev pub sent_in : List Event → List (List ℕ × List ℕ)
sent_in [] = []
sent_in (Sent octets to sent ∷ es) = (octets, to) ∷ sent_in es
sent_in (Received received ∷ es) = sent_in es

-- this datagram came from this address
abbrev pub came : List ℕ → List ℕ → Event
came from datagram = Received (Ok (record { from = from; datagram = Some datagram }))

-- For how many more datagrams an answer is waited for, behind these events: 16 behind a send, none if it was refused;
-- one fewer behind each that came, none behind a receive that failed, as where the time was over. It is nothing where
-- something was sent while an answer was waited for, or received while none was.
abbrev pub waited : ℕ → List Event → Option ℕ
waited n [] = Some n
waited zero (Sent octets to (Ok done) ∷ es) = waited 16 es
waited zero (Sent octets to (Err fault) ∷ es) = waited zero es
waited zero (Received received ∷ es) = None
waited (suc n) (Sent octets to sent ∷ es) = None
waited (suc n) (Received (Ok heard) ∷ es) = waited n es
waited (suc n) (Received (Err fault) ∷ es) = waited zero es

-- One request goes to a device, the same octets each time, and nothing else is sent. It is sent as often again as its
-- retries say, each time when an answer was waited for long enough, and nothing that comes from the device answers it;
-- or this datagram comes from the device, the first that answers it, and behind it nothing is done.
abbrev pub Exchanged : List ℕ → List ℕ → ℕ → List Event → Option (List ℕ) → Type 0
Exchanged request to retries es None =
    (sent_in es ≡ replicate (retries + 1) (request, to)) × (waited 0 es ≡ Some 0)
    × ((datagram : List ℕ) → Contains es (came to datagram) → answers_to request datagram ≡ false)
Exchanged request to retries es (Some answer) =
    (again : ℕ) × (again ≤ retries) × (before : List Event) × (es ≡ before ++ came to answer ∷ [])
    × (sent_in before ≡ replicate (again + 1) (request, to)) × IsSome (waited 0 es)
    × ((datagram : List ℕ) → Contains before (came to datagram) → answers_to request datagram ≡ false)
    × (answers_to request answer ≡ true)
