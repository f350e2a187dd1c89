-- What happens at a port, and what its note tells of it.
use Rattle.std.specs.Prelude.{◌≡◌, ◌⊎◌, ℕ, List, [], ◌∷◌, length, Option, Some, None, Ok, Err, option_map}
use Rattle.bac_ports.specs.Asking.{fitting}
use Rattle.bac_ports.specs.Port.{Receiving, Sending}
use Rattle.bac_ports.specs.declared.port.Heard.{Heard}
use Rattle.bac_socket_notes.specs.Contents.{stray_of}
use Rattle.bac_socket_notes.specs.Notes.{after_receive, after_send, up_to}
use Rattle.bac_socket_notes.specs.declared.notes.Note.{Note}
use Rattle.bac_socket_notes.specs.declared.notes.Passed.{Passed}

-- octets were sent to a receiver, or refused; a datagram came, or none did
pub data Event : Type 0 where
  Sent : List ℕ → List ℕ → Sending → Event
  Received : Receiving → Event

-- a port does this
abbrev pub Happens : {P : Type 0} → (P → List ℕ → List ℕ → Sending → P → Type 0) → (P → Receiving → P → Type 0) →
    (P → ℕ → Receiving → P → Type 0) → Event → P → P → Type 0
Happens sends receives within (Sent octets to sent) old new = sends old octets to sent new
Happens sends receives within (Received heard) old new =
    receives old heard new ⊎ ((wait : ℕ) × within old wait heard new)

-- and this, one after the other
abbrev pub Happen : {P : Type 0} → (P → List ℕ → List ℕ → Sending → P → Type 0) → (P → Receiving → P → Type 0) →
    (P → ℕ → Receiving → P → Type 0) → List Event → P → P → Type 0
Happen {P = P} sends receives within [] old new = new ≡ old
Happen {P = P} sends receives within (e ∷ es) old new =
    (mid : P) × Happens sends receives within e old mid × Happen sends receives within es mid new

-- ---- notes

-- it is noted
abbrev pub after_event : Event → Note → Note
after_event (Sent octets to sent) note = after_send octets to sent note
after_event (Received received) note = after_receive received note

-- one after the other
abbrev pub after_events : List Event → Note → Note
after_events [] note = note
after_events (e ∷ es) note = after_events es (after_event e note)

-- ---- what was sent and what came, of one question

-- no other question is sent
abbrev pub AreOf : List ℕ → List ℕ → List Event → Type 0
AreOf octets to [] = Unit {0}
AreOf octets to (Sent again other sent ∷ es) = (again ≡ octets) × (other ≡ to) × AreOf octets to es
AreOf octets to (Received received ∷ es) = AreOf octets to es

-- the sends that weren't refused
abbrev pub tries_in : List Event → List Event
tries_in [] = []
tries_in (Sent octets to (Ok done) ∷ es) = Sent octets to (Ok done) ∷ tries_in es
tries_in (Sent octets to (Err fault) ∷ es) = tries_in es
tries_in (Received received ∷ es) = tries_in es

-- the datagrams that came
abbrev pub came_in : List Event → List Heard
came_in [] = []
came_in (Sent octets to sent ∷ es) = came_in es
came_in (Received (Ok heard) ∷ es) = heard ∷ came_in es
came_in (Received (Err fault) ∷ es) = came_in es

-- the last of datagrams
abbrev pub last_of : List Heard → Option Heard
last_of [] = None
last_of (heard ∷ []) = Some heard
last_of (heard ∷ more) = last_of more

-- how often the question was sent, how many datagrams came, and which came last
abbrev pub IsTallyOf : List Event → Passed → Type 0
IsTallyOf es passed =
    (passed.tries ≡ up_to (length (tries_in es))) × (passed.came ≡ up_to (length (came_in es)))
    × (passed.last ≡ option_map stray_of (last_of (came_in es)))

-- no datagram that comes is from the peer and answers the question
abbrev pub NoneAnswers : List ℕ → List ℕ → List Event → Type 0
NoneAnswers peer octets [] = Unit {0}
NoneAnswers peer octets (Sent again other sent ∷ es) = NoneAnswers peer octets es
NoneAnswers peer octets (Received (Ok heard) ∷ es) = (fitting peer octets heard ≡ None) × NoneAnswers peer octets es
NoneAnswers peer octets (Received (Err fault) ∷ es) = NoneAnswers peer octets es
