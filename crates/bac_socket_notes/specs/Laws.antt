-- What is done over ports that note what comes, or that tell it, is done over the ports below; and what the notes tell.
use Rattle.std.specs.Prelude.{◌≡◌, ◌≤◌, ℕ, false, List, ◌∷◌, length, Result}
use Rattle.bac_link.specs.Exchanges.{Unanswered}
use Rattle.bac_link.specs.declared.link.Lost.{Lost}
use Rattle.bac_ports.specs.Asking.{Asks, to_peer}
use Rattle.bac_ports.specs.Port.{Receiving, Sending}
use Rattle.bac_ports.specs.declared.udp_link.UdpLink.{UdpLink}
use Rattle.bac_socket_notes.specs.Notes.{is_again}
use Rattle.bac_socket_notes.specs.Ports.{AreOf, Event, Happen, IsTallyOf, NoneAnswers, Sent, after_events}
use Rattle.bac_socket_notes.specs.declared.notes.Note.{Note}

-- what is asked over ports of one kind is asked, with the same answer, over those below them
abbrev pub AsksAreBelow : {T P : Type 0} → (T → P) →
    (T → List ℕ → List ℕ → Sending → T → Type 0) → (T → Receiving → T → Type 0) →
    (P → List ℕ → List ℕ → Sending → P → Type 0) → (P → Receiving → P → Type 0) → Type 0
AsksAreBelow {T = T} below sends receives sends_below receives_below =
    (peer request : List ℕ) (limit : ℕ) (old new : T) (result : Result (List ℕ) Lost) →
    Asks sends receives (to_peer peer request) limit old result new →
    Asks sends_below receives_below (to_peer peer request) limit (below old) result (below new)

-- whatever is done over a port that has a note, the note is that of what was sent and what came
abbrev pub NotesAreOfEvents : {T : Type 0} → (T → Note) →
    (T → List ℕ → List ℕ → Sending → T → Type 0) → (T → Receiving → T → Type 0) →
    (T → ℕ → Receiving → T → Type 0) → Type 0
NotesAreOfEvents {T = T} note sends receives within =
    (es : List Event) (old new : T) → Happen sends receives within es old new → note new ≡ after_events es (note old)

-- From the first send of a question on, as long as no other is sent, the note tells how often it was sent, how many
-- datagrams came since, and the last of these; whatever was before it.
abbrev pub StraysCame : Type 0
StraysCame =
    (note : Note) (octets to : List ℕ) (sent : Sending) (es : List Event) → is_again note octets to ≡ false →
    length octets ≤ 1501 → AreOf octets to es →
    IsTallyOf (Sent octets to sent ∷ es) (after_events (Sent octets to sent ∷ es) note).passed

-- Tries of a question over a link that brought no answer: all that was sent over its port is that question, to its
-- peer, and no datagram that came is from the peer and answers it.
abbrev pub LostHasStrays : {T : Type 0} → (T → List ℕ → List ℕ → Sending → T → Type 0) → (T → Receiving → T → Type 0) →
    (T → ℕ → Receiving → T → Type 0) → Type 0
LostHasStrays {T = T} sends receives within =
    (peer octets : List ℕ) (tries : ℕ) (old new : UdpLink T) → old.peer ≡ peer →
    Unanswered (λ a request answer b. Asks sends receives (to_peer a.peer request) 16 a.port answer b.port
    × (b.peer ≡ a.peer))
    octets tries old new →
    (es : List Event) × Happen sends receives within es old.port new.port × AreOf octets peer es
    × NoneAnswers peer octets es
