-- Where the packets of a network come from: nothing is on it that neither its client nor its device put there.
use Rattle.std.specs.Prelude.{◌≡◌, ◌⊎◌, ℕ, true, Some, List, [], ◌∷◌, ◌++◌, length, slice_get}
use Rattle.bac_device.specs.Answer.{answer}
use Rattle.bac_memory_link.specs.Events.{datagram_in}
use Rattle.bac_link.specs.declared.transactions.Pending.{Pending}
use Rattle.bac_world.specs.declared.event.WorldEvent.{WorldEvent}
use Rattle.bac_world.specs.declared.event.WorldEvent.TheVariants.{Deliver}
use Rattle.bac_world.specs.declared.packet.Packet.{Packet}
use Rattle.bac_world.specs.declared.packet.Side.{Side}
use Rattle.bac_world.specs.declared.packet.Side.TheVariants.{Device, Client}
use Rattle.bac_world.specs.Machine.{client_events, sent_of}
use Rattle.bac_world.specs.Network.{Network, happens, happens_all, is_young, moves}

-- ---- one event

-- the device is brought a packet of this transaction, and these octets are its reply to it
abbrev pub IsReplyTo : Network → WorldEvent → ℕ → List ℕ → Type 0
IsReplyTo w e transaction octets =
    (i : ℕ) × (question : Packet) × (e ≡ Deliver i) × (slice_get w.packets i ≡ Some question)
    × (question.to ≡ Device) × (question.transaction ≡ transaction) × (is_young w transaction ≡ true)
    × (datagram_in (answer w.device question.datagram).0 ≡ Some octets)

-- An event puts a packet on the network: to the device just what the client sends at it, in its newest transaction; to
-- the client a reply.
abbrev pub Puts : Network → WorldEvent → ℕ → Side → List ℕ → Type 0
Puts w e transaction Device octets =
    (sent_of w.transactions (client_events w e) ≡ octets ∷ []) × (transaction ≡ (happens w e).begun)
Puts w e transaction Client octets = IsReplyTo w e transaction octets

-- ---- a run

-- one of these events put a packet on the network, at this place
abbrev pub WasPut : Network → List WorldEvent → ℕ → Packet → Type 0
WasPut w es k p =
    (before : List WorldEvent) × (e : WorldEvent) × (after : List WorldEvent) × (es ≡ before ++ e ∷ after)
    × (length (happens_all w before).packets ≡ k) × Puts (happens_all w before) e p.transaction p.to p.datagram

-- whatever the events are, each packet was there before them, or one of them put it there
abbrev pub PacketsWerePut : Type 0
PacketsWerePut = (w : Network) (es : List WorldEvent) (k : ℕ) (p : Packet) →
    slice_get (happens_all w es).packets k ≡ Some p → (slice_get w.packets k ≡ Some p) ⊎ WasPut w es k p

-- What the client takes as the answer to its open request, after these events, is the reply that the device gave when
-- one of them brought it that request, which the client had put on the network before.
abbrev pub WasAnswered : Network → List WorldEvent → ℕ → Type 0
WasAnswered w es k =
    (p : Packet) (asked : Pending) → slice_get (happens_all w es).packets k ≡ Some p → p.to ≡ Client →
    (happens_all w es).transactions.pending ≡ Some asked → moves (happens_all w es) (Deliver k) ≡ true →
    (before : List WorldEvent) × (i : ℕ) × (after : List WorldEvent) × (question : Packet)
    × (es ≡ before ++ Deliver i ∷ after) × (slice_get (happens_all w before).packets i ≡ Some question)
    × (question.to ≡ Device) × (question.datagram ≡ asked.request) × WasPut w before i question
    × (datagram_in (answer (happens_all w before).device asked.request).0 ≡ Some p.datagram)
    × (length (happens_all w before).packets ≡ k)
