-- The client of a network is the one that an exchange over a port runs, over the packets that come to it.
use Rattle.std.specs.Prelude.{◌≡◌, if◌then◌else◌, ℕ, Option, Some, None, List, [], ◌∷◌, ◌++◌, slice_get}
use Rattle.bac_link.specs.declared.transactions.Pending.{Pending}
use Rattle.bac_link.specs.declared.transactions.Transactions.{Transactions}
use Rattle.bac_link.specs.Client.{ClientEvent, Begin, Come, TimeOut, after_event, after_events, sent_at}
use Rattle.bac_world.specs.declared.event.WorldEvent.{WorldEvent}
use Rattle.bac_world.specs.declared.event.WorldEvent.TheVariants.{Ask, Deliver, Timeout, Sample, Advance, Handle}
use Rattle.bac_world.specs.declared.packet.Packet.{Packet}
use Rattle.bac_world.specs.declared.packet.Side.{Side}
use Rattle.bac_world.specs.declared.packet.Side.TheVariants.{Device, Client}
use Rattle.bac_world.specs.Network.{Network, happens, happens_all, is_young, question_of}

-- ---- events

-- the client begins the walk's question, when no request is open
abbrev pub beginning : Network → Option Pending → List ClientEvent
beginning w None = Begin (question_of w.walk) ∷ []
beginning w (Some p) = []

-- what comes to the client
abbrev pub coming : Side → List ℕ → List ClientEvent
coming Device octets = []
coming Client octets = Come octets ∷ []

-- of a packet that was sent and still comes
abbrev pub delivering : Network → Option Packet → List ClientEvent
delivering w None = []
delivering w (Some p) = if is_young w p.transaction then coming p.to p.datagram else []

-- the client's events at an event of the network
abbrev pub client_events : Network → WorldEvent → List ClientEvent
client_events w Ask = beginning w w.transactions.pending
client_events w (Deliver k) = delivering w (slice_get w.packets k)
client_events w Timeout = TimeOut ∷ []
client_events w (Sample instance) = []
client_events w (Advance moment) = []
client_events w (Handle octets) = []

-- the same of events one after the other
abbrev pub client_events_all : Network → List WorldEvent → List ClientEvent
client_events_all w [] = []
client_events_all w (e ∷ es) = client_events w e ++ client_events_all (happens w e) es

-- ---- what is sent

-- what the client sends at its events
abbrev pub sent_of : Transactions → List ClientEvent → List (List ℕ)
sent_of t [] = []
sent_of t (e ∷ es) = sent_at t e ++ sent_of (after_event t e) es

-- what was sent to a side
abbrev pub sent_to : Side → List ℕ → List (List ℕ)
sent_to Device octets = octets ∷ []
sent_to Client octets = []

-- what was sent to the device, in order
abbrev pub to_device : List Packet → List (List ℕ)
to_device [] = []
to_device (p ∷ packets) = sent_to p.to p.datagram ++ to_device packets

-- ---- the law

-- whatever the events are, the client is where its own events bring it, and what the device was sent is what it sends
abbrev pub RunsTheClient : Type 0
RunsTheClient = (w : Network) (es : List WorldEvent) →
    ((happens_all w es).transactions ≡ after_events w.transactions (client_events_all w es))
    × (to_device (happens_all w es).packets
    ≡ to_device w.packets ++ sent_of w.transactions (client_events_all w es))
