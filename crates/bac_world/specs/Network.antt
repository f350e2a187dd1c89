-- A device and its client over a network that keeps, repeats and reorders datagrams: what an event makes of them.
use Rattle.std.specs.Prelude.{ℕ, Bool, true, false, ◌&&◌, ◌+◌, nat_lt, is_some, is_none, is_ok, if◌then◌else◌, Option}
use Rattle.std.specs.Prelude.{Some, None, List, [], ◌∷◌, ◌++◌, length, slice_get}
use Rattle.bac_wire.specs.Primitive.{Id}
use Rattle.bac_log.specs.declared.entry.Entry.{Entry}
use Rattle.bac_objects.specs.Sampling.{sampled}
use Rattle.bac_objects.specs.State.{State}
use Rattle.bac_device.specs.Answer.{answer}
use Rattle.bac_device.specs.Clock.{advanced}
use Rattle.bac_device.specs.Run as run
use Rattle.bac_device.specs.Run.{step}
use Rattle.bac_device.specs.declared.reply.Reply.{Reply}
use Rattle.bac_link.specs.Answer.{Answer}
use Rattle.bac_link.specs.Answer as answer
use Rattle.bac_link.specs.Datagrams.{answer_in, apdu_in}
use Rattle.bac_link.specs.Links.{question}
use Rattle.bac_link.specs.Path.{towards}
use Rattle.bac_link.specs.Requests.{next_invoke, request_octets}
use Rattle.bac_link.specs.Transactions.{begun_with, closed, is_awaited}
use Rattle.bac_link.specs.declared.item.Item.{Item}
use Rattle.bac_link.specs.declared.request.Request.{Request}
use Rattle.bac_link.specs.declared.transactions.Pending.{Pending}
use Rattle.bac_link.specs.declared.transactions.Transactions.{Transactions}
use Rattle.bac_link.specs.Heard.{AckParameters, heard_at}
use Rattle.bac_link.specs.Ordinals.{number_after}
use Rattle.bac_walk.specs.Place.{WalkPlace}
use Rattle.bac_walk.specs.Walks.{NextAct, Bring, Refuse, brought, verdict}
use Rattle.bac_walk.specs.Walks as walks
use Rattle.bac_world.specs.declared.event.WorldEvent.{WorldEvent}
use Rattle.bac_world.specs.declared.event.WorldEvent.TheVariants.{Ask, Deliver, Timeout, Sample, Advance, Handle}
use Rattle.bac_world.specs.declared.packet.Packet.{Packet}
use Rattle.bac_world.specs.declared.packet.Side.{Side}
use Rattle.bac_world.specs.declared.packet.Side.TheVariants.{Device, Client}

-- A device, a walk of one of its logs with its transactions, how many of them were begun, every packet that was ever
-- sent, in the order of sending, what the walk has delivered, and its next number when it was last caught up.
pub record Network : Type 0 where
  pub device : State
  pub walk : WalkPlace
  pub transactions : Transactions
  pub begun : ℕ
  pub packets : List Packet
  pub items : List Item
  pub caught : Option ℕ

-- before the first event
abbrev pub started : State → WalkPlace → ℕ → Network
started d walk retries = record {
  device = d;
  walk = walk;
  transactions = record { retries = retries; route = None; invoke = 0; begun = 0; pending = None };
  begun = 0;
  packets = [];
  items = [];
  caught = None;
}

-- ---- packets

-- one packet more, the last of all
abbrev pub sent : List Packet → ℕ → Side → List ℕ → List Packet
sent packets transaction to octets = packets ++ record { transaction = transaction; to = to; datagram = octets } ∷ []

-- a packet still comes while fewer than 256 later transactions have begun
abbrev pub is_young : Network → ℕ → Bool
is_young w transaction = nat_lt w.begun (transaction + 256)

-- ---- the client asks

-- the question of a walk as a request
abbrev pub question_of : WalkPlace → Request
question_of walk = question walk.log (walks.question_of walk)

-- the question of the walk is sent under the next invoke ID
abbrev pub begins : Network → Network
begins w = record w {
  transactions = begun_with (question_of w.walk) w.transactions;
  begun = w.begun + 1;
  packets =
      sent w.packets (w.begun + 1) Device
      (request_octets (towards w.transactions.route) (next_invoke w.transactions.invoke) (question_of w.walk));
}

-- when no request is open
abbrev pub asks : Network → Option Pending → Network
asks w None = begins w
asks w (Some p) = w

-- ---- no answer comes in time

-- a walk that is back at the first question of its step
abbrev pub restarted : WalkPlace → WalkPlace
restarted walk = record walk { asks_oldest = false }

-- the same octets once more, a packet of the same transaction
abbrev pub repeats : Network → Pending → Network
repeats w p = record w {
  transactions = record w.transactions { pending = Some (record p { repeats = p.repeats + 1 }) };
  packets = sent w.packets w.begun Device p.request;
}

-- nothing is open any more
abbrev pub closes : Network → Network
closes w = record w { transactions = closed w.transactions }

-- after the last repeat nothing is open, and the walk begins its step anew
abbrev pub gives_up : Network → Network
gives_up w = record w { transactions = closed w.transactions; walk = restarted w.walk }

-- as long as repeats are left; with nothing open, nothing happens
abbrev pub times_out : Network → Option Pending → Network
times_out w None = w
times_out w (Some p) = if nat_lt p.repeats w.transactions.retries then repeats w p else gives_up w

-- ---- a packet comes to the device

-- the reply is a packet of the same transaction
abbrev pub reply_sent : List Packet → ℕ → Option Reply → List Packet
reply_sent packets transaction None = packets
reply_sent packets transaction (Some reply) = sent packets transaction Client reply.datagram

-- the device after a packet, and the packet of its reply
abbrev pub replies : Network → ℕ → Option Reply × State → Network
replies w transaction said = record w { device = said.1; packets = reply_sent w.packets transaction said.0 }

-- ---- a packet comes to the client

-- what the walk makes of an answer, by its verdict on it
abbrev pub takes : Network → NextAct → List Entry → Network
takes w Refuse es = record w { walk = restarted w.walk }
takes w walks.Ask es = record w { walk = record w.walk { asks_oldest = true } }
takes w walks.End es = record w { walk = restarted w.walk; caught = Some w.walk.next }
takes w (Bring first) es = record w {
  walk = record w.walk { next = number_after first (length es); fresh = false; asks_oldest = false };
  items = w.items ++ brought w.walk first es;
}

-- an answer that says nothing to the walk is refused
abbrev pub hears : Network → Option AckParameters → Network
hears w None = takes w Refuse []
hears w (Some h) = takes w (verdict w.walk h.first h.count h.entries) h.entries

-- the records of a ComplexACK; any other answer says nothing
abbrev pub heard_of : Id → Answer → Option AckParameters
heard_of log (answer.Complex parameters) = heard_at log parameters
heard_of log other = None

-- the same of an answer beside its invoke ID, if there is one
abbrev pub heard_in : Id → Option (ℕ × Answer) → Option AckParameters
heard_in log None = None
heard_in log (Some said) = heard_of log said.1

-- a datagram that doesn't answer the open request is nothing; one that does closes it
abbrev pub receives : Network → List ℕ → Network
receives w octets = if is_awaited w.transactions.pending octets
    then hears (closes w) (heard_in w.walk.log (answer_in (apdu_in octets))) else w

-- ---- events

-- by the side that the packet comes to
abbrev pub arrives : Network → ℕ → Side → List ℕ → Network
arrives w transaction Device octets = replies w transaction (answer w.device octets)
arrives w transaction Client octets = receives w octets

-- a packet that was sent and still comes
abbrev pub delivers : Network → Option Packet → Network
delivers w None = w
delivers w (Some p) = if is_young w p.transaction then arrives w p.transaction p.to p.datagram else w

-- one event
abbrev pub happens : Network → WorldEvent → Network
happens w Ask = asks w w.transactions.pending
happens w (Deliver k) = delivers w (slice_get w.packets k)
happens w Timeout = times_out w w.transactions.pending
happens w (Sample instance) = record w { device = (step w.device (run.Sample instance)).1 }
happens w (Advance moment) = record w { device = (step w.device (run.Advance moment)).1 }
happens w (Handle octets) = record w { device = (step w.device (run.Datagram octets)).1 }

-- ---- whether anything happens

-- whether the device replies to a packet, or the client takes it as the answer to its open request
abbrev pub is_answered : Network → Side → List ℕ → Bool
is_answered w Device octets = is_some (answer w.device octets).0
is_answered w Client octets = is_awaited w.transactions.pending octets

-- whether a packet was sent, still comes, and is answered so
abbrev pub is_delivered : Network → Option Packet → Bool
is_delivered w None = false
is_delivered w (Some p) = is_young w p.transaction && is_answered w p.to p.datagram

-- whether an event does anything; one that is refused does nothing
abbrev pub moves : Network → WorldEvent → Bool
moves w Ask = is_none w.transactions.pending
moves w (Deliver k) = is_delivered w (slice_get w.packets k)
moves w Timeout = is_some w.transactions.pending
moves w (Sample instance) = is_ok (sampled w.device instance)
moves w (Advance moment) = is_some (advanced w.device moment)
moves w (Handle octets) = is_some (answer w.device octets).0

-- ---- runs

-- events, one after the other
abbrev pub happens_all : Network → List WorldEvent → Network
happens_all w [] = w
happens_all w (e ∷ es) = happens_all (happens w e) es

-- how many of the events happen
abbrev pub moves_all : Network → List WorldEvent → ℕ
moves_all w [] = 0
moves_all w (e ∷ es) = (if moves w e then 1 else 0) + moves_all (happens w e) es
