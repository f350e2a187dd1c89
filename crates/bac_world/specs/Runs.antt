-- What a walk over such a network delivers, whatever the network does.
use Rattle.std.specs.Prelude.{◌≡◌, ℕ, Bool, false, ◌+◌, ◌<◌, ◌≤◌, if◌then◌else◌, Option, Some, None, List, [], ◌∷◌}
use Rattle.std.specs.Prelude.{◌++◌, length, map, take, slice_get, true}
use Rattle.bac_apdu.specs.Service.Extent.{IsExtent}
use Rattle.bac_link.specs.Standard.{IsCount}
use Rattle.bac_link.specs.declared.item.Item.{Item}
use Rattle.bac_link.specs.declared.transactions.Pending.{Pending}
use Rattle.bac_link.specs.Delivery.{History, Moment, DeliversTo, Leads, items_of}
use Rattle.bac_link.specs.Laws.{moment_at}
use Rattle.bac_log.specs.TrendLog.{sequence_number}
use Rattle.bac_log.specs.declared.entry.Entry.{Entry}
use Rattle.bac_objects.specs.Sound.{IsSound}
use Rattle.bac_objects.specs.State.{State}
use Rattle.bac_device.specs.Answer.{answer}
use Rattle.bac_device.specs.declared.reply.Reply.{Reply}
use Rattle.bac_walk.specs.Collects.{batches, start_of}
use Rattle.bac_walk.specs.Delivers.{NoneFrom}
use Rattle.bac_link.specs.Moments.{AreInWindow}
use Rattle.bac_walk.specs.Near.{IsNear}
use Rattle.bac_walk.specs.Place.{WalkPlace}
use Rattle.bac_walk.specs.Walks as walks
use Rattle.bac_wire.specs.Canon.{IsValid}
use Rattle.bac_wire.specs.Primitive.{Object}
use Rattle.bac_memory_link.specs.Ahead.{IsThere, log_with, logged_since, moment_of, placed, turn}
use Rattle.bac_memory_link.specs.Events.{datagram_in}
use Rattle.bac_world.specs.declared.event.WorldEvent.{WorldEvent}
use Rattle.bac_world.specs.declared.event.WorldEvent.TheVariants.{Ask, Deliver, Timeout, Sample, Advance, Handle}
use Rattle.bac_world.specs.declared.packet.Packet.{Packet}
use Rattle.bac_world.specs.declared.packet.Side.{Side}
use Rattle.bac_world.specs.declared.packet.Side.TheVariants.{Device, Client}
use Rattle.bac_world.specs.Network.{Network, happens, happens_all, is_young, moves, started}
use Rattle.bac_world.specs.Sources.{WasAnswered}

-- ---- a run, with what it went through

-- the device each time it answered a packet, and how often it had when the last request began
pub record Run : Type 0 where
  pub network : Network
  pub devices : List State
  pub began : ℕ

-- the devices so far and, if there is a reply, the device that gave it
abbrev pub answering : List State → State → Option Reply → List State
answering devices d None = devices
answering devices d (Some reply) = devices ++ d ∷ []

-- the same for a packet that comes to a side: the client gives no reply
abbrev pub arriving : List State → Network → Side → List ℕ → List State
arriving devices w Device octets = answering devices w.device (answer w.device octets).0
arriving devices w Client octets = devices

-- the same for a packet that was sent and still comes
abbrev pub delivering : List State → Network → Option Packet → List State
delivering devices w None = devices
delivering devices w (Some p) = if is_young w p.transaction then arriving devices w p.to p.datagram else devices

-- the same after an event: only a delivery brings the device a packet
abbrev pub devices_after : Run → WorldEvent → List State
devices_after run Ask = run.devices
devices_after run (Deliver k) = delivering run.devices run.network (slice_get run.network.packets k)
devices_after run Timeout = run.devices
devices_after run (Sample instance) = run.devices
devices_after run (Advance moment) = run.devices
devices_after run (Handle octets) = run.devices

-- how often the device had answered when the request began that is open once the client asks
abbrev pub asking : Run → Option Pending → ℕ
asking run None = length run.devices
asking run (Some p) = run.began

-- the same after an event: only asking begins a request
abbrev pub began_after : Run → WorldEvent → ℕ
began_after run Ask = asking run run.network.transactions.pending
began_after run (Deliver k) = run.began
began_after run Timeout = run.began
began_after run (Sample instance) = run.began
began_after run (Advance moment) = run.began
began_after run (Handle octets) = run.began

-- the run with one event more
abbrev pub follow : Run → WorldEvent → Run
follow run e = record { network = happens run.network e; devices = devices_after run e; began = began_after run e }

-- the run with events more, one after the other
abbrev pub follow_all : Run → List WorldEvent → Run
follow_all run [] = run
follow_all run (e ∷ es) = follow_all (follow run e) es

-- the run of these events
abbrev pub run_of : Network → List WorldEvent → Run
run_of w es = follow_all (record { network = w; devices = []; began = 0 }) es

-- ---- the moments and the history of a log

-- The log with an instance, as the device had it each time it answered a packet. Ordinals are the device's, or all so
-- many whole rounds of numbers further on.
abbrev pub moments_in : ℕ → ℕ → List State → List Moment
moments_in rounds n devices = map (λ d. placed rounds (moment_of (log_with d n))) devices

-- the moments of a log in the run of these events
abbrev pub moments_of : ℕ → ℕ → Network → List WorldEvent → List Moment
moments_of rounds n w es = moments_in rounds n (run_of w es).devices

-- the entries that events log
abbrev pub entries_of : ℕ → Network → List WorldEvent → List Entry
entries_of n w [] = []
entries_of n w (e ∷ es) =
    logged_since (log_with w.device n) (log_with (happens w e).device n) ++ entries_of n (happens w e) es

-- the entries that are held, and those that events log
abbrev pub history_of : ℕ → ℕ → Network → List WorldEvent → History
history_of rounds n w es =
    record {
      logged = (log_with w.device n).before + turn rounds;
      entries = (log_with w.device n).entries ++ entries_of n w es;
    }

-- ---- what holds of a run

-- The walk was caught up at some answer: those before it led to ordinal t, whose number is told, and no entry from t on
-- was held then.
abbrev pub WasCaughtUp : History → List Moment → Bool → ℕ → List (List Item) → Option ℕ → Type 0
WasCaughtUp H M fresh s answers None = Unit {0}
WasCaughtUp H M fresh s answers (Some n) =
    (i : ℕ) × (t : ℕ) × (i < length M) × (n ≡ sequence_number t)
    × Leads H M (start_of fresh s M (take i answers)) (take i answers) t × NoneFrom t (moment_at M i)

-- What the answers brought, one for each moment: a walk that was at ordinal s, or that began at the oldest entry, is at
-- t. The items and the answer at which the walk was caught up are theirs.
pub record Stands (H : History) (M : List Moment)
    (fresh : Bool) (s : ℕ) (w : Network) (answers : List (List Item)) (t : ℕ) : Type 0 where
  pub count : length answers ≡ length M
  pub all : items_of answers ≡ w.items
  pub leads : Leads H M (start_of fresh s M answers) answers t
  pub next : w.walk.next ≡ sequence_number t
  pub caught : WasCaughtUp H M fresh s answers w.caught

-- ---- how near a walk is to its log

-- where the device answered, and so is the last of these, wherever the walk may be is near its log. A walk from the
-- oldest entry may be anywhere until its first batch.
abbrev pub IsNearWhere : ℕ → ℕ → History → Bool → ℕ → Run → List State → Type 0
IsNearWhere rounds n H fresh s run devices =
    (answers : List (List Item)) (t : ℕ) (d : State) →
    Stands H (moments_in rounds n run.devices) fresh s run.network answers t →
    (batches answers ≡ 0 → fresh ≡ false) → devices ≡ run.devices ++ d ∷ [] →
    IsNear t (placed rounds (moment_of (log_with d n)))

-- each time that the device answers a packet
abbrev pub StaysNear : ℕ → ℕ → History → Bool → ℕ → Run → List WorldEvent → Type 0
StaysNear rounds n H fresh s run [] = Unit {0}
StaysNear rounds n H fresh s run (e ∷ es) =
    IsNearWhere rounds n H fresh s run (devices_after run e) × StaysNear rounds n H fresh s (follow run e) es

-- a walk of this log that is at ordinal s, or at the oldest entry, stays near while these events happen
abbrev pub IsNearAll : ℕ → WalkPlace → ℕ → Network → List WorldEvent → Type 0
IsNearAll rounds walk s w es =
    StaysNear rounds walk.log.instance (history_of rounds walk.log.instance w es) walk.fresh s (run_of w []) es

-- ---- the theorem

-- a datagram is what the device answered to a request, at a moment after that request began
abbrev pub IsAnswered : Run → List ℕ → List ℕ → Type 0
IsAnswered run request datagram =
    (p : ℕ) × (d : State) × (run.began ≤ p) × (slice_get run.devices p ≡ Some d)
    × (datagram_in (answer d request).0 ≡ Some datagram)

-- if the packet at a place is taken as the answer to the open request, it is that
abbrev pub IsRight : Run → ℕ → Type 0
IsRight run k =
    (p : Packet) (request : Pending) → slice_get run.network.packets k ≡ Some p → p.to ≡ Client →
    run.network.transactions.pending ≡ Some request →
    moves run.network (Deliver k) ≡ true → IsAnswered run request.request p.datagram

-- Events took a world that was new, with a walk of a log of its device, to another one: over the moments of the run and
-- the log's history a walk that stayed near delivered what Delivery says, at every placing of the ordinals. Each reply
-- that it took was right, near or not, and the device had put it on the network.
abbrev pub WithstandsFrom : Network → List WorldEvent → Network → Type 0
WithstandsFrom old es new =
    (d : State) (walk : WalkPlace) (retries s rounds : ℕ) → old ≡ started d walk retries → walk.asks_oldest ≡ false →
    IsThere d walk.log.instance → walk.next ≡ sequence_number s →
    (IsNearAll rounds walk s old es → (answers : List (List Item)) × (t : ℕ)
    × Stands (history_of rounds walk.log.instance old es)
    (moments_of rounds walk.log.instance old es) walk.fresh s new answers t)
    × ((before : List WorldEvent) (k : ℕ) (after : List WorldEvent) →
    es ≡ before ++ Deliver k ∷ after → IsRight (run_of old before) k × WasAnswered old before k)

-- the headline of it: a walk from ordinal s, or from the oldest entry
abbrev pub DeliversFrom : Network → List WorldEvent → Network → Type 0
DeliversFrom old es new =
    (d : State) (walk : WalkPlace) (retries s rounds : ℕ) → old ≡ started d walk retries → walk.asks_oldest ≡ false →
    IsThere d walk.log.instance → walk.next ≡ sequence_number s → IsNearAll rounds walk s old es →
    (b : ℕ) × (t : ℕ) × (walk.fresh ≡ false → b ≡ s) × (new.walk.next ≡ sequence_number t)
    × DeliversTo (history_of rounds walk.log.instance old es) b new.items t (moments_of rounds walk.log.instance old es)
    (length (moments_of rounds walk.log.instance old es))

-- ---- what is true of every world

-- the device is sound, and the walk is one of a trend log whose question is in range, and asks for 1 to 100 records
pub record IsSane (w : Network) : Type 0 where
  pub device : IsSound w.device
  pub kind : w.walk.log.kind ≡ 20
  pub log : IsValid (Object w.walk.log)
  pub asks : IsExtent (walks.question_of w.walk)
  pub count : IsCount w.walk.count

-- before, between and after events
abbrev pub AreSane : Network → List WorldEvent → Type 0
AreSane w [] = IsSane w
AreSane w (e ∷ es) = IsSane w × AreSane (happens w e) es

-- whatever the events are
abbrev pub Withstands : Type 0
Withstands = (w : Network) (es : List WorldEvent) → AreSane w es → WithstandsFrom w es (happens_all w es)

-- A plain premise that is enough for a walk to stay near: all that is logged or held at any of the moments lies within
-- half of the count from one ordinal on, and so does the ordinal where the walk begins, unless that is the oldest
-- entry.
abbrev pub WindowsStayNear : Type 0
WindowsStayNear = (rounds low s : ℕ) (walk : WalkPlace) (w : Network) (es : List WorldEvent) →
    AreInWindow low (moments_of rounds walk.log.instance w es) →
    (walk.fresh ≡ false → (low ≤ s) × (s < low + 2147483648)) →
    IsNearAll rounds walk s w es
