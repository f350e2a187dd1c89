-- The client of a network runs the events of an exchange.
use Rattle.std.proofs.Common.{◌≡◌, ◌+◌, ℕ, Bool, true, false, nat_lt, if◌then◌else◌, Option, Some, None, List, [], ◌∷◌, ◌++◌, slice_get, refl, sym, ap, ◌∙◌, append_assoc, append-nil}
use Rattle.bac_device.specs.declared.reply.Reply.{Reply}
use Rattle.bac_device.specs.Answer.{answer}
use Rattle.bac_link.specs.Client.{ClientEvent, after_event, after_events, sent_again, sent_at, timed_out}
use Rattle.bac_link.specs.Transactions.{closed, is_awaited}
use Rattle.bac_link.specs.declared.transactions.Pending.{Pending}
use Rattle.bac_link.specs.declared.transactions.Transactions.{Transactions}
use Rattle.bac_link.specs.Datagrams.{answer_in, apdu_in}
use Rattle.bac_log.specs.declared.entry.Entry.{Entry}
use Rattle.bac_link.specs.Heard.{AckParameters}
use Rattle.bac_walk.specs.Walks.{NextAct, Bring, Refuse, verdict}
use Rattle.bac_walk.specs.Walks as walks
use Rattle.bac_world.specs.Machine.{RunsTheClient, beginning, client_events, client_events_all, coming, delivering, sent_of, sent_to, to_device}
use Rattle.bac_world.specs.Network.{Network, arrives, asks, closes, delivers, gives_up, happens, happens_all, heard_in, hears, is_young, repeats, reply_sent, takes, times_out}
use Rattle.bac_world.specs.declared.event.WorldEvent.{WorldEvent}
use Rattle.bac_world.specs.declared.event.WorldEvent.TheVariants.{Ask, Deliver, Timeout, Sample, Advance, Handle}
use Rattle.bac_world.specs.declared.packet.Packet.{Packet}
use Rattle.bac_world.specs.declared.packet.Side.{Side}
use Rattle.bac_world.specs.declared.packet.Side.TheVariants.{Device, Client}

-- ---- lists

device-append : (xs ys : List Packet) → to_device (xs ++ ys) ≡ to_device xs ++ to_device ys
device-append [] ys = refl
device-append (x ∷ xs) ys =
    let a = sent_to x.to x.datagram in ap (λ l. a ++ l) (device-append xs ys) ∙ sym (append_assoc a (to_device xs) (to_device ys))

after-append : (t : Transactions) (xs ys : List ClientEvent) → after_events t (xs ++ ys) ≡ after_events (after_events t xs) ys
after-append t [] ys = refl
after-append t (x ∷ xs) ys = after-append (after_event t x) xs ys

sent-append : (t : Transactions) (xs ys : List ClientEvent) → sent_of t (xs ++ ys) ≡ sent_of t xs ++ sent_of (after_events t xs) ys
sent-append t [] ys = refl
sent-append t (x ∷ xs) ys =
    ap (λ l. sent_at t x ++ l) (sent-append (after_event t x) xs ys)
    ∙ sym (append_assoc (sent_at t x) (sent_of (after_event t x) xs) (sent_of (after_events (after_event t x) xs) ys))

-- ---- one event

-- the client is where its events bring it, and the device was sent what it sends
abbrev Follows : Network → Network → List ClientEvent → Type 0
Follows w new es =
    (new.transactions ≡ after_events w.transactions es) × (to_device new.packets ≡ to_device w.packets ++ sent_of w.transactions es)

nothing : (w new : Network) → new.transactions ≡ w.transactions → to_device new.packets ≡ to_device w.packets → Follows w new []
nothing w new same packets = (same, packets ∙ sym (append-nil (to_device w.packets)))

-- what the walk makes of an answer changes neither
taken_same : (w : Network) (act : NextAct) (es : List Entry) → ((takes w act es).transactions ≡ w.transactions) × ((takes w act es).packets ≡ w.packets)
taken_same w Refuse es = (refl, refl)
taken_same w walks.Ask es = (refl, refl)
taken_same w walks.End es = (refl, refl)
taken_same w (Bring first) es = (refl, refl)

pub heard_same : (w : Network) (o : Option AckParameters) → ((hears w o).transactions ≡ w.transactions) × ((hears w o).packets ≡ w.packets)
heard_same w None = (refl, refl)
heard_same w (Some h) = taken_same w (verdict w.walk h.first h.count h.entries) h.entries

asked : (w : Network) (pending : Option Pending) → Follows w (asks w pending) (beginning w pending)
asked w (Some p) = nothing w w refl refl
asked w None = (refl, device-append w.packets _)

gone_on : (w : Network) (p : Pending) (b : Bool) → nat_lt p.repeats w.transactions.retries ≡ b →
    ((if b then repeats w p else gives_up w).transactions
    ≡ (if b then record w.transactions { pending = Some (record p { repeats = p.repeats + 1 }) } else closed w.transactions))
    × (to_device (if b then repeats w p else gives_up w).packets ≡ to_device w.packets ++ ((if b then p.request ∷ [] else []) ++ []))
gone_on w p true is = (refl, device-append w.packets _)
gone_on w p false is = (refl, sym (append-nil (to_device w.packets)))

timed : (w : Network) (pending : Option Pending) →
    ((times_out w pending).transactions ≡ timed_out w.transactions pending)
    × (to_device (times_out w pending).packets ≡ to_device w.packets ++ (sent_again w.transactions.retries pending ++ []))
timed w None = (refl, sym (append-nil (to_device w.packets)))
timed w (Some p) = gone_on w p (nat_lt p.repeats w.transactions.retries) refl

replied : (packets : List Packet) (transaction : ℕ) (reply : Option Reply) → to_device (reply_sent packets transaction reply) ≡ to_device packets
replied packets transaction None = refl
replied packets transaction (Some reply) = device-append packets _ ∙ append-nil (to_device packets)

received : (w : Network) (octets : List ℕ) (b : Bool) → is_awaited w.transactions.pending octets ≡ b →
    let new : Network = if b then hears (closes w) (heard_in w.walk.log (answer_in (apdu_in octets))) else w in
    (new.transactions ≡ (if b then closed w.transactions else w.transactions)) × (new.packets ≡ w.packets)
received w octets true is = heard_same (closes w) (heard_in w.walk.log (answer_in (apdu_in octets)))
received w octets false is = (refl, refl)

arrived : (w : Network) (transaction : ℕ) (to : Side) (octets : List ℕ) → Follows w (arrives w transaction to octets) (coming to octets)
arrived w transaction Device octets = nothing w (arrives w transaction Device octets) refl (replied w.packets transaction (answer w.device octets).0)
arrived w transaction Client octets =
    let r = received w octets (is_awaited w.transactions.pending octets) refl in
    (r.0, ap to_device r.1 ∙ sym (append-nil (to_device w.packets)))

came : (w : Network) (o : Option Packet) → Follows w (delivers w o) (delivering w o)
came w None = nothing w w refl refl
came w (Some p) = by (is_young w p.transaction)
  where
    by : (b : Bool) → Follows w (if b then arrives w p.transaction p.to p.datagram else w) (if b then coming p.to p.datagram else [])
    by true = arrived w p.transaction p.to p.datagram
    by false = nothing w w refl refl

one : (w : Network) (e : WorldEvent) → Follows w (happens w e) (client_events w e)
one w Ask = asked w w.transactions.pending
one w (Deliver k) = came w (slice_get w.packets k)
one w Timeout = timed w w.transactions.pending
one w (Sample instance) = nothing w (happens w (Sample instance)) refl refl
one w (Advance moment) = nothing w (happens w (Advance moment)) refl refl
one w (Handle octets) = nothing w (happens w (Handle octets)) refl refl

-- ---- events one after the other

pub runs_the_client : RunsTheClient
runs_the_client = λ w es. all w es
  where
    all : (w : Network) (es : List WorldEvent) → Follows w (happens_all w es) (client_events_all w es)
    all w [] = nothing w w refl refl
    all w (e ∷ es) =
        let first = one w e in
        let rest = all (happens w e) es in
        let xs : List ClientEvent = client_events w e in
        let ys : List ClientEvent = client_events_all (happens w e) es in (
          rest.0 ∙ ap (λ t. after_events t ys) first.0 ∙ sym (after-append w.transactions xs ys),
          rest.1 ∙ ap (λ l. l ++ sent_of (happens w e).transactions ys) first.1
              ∙ append_assoc (to_device w.packets) (sent_of w.transactions xs) (sent_of (happens w e).transactions ys)
              ∙ ap (λ t. to_device w.packets ++ (sent_of w.transactions xs ++ sent_of t ys)) first.0
              ∙ ap (λ l. to_device w.packets ++ l) (sym (sent-append w.transactions xs ys)),
        )
