-- Each packet of a network was there at the beginning, or an event put it there.
use Rattle.std.proofs.Common.{◌≡◌, ◌⊎◌, inl, inr, ◌+◌, ℕ, Bool, true, false, ◌&&◌, nat_lt, if◌then◌else◌, Option, Some, None, List, [], ◌∷◌, ◌++◌, length, slice_get, refl, sym, ap, subst, ◌∙◌}
use Rattle.std.proofs.lemmas.Bool.{and_parts}
use Rattle.bac_wire.specs.Primitive.{Id}
use Rattle.bac_device.specs.declared.reply.Reply.{Reply}
use Rattle.bac_device.specs.Answer.{answer}
use Rattle.bac_objects.specs.State.{State}
use Rattle.bac_link.specs.Delivery.{History}
use Rattle.bac_memory_link.specs.Events.{datagram_in}
use Rattle.bac_link.specs.Datagrams.{answer_in, apdu_in}
use Rattle.bac_link.specs.Client.{sent_again}
use Rattle.bac_link.specs.Transactions.{is_awaited}
use Rattle.bac_link.specs.declared.transactions.Pending.{Pending}
use Rattle.bac_world.specs.declared.event.WorldEvent.{WorldEvent}
use Rattle.bac_world.specs.declared.event.WorldEvent.TheVariants.{Ask, Deliver, Timeout, Sample, Advance, Handle}
use Rattle.bac_world.specs.declared.packet.Packet.{Packet}
use Rattle.bac_world.specs.declared.packet.Side.{Side}
use Rattle.bac_world.specs.declared.packet.Side.TheVariants.{Device, Client}
use Rattle.bac_world.specs.Machine.{beginning, client_events, sent_of}
use Rattle.bac_world.specs.Network.{Network, arrives, asks, closes, delivers, gives_up, happens, happens_all, heard_in, hears, is_answered, is_delivered, is_young, moves, repeats, reply_sent, times_out}
use Rattle.bac_world.specs.Runs.{Run}
use Rattle.bac_world.specs.Sources.{IsReplyTo, PacketsWerePut, Puts, WasAnswered, WasPut}
use Rattle.bac_world.proofs.Keeps.{Inv}
use Rattle.bac_world.proofs.Lasts.{get_before, get_push}
use Rattle.bac_world.proofs.Machine.{heard_same}
use Rattle.bac_world.proofs.Packets.{Belongs, is_right}

-- ---- one event

-- what it puts, by what the client sends at it and how many transactions were begun after it
abbrev PutsOf : Network → WorldEvent → List (List ℕ) → ℕ → ℕ → Side → List ℕ → Type 0
PutsOf w e sends begun transaction Device octets = (sends ≡ octets ∷ []) × (transaction ≡ begun)
PutsOf w e sends begun transaction Client octets = IsReplyTo w e transaction octets

-- a packet of the network after it was there before, or was put there by it
abbrev Sourced : Network → WorldEvent → Network → List (List ℕ) → ℕ → Packet → Type 0
Sourced w e new sends k p =
    slice_get new.packets k ≡ Some p →
    (slice_get w.packets k ≡ Some p) ⊎ ((k ≡ length w.packets) × PutsOf w e sends new.begun p.transaction p.to p.datagram)

abbrev packet : ℕ → Side → List ℕ → Packet
packet j to octets = record { transaction = j; to = to; datagram = octets }

-- one packet more
pushed : (w : Network) (e : WorldEvent) (sends : List (List ℕ)) (begun k : ℕ) (p x : Packet) → slice_get (w.packets ++ x ∷ []) k ≡ Some p →
    PutsOf w e sends begun x.transaction x.to x.datagram →
    (slice_get w.packets k ≡ Some p) ⊎ ((k ≡ length w.packets) × PutsOf w e sends begun p.transaction p.to p.datagram)
pushed w e sends begun k p x at puts =
    let P : Packet → Type 0 = λ q. PutsOf w e sends begun q.transaction q.to q.datagram in
    elim (get_push w.packets x k p at) [
      | inl old ↦ inl old
      | inr new ↦ inr (new.0, subst P (sym new.1) puts)
    ]

-- none more
kept : (w : Network) (e : WorldEvent) (new : Network) (sends : List (List ℕ)) (k : ℕ) (p : Packet) → new.packets ≡ w.packets → Sourced w e new sends k p
kept w e new sends k p same at = inl (ap (λ (l : List Packet). slice_get l k) (sym same) ∙ at)

asked : (w : Network) (o : Option Pending) (k : ℕ) (p : Packet) → Sourced w Ask (asks w o) (sent_of w.transactions (beginning w o)) k p
asked w None k p at = pushed w Ask _ (w.begun + 1) k p (packet (w.begun + 1) Device _) at (refl, refl)
asked w (Some q) k p at = inl at

gone_on : (w : Network) (o : Pending) (b : Bool) (k : ℕ) (p : Packet) →
    Sourced w Timeout (if b then repeats w o else gives_up w) ((if b then o.request ∷ [] else []) ++ []) k p
gone_on w o true k p at = pushed w Timeout _ w.begun k p (packet w.begun Device o.request) at (refl, refl)
gone_on w o false k p at = inl at

timed : (w : Network) (o : Option Pending) (k : ℕ) (p : Packet) → Sourced w Timeout (times_out w o) (sent_again w.transactions.retries o ++ []) k p
timed w None k p at = inl at
timed w (Some o) k p at = gone_on w o (nat_lt o.repeats w.transactions.retries) k p at

received : (w : Network) (e : WorldEvent) (octets : List ℕ) (b : Bool) (sends : List (List ℕ)) (k : ℕ) (p : Packet) →
    Sourced w e (if b then hears (closes w) (heard_in w.walk.log (answer_in (apdu_in octets))) else w) sends k p
received w e octets true sends k p at =
    kept w e (hears (closes w) (heard_in w.walk.log (answer_in (apdu_in octets)))) sends k p (heard_same (closes w) (heard_in w.walk.log (answer_in (apdu_in octets)))).1 at
received w e octets false sends k p at = inl at

module _ (w : Network) (i : ℕ) (sends : List (List ℕ)) (k : ℕ) (p : Packet) where
  replied : (j : ℕ) (octets : List ℕ) (r : Option Reply) → slice_get w.packets i ≡ Some (packet j Device octets) → is_young w j ≡ true →
      (answer w.device octets).0 ≡ r → slice_get (reply_sent w.packets j r) k ≡ Some p →
      (slice_get w.packets k ≡ Some p) ⊎ ((k ≡ length w.packets) × PutsOf w (Deliver i) sends w.begun p.transaction p.to p.datagram)
  replied j octets None here young is at = inl at
  replied j octets (Some reply) here young is at =
      pushed w (Deliver i) sends w.begun k p (packet j Client reply.datagram) at
      (i, packet j Device octets, refl, here, refl, refl, young, ap datagram_in is)

  arrived : (j : ℕ) (to : Side) (octets : List ℕ) → slice_get w.packets i ≡ Some (packet j to octets) → is_young w j ≡ true →
      Sourced w (Deliver i) (arrives w j to octets) sends k p
  arrived j Device octets here young at = replied j octets (answer w.device octets).0 here young refl at
  arrived j Client octets here young at = received w (Deliver i) octets (is_awaited w.transactions.pending octets) sends k p at

  young_or_not : (q : Packet) (b : Bool) → slice_get w.packets i ≡ Some q → is_young w q.transaction ≡ b →
      Sourced w (Deliver i) (if b then arrives w q.transaction q.to q.datagram else w) sends k p
  young_or_not q true here young at = arrived q.transaction q.to q.datagram here young at
  young_or_not q false here young at = inl at

  delivered : (o : Option Packet) → slice_get w.packets i ≡ o → Sourced w (Deliver i) (delivers w o) sends k p
  delivered None here at = inl at
  delivered (Some q) here at = young_or_not q (is_young w q.transaction) here refl at

-- an event of the code puts what its part of the machine puts
by_side : (w : Network) (e : WorldEvent) (j : ℕ) (to : Side) (octets : List ℕ) → PutsOf w e (sent_of w.transactions (client_events w e)) (happens w e).begun j to octets →
    Puts w e j to octets
by_side w e j Device octets puts = puts
by_side w e j Client octets puts = puts

any_event : (w : Network) (e : WorldEvent) (k : ℕ) (p : Packet) → Sourced w e (happens w e) (sent_of w.transactions (client_events w e)) k p
any_event w Ask k p at = asked w w.transactions.pending k p at
any_event w (Deliver i) k p at = delivered w i (sent_of w.transactions (client_events w (Deliver i))) k p (slice_get w.packets i) refl at
any_event w Timeout k p at = timed w w.transactions.pending k p at
any_event w (Sample instance) k p at = inl at
any_event w (Advance moment) k p at = inl at
any_event w (Handle octets) k p at = inl at

-- ---- events one after the other

pub packets_were_put : PacketsWerePut
packets_were_put w [] k p at = inl at
packets_were_put w (e ∷ es) k p at = elim (packets_were_put (happens w e) es k p at) [
  | inl old ↦ elim (any_event w e k p old) [
    | inl older ↦ inl older
    | inr new ↦ inr ([], e, es, refl, sym new.0, by_side w e p.transaction p.to p.datagram new.1)
  ]
  | inr put ↦ inr (e ∷ put.0, put.1, put.2, ap (λ (l : List WorldEvent). e ∷ l) put.3, put.4, put.5)
]

-- ---- packets stay

abbrev Grows : Network → Network → Type 0
Grows w new = (k : ℕ) (p : Packet) → slice_get w.packets k ≡ Some p → slice_get new.packets k ≡ Some p

same_packets : (w new : Network) → new.packets ≡ w.packets → Grows w new
same_packets w new same k p at = ap (λ (l : List Packet). slice_get l k) same ∙ at

asked_grows : (w : Network) (o : Option Pending) → Grows w (asks w o)
asked_grows w None k p at = get_before w.packets (packet (w.begun + 1) Device _ ∷ []) k p at
asked_grows w (Some q) k p at = at

gone_on_grows : (w : Network) (o : Pending) (b : Bool) → Grows w (if b then repeats w o else gives_up w)
gone_on_grows w o true k p at = get_before w.packets (packet w.begun Device o.request ∷ []) k p at
gone_on_grows w o false k p at = at

timed_grows : (w : Network) (o : Option Pending) → Grows w (times_out w o)
timed_grows w None k p at = at
timed_grows w (Some o) k p at = gone_on_grows w o (nat_lt o.repeats w.transactions.retries) k p at

received_grows : (w : Network) (octets : List ℕ) (b : Bool) → Grows w (if b then hears (closes w) (heard_in w.walk.log (answer_in (apdu_in octets))) else w)
received_grows w octets true k p at =
    let heard = heard_in w.walk.log (answer_in (apdu_in octets)) in
    same_packets w (hears (closes w) heard) (heard_same (closes w) heard).1 k p at
received_grows w octets false k p at = at

replied_grows : (packets : List Packet) (j : ℕ) (r : Option Reply) (k : ℕ) (p : Packet) → slice_get packets k ≡ Some p → slice_get (reply_sent packets j r) k ≡ Some p
replied_grows packets j None k p at = at
replied_grows packets j (Some reply) k p at = get_before packets (packet j Client reply.datagram ∷ []) k p at

arrived_grows : (w : Network) (j : ℕ) (to : Side) (octets : List ℕ) → Grows w (arrives w j to octets)
arrived_grows w j Device octets k p at = replied_grows w.packets j (answer w.device octets).0 k p at
arrived_grows w j Client octets k p at = received_grows w octets (is_awaited w.transactions.pending octets) k p at

young_grows : (w : Network) (q : Packet) (b : Bool) → Grows w (if b then arrives w q.transaction q.to q.datagram else w)
young_grows w q true k p at = arrived_grows w q.transaction q.to q.datagram k p at
young_grows w q false k p at = at

delivered_grows : (w : Network) (o : Option Packet) → Grows w (delivers w o)
delivered_grows w None k p at = at
delivered_grows w (Some q) k p at = young_grows w q (is_young w q.transaction) k p at

grows : (w : Network) (e : WorldEvent) → Grows w (happens w e)
grows w Ask k p at = asked_grows w w.transactions.pending k p at
grows w (Deliver i) k p at = delivered_grows w (slice_get w.packets i) k p at
grows w Timeout k p at = timed_grows w w.transactions.pending k p at
grows w (Sample instance) k p at = at
grows w (Advance moment) k p at = at
grows w (Handle octets) k p at = at

grows_all : (w : Network) (es : List WorldEvent) → Grows w (happens_all w es)
grows_all w [] k p at = at
grows_all w (e ∷ es) k p at = grows_all (happens w e) es k p (grows w e k p at)

joined : (w : Network) (xs ys : List WorldEvent) → happens_all w (xs ++ ys) ≡ happens_all (happens_all w xs) ys
joined w [] ys = refl
joined w (x ∷ xs) ys = joined (happens w x) xs ys

-- ---- what the client takes

reply_of : (w : Network) (e : WorldEvent) (j : ℕ) (to : Side) (octets : List ℕ) → to ≡ Client → Puts w e j to octets → IsReplyTo w e j octets
reply_of w e j Device octets side puts = absurd (cc)
reply_of w e j Client octets side puts = puts

own_request : (devices : List State) (began : ℕ) (request : List ℕ) (to : Side) (octets : List ℕ) → to ≡ Device → Belongs devices began request to octets → octets ≡ request
own_request devices began request Device octets side b = b
own_request devices began request Client octets side b = absurd (cc)

none_there : (packets : List Packet) (k : ℕ) (p : Packet) → packets ≡ [] → slice_get packets k ≡ Some p → ⊥
none_there [] k p none at = cc
none_there (q ∷ packets) k p none at = cc

put_new : (w : Network) (es : List WorldEvent) (k : ℕ) (p : Packet) → w.packets ≡ [] → slice_get (happens_all w es).packets k ≡ Some p → WasPut w es k p
put_new w es k p new at = elim (packets_were_put w es k p at) [
  | inl old ↦ absurd (none_there w.packets k p new old)
  | inr put ↦ put
]

module _ (rounds : ℕ) (near : Type 0) (H : History) (fresh : Bool) (s : ℕ) (log : Id) (run : Run) where
  -- the pending request, of which a packet that is taken is one
  opened_at : (asked : Pending) (k j : ℕ) (to : Side) (octets : List ℕ) → Inv rounds near H fresh s log run →
      slice_get run.network.packets k ≡ Some (packet j to octets) → to ≡ Client → run.network.transactions.pending ≡ Some asked →
      (is_young run.network j && is_answered run.network to octets) ≡ true →
      (j ≡ run.network.begun)
      × ((i : ℕ) (q : Packet) → slice_get run.network.packets i ≡ Some q → q.transaction ≡ run.network.begun → q.to ≡ Device → q.datagram ≡ asked.request)
  opened_at asked k j Device octets i at side is taken = absurd (cc)
  opened_at asked k j Client octets i at side is taken =
      let w = run.network in
      let both = and_parts (is_young w j) (is_answered w Client octets) taken in
      let awaited : is_awaited (Some asked) octets ≡ true = ap (λ o. is_awaited o octets) (sym is) ∙ both.1 in
      let right = is_right log run.devices run.began w.packets w.begun w.transactions w.walk asked k j octets i.packets is at both.0 awaited in
      (right.2, λ n q here of to. own_request run.devices run.began asked.request q.to q.datagram to (right.0.belong n q here of))

  pub was_answered : (w : Network) (es : List WorldEvent) (k : ℕ) → w.packets ≡ [] → run.network ≡ happens_all w es →
      Inv rounds near H fresh s log run → WasAnswered w es k
  was_answered w es k new is i p asked at side pending taken =
      let R : Network → Type 0 = λ x. slice_get x.packets k ≡ Some p in
      let S : Network → Type 0 = λ x. x.transactions.pending ≡ Some asked in
      let T : Network → Type 0 = λ x. moves x (Deliver k) ≡ true in
      let D : Option Packet → Type 0 = λ o. is_delivered run.network o ≡ true in
      let here : slice_get run.network.packets k ≡ Some p = subst R (sym is) at in
      let own = opened_at asked k p.transaction p.to p.datagram i here side (subst S (sym is) pending) (subst D here (subst T (sym is) taken)) in
      let put = put_new w es k p new at in
      let mid = happens_all w put.0 in
      let reply = reply_of mid put.1 p.transaction p.to p.datagram side put.5 in
      let question = reply.1 in
      let U : Network → Type 0 = λ x. slice_get x.packets reply.0 ≡ Some question in
      let later : happens_all mid (put.1 ∷ put.2) ≡ run.network =
      sym (joined w put.0 (put.1 ∷ put.2)) ∙ ap (λ l. happens_all w l) (sym put.3) ∙ sym is in
      let stays : slice_get run.network.packets reply.0 ≡ Some question = subst U later (grows_all mid (put.1 ∷ put.2) reply.0 question reply.3) in
      let request : question.datagram ≡ asked.request = own.1 reply.0 question stays (reply.5 ∙ own.0) reply.4 in (
        put.0,
        reply.0,
        put.2,
        question,
        put.3 ∙ ap (λ (e : WorldEvent). put.0 ++ e ∷ put.2) reply.2,
        reply.3,
        reply.4,
        request,
        put_new w put.0 reply.0 question new reply.3,
        ap (λ r. datagram_in (answer mid.device r).0) (sym request) ∙ reply.7,
        put.4,
      )
