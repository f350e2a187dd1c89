-- What every event keeps of the packets: each is known by its invoke ID, and those of the open request are its octets and
-- what a device answered to them.
use Rattle.std.proofs.Common.{◌≡◌, ℕ, true, false, ◌%◌, ◌+◌, ◌≤◌, nat_lt, List, [], ◌∷◌, ◌++◌, length, slice_get, Option, Some, None, refl, sym, ap, subst, ◌∙◌, arith, inl, inr}
use Rattle.std.proofs.lemmas.Bool.{ltb-true}
use Rattle.std.proofs.lemmas.List.{length-append}
use Rattle.bac_wire.specs.Canon.{IsValid}
use Rattle.bac_wire.specs.Primitive.{Id, Object}
use Rattle.bac_apdu.specs.Apdu.{Complex}
use Rattle.bac_apdu.specs.Npdu.{Place as Far}
use Rattle.bac_apdu.specs.Service.Extent.{IsExtent}
use Rattle.bac_apdu.specs.declared.service.extent.Extent.{Extent}
use Rattle.bac_log.specs.Ack.{read_range_service}
use Rattle.bac_objects.specs.State.{State}
use Rattle.bac_device.specs.Answer.{answer}
use Rattle.bac_link.specs.Datagrams.{message_in}
use Rattle.bac_link.specs.Delivery.{History}
use Rattle.bac_link.specs.Links.{IsQuestion, question}
use Rattle.bac_link.specs.Path.{towards}
use Rattle.bac_link.specs.Requests.{next_invoke, request_octets}
use Rattle.bac_link.specs.Transactions.{begun_with, closed, is_awaited}
use Rattle.bac_link.specs.declared.transactions.Pending.{Pending}
use Rattle.bac_link.specs.declared.transactions.Transactions.{Transactions}
use Rattle.bac_walk.specs.Place.{WalkPlace}
use Rattle.bac_walk.specs.Walks as walks
use Rattle.bac_memory_link.specs.Events.{datagram_in}
use Rattle.bac_world.specs.declared.packet.Packet.{Packet}
use Rattle.bac_world.specs.declared.packet.Side.{Side}
use Rattle.bac_world.specs.declared.packet.Side.TheVariants.{Device, Client}
use Rattle.bac_world.specs.Network.{question_of, sent}
use Rattle.bac_world.proofs.Answered.{answered, is_ack, reply_text, same_invoke}
use Rattle.bac_world.proofs.Grows.{mod_close}
use Rattle.bac_world.proofs.Lasts.{InHistory, get_before, get_last, get_push}

-- ---- what a packet is

-- a question under the invoke ID of its transaction, or an ACK with it
abbrev pub IsKnown : Id → ℕ → Side → List ℕ → Type 0
IsKnown log j Device octets = (extent : Extent) × IsQuestion log extent (towards None) (j % 256) octets
IsKnown log j Client octets = (parameters : List ℕ) × (message_in octets ≡ Some (towards None, Complex false (j % 256) read_range_service parameters))

-- what a device answered to a request, after so many answers
abbrev pub IsReplied : List State → ℕ → List ℕ → List ℕ → Type 0
IsReplied devices began request octets =
    (p : ℕ) × (d : State) × (began ≤ p) × (slice_get devices p ≡ Some d) × (datagram_in (answer d request).0 ≡ Some octets)

-- the open request, or that
abbrev pub Belongs : List State → ℕ → List ℕ → Side → List ℕ → Type 0
Belongs devices began request Device octets = octets ≡ request
Belongs devices began request Client octets = IsReplied devices began request octets

-- ---- the open request

pub record IsOpen (log : Id) (devices : List State) (began : ℕ) (packets : List Packet) (begun : ℕ) (walk : WalkPlace) (request : List ℕ) : Type 0 where
  pub asks : IsQuestion log (walks.question_of walk) (towards None) (begun % 256) request
  pub belong : (k : ℕ) (p : Packet) → slice_get packets k ≡ Some p → p.transaction ≡ begun → Belongs devices began request p.to p.datagram

abbrev pub OpenPart : Id → List State → ℕ → List Packet → ℕ → WalkPlace → Option Pending → Type 0
OpenPart log devices began packets begun walk None = Unit {0}
OpenPart log devices began packets begun walk (Some asked) = IsOpen log devices began packets begun walk asked.request

pub record PacketPart (log : Id) (devices : List State) (began : ℕ) (packets : List Packet) (begun : ℕ) (transactions : Transactions) (walk : WalkPlace) : Type 0 where
  pub route : transactions.route ≡ None
  pub invoke : transactions.invoke ≡ begun % 256
  pub begins : began ≤ length devices
  pub young : (k : ℕ) (p : Packet) → slice_get packets k ≡ Some p → p.transaction ≤ begun
  pub known : (k : ℕ) (p : Packet) → slice_get packets k ≡ Some p → IsKnown log p.transaction p.to p.datagram
  pub opened : OpenPart log devices began packets begun walk transactions.pending

-- ---- a packet more

abbrev packet : ℕ → Side → List ℕ → Packet
packet j to octets = record { transaction = j; to = to; datagram = octets }

-- a question begins
pub packets_begun : (log : Id) (devices : List State) (began : ℕ) (packets : List Packet) (begun : ℕ) (tx : Transactions) (walk : WalkPlace) →
    walk.log ≡ log → IsValid (Object log) → IsExtent (walks.question_of walk) → PacketPart log devices began packets begun tx walk →
    PacketPart log devices (length devices) (sent packets (begun + 1) Device (request_octets (towards tx.route) (next_invoke tx.invoke) (question_of walk))) (begun + 1)
    (begun_with (question_of walk) tx) walk
packets_begun log devices began packets begun tx walk own valid ranged a =
    let octets : List ℕ = request_octets (towards tx.route) (next_invoke tx.invoke) (question_of walk) in
    let x : Packet = packet (begun + 1) Device octets in
    let invoke : next_invoke tx.invoke ≡ (begun + 1) % 256 = omega (arith, a.invoke) in
    let asks : IsQuestion log (walks.question_of walk) (towards None) ((begun + 1) % 256) octets = (
      ap (λ (way : Option Far). request_octets (towards way) (next_invoke tx.invoke) (question_of walk)) a.route
          ∙ ap (λ n. request_octets (towards None) n (question_of walk)) invoke
          ∙ ap (λ (i : Id). request_octets (towards None) ((begun + 1) % 256) (question i (walks.question_of walk))) own,
      ranged,
      valid,
      (tt, tt),
    ) in
    let P : Packet → Type 0 = λ q. q.transaction ≤ begun + 1 in
    let Q : Packet → Type 0 = λ q. IsKnown log q.transaction q.to q.datagram in
    let R : Packet → Type 0 = λ q. Belongs devices (length devices) octets q.to q.datagram in
    record {
      route = a.route;
      invoke = invoke;
      begins = omega arith;
      young = λ k p is. elim (get_push packets x k p is) [
        | inl old ↦ omega (arith, a.young k p old)
        | inr new ↦ subst P (sym new.1) (omega arith)
      ];
      known = λ k p is. elim (get_push packets x k p is) [
        | inl old ↦ a.known k p old
        | inr new ↦ subst Q (sym new.1) (walks.question_of walk, asks)
      ];
      opened = record {
        asks = asks;
        belong = λ k p is of. elim (get_push packets x k p is) [
          | inl old ↦ absurd (omega (arith, a.young k p old, of))
          | inr new ↦ subst R (sym new.1) refl
        ];
      };
    }

-- its octets are sent again
pub packets_again : (log : Id) (devices : List State) (began : ℕ) (packets : List Packet) (begun : ℕ) (tx : Transactions) (walk : WalkPlace) (asked : Pending) (count : ℕ) →
    tx.pending ≡ Some asked → PacketPart log devices began packets begun tx walk →
    PacketPart log devices began (sent packets begun Device asked.request) begun (record tx { pending = Some (record asked { repeats = count }) }) walk
packets_again log devices began packets begun tx walk asked count is a =
    let x : Packet = packet begun Device asked.request in
    let S : Option Pending → Type 0 = λ o. OpenPart log devices began packets begun walk o in
    let here : IsOpen log devices began packets begun walk asked.request = subst S is a.opened in
    let P : Packet → Type 0 = λ q. q.transaction ≤ begun in
    let Q : Packet → Type 0 = λ q. IsKnown log q.transaction q.to q.datagram in
    let R : Packet → Type 0 = λ q. Belongs devices began asked.request q.to q.datagram in
    record {
      route = a.route;
      invoke = a.invoke;
      begins = a.begins;
      young = λ k p at. elim (get_push packets x k p at) [
        | inl old ↦ a.young k p old
        | inr new ↦ subst P (sym new.1) (omega arith)
      ];
      known = λ k p at. elim (get_push packets x k p at) [
        | inl old ↦ a.known k p old
        | inr new ↦ subst Q (sym new.1) (walks.question_of walk, here.asks)
      ];
      opened = record {
        asks = here.asks;
        belong = λ k p at of. elim (get_push packets x k p at) [
          | inl old ↦ here.belong k p old of
          | inr new ↦ subst R (sym new.1) refl
        ];
      };
    }

-- nothing is open any more
pub packets_closed : (log : Id) (devices : List State) (began : ℕ) (packets : List Packet) (begun : ℕ) (tx : Transactions) (walk after : WalkPlace) →
    PacketPart log devices began packets begun tx walk → PacketPart log devices began packets begun (closed tx) after
packets_closed log devices began packets begun tx walk after a =
    record { route = a.route; invoke = a.invoke; begins = a.begins; young = a.young; known = a.known; opened = tt }

-- ---- a device answers

replied_more : (devices : List State) (d : State) (began : ℕ) (request octets : List ℕ) → IsReplied devices began request octets → IsReplied (devices ++ d ∷ []) began request octets
replied_more devices d began request octets r = (r.0, r.1, r.2, get_before devices (d ∷ []) r.0 r.1 r.3, r.4)

belongs_more : (devices : List State) (d : State) (began : ℕ) (request : List ℕ) (to : Side) (octets : List ℕ) → Belongs devices began request to octets →
    Belongs (devices ++ d ∷ []) began request to octets
belongs_more devices d began request Device octets b = b
belongs_more devices d began request Client octets b = replied_more devices d began request octets b

open_more : (log : Id) (devices : List State) (began : ℕ) (packets : List Packet) (begun : ℕ) (walk : WalkPlace) (pending : Option Pending) (d : State) (k j : ℕ) (octets text : List ℕ) →
    slice_get packets k ≡ Some (packet j Device octets) → datagram_in (answer d octets).0 ≡ Some text → began ≤ length devices →
    OpenPart log devices began packets begun walk pending → OpenPart log (devices ++ d ∷ []) began (sent packets j Client text) begun walk pending
open_more log devices began packets begun walk None d k j octets text at said begins o = tt
open_more log devices began packets begun walk (Some asked) d k j octets text at said begins o =
    let x : Packet = packet j Client text in
    let R : Packet → Type 0 = λ q. q.transaction ≡ begun → Belongs (devices ++ d ∷ []) began asked.request q.to q.datagram in
    let S : List ℕ → Type 0 = λ r. IsReplied (devices ++ d ∷ []) began r text in
    record {
      asks = o.asks;
      belong = λ i p is of. elim (get_push packets x i p is) [
        | inl old ↦ belongs_more devices d began asked.request p.to p.datagram (o.belong i p old of)
        | inr new ↦ subst R (sym new.1) (λ own. subst S (o.belong k (packet j Device octets) at own) (length devices, d, begins, get_last devices d, said)) of
      ];
    }

pub packets_answered : (rounds : ℕ) (H : History) (log : Id) (devices : List State) (began : ℕ) (packets : List Packet) (begun : ℕ) (tx : Transactions) (walk : WalkPlace)
    (d : State) (k j : ℕ) (octets : List ℕ) (extent : Extent) → log.kind ≡ 20 → InHistory rounds H log.instance d →
    slice_get packets k ≡ Some (packet j Device octets) → IsQuestion log extent (towards None) (j % 256) octets →
    PacketPart log devices began packets begun tx walk →
    PacketPart log (devices ++ d ∷ []) began (sent packets j Client (reply_text d log extent (j % 256))) begun tx walk
packets_answered rounds H log devices began packets begun tx walk d k j octets extent kind here at asks a =
    let text : List ℕ = reply_text d log extent (j % 256) in
    let x : Packet = packet j Client text in
    let said : datagram_in (answer d octets).0 ≡ Some text = ap (λ y. datagram_in y.0) (answered d log extent (j % 256) octets here.sound kind here.there asks) in
    let P : Packet → Type 0 = λ q. q.transaction ≤ begun in
    let Q : Packet → Type 0 = λ q. IsKnown log q.transaction q.to q.datagram in
    record {
      route = a.route;
      invoke = a.invoke;
      begins = omega (arith, a.begins, length-append devices (d ∷ []));
      young = λ i p is. elim (get_push packets x i p is) [
        | inl old ↦ a.young i p old
        | inr new ↦ subst P (sym new.1) (a.young k (packet j Device octets) at)
      ];
      known = λ i p is. elim (get_push packets x i p is) [
        | inl old ↦ a.known i p old
        | inr new ↦ subst Q (sym new.1) (is_ack rounds H d log extent (j % 256) kind here)
      ];
      opened = open_more log devices began packets begun walk tx.pending d k j octets text at said a.begins a.opened;
    }

-- ---- what the client takes for the answer to the open request is one

pub is_right : (log : Id) (devices : List State) (began : ℕ) (packets : List Packet) (begun : ℕ) (tx : Transactions) (walk : WalkPlace) (asked : Pending)
    (k j : ℕ) (octets : List ℕ) → PacketPart log devices began packets begun tx walk → tx.pending ≡ Some asked →
    slice_get packets k ≡ Some (packet j Client octets) → nat_lt begun (j + 256) ≡ true → is_awaited (Some asked) octets ≡ true →
    IsOpen log devices began packets begun walk asked.request × IsReplied devices began asked.request octets × (j ≡ begun)
is_right log devices began packets begun tx walk asked k j octets a is at young awaited =
    let S : Option Pending → Type 0 = λ o. OpenPart log devices began packets begun walk o in
    let here : IsOpen log devices began packets begun walk asked.request = subst S is a.opened in
    let known = a.known k (packet j Client octets) at in
    let invoke : begun % 256 ≡ j % 256 =
    same_invoke asked.request octets log (walks.question_of walk) (begun % 256) (j % 256) known.0 here.asks.0 known.1 awaited in
    let own : j ≡ begun = mod_close j begun (a.young k (packet j Client octets) at) (ltb-true begun (j + 256) young) (sym invoke) in
    (here, here.belong k (packet j Client octets) at own, own)
