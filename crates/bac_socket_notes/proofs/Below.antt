-- What is asked over ports of one kind, over those below them.
use Rattle.std.proofs.Common.{ℕ, zero, suc, List, Option, None, Some, Result, Ok, Err, ap}
use Rattle.bac_link.specs.declared.link.Lost.{Lost}
use Rattle.bac_ports.specs.Asking.{Awaits, IsHeard, IsSent, IsTaken, fitting, to_peer}
use Rattle.bac_ports.specs.Port.{Receiving, Sending}
use Rattle.bac_socket_notes.specs.Laws.{AsksAreBelow}

taken_below : {T P : Type 0} (below : T → P) (datagram : Option (List ℕ)) (port new : T) (result : Result (List ℕ) Lost) (more less : Type 0) → (more → less) →
    IsTaken datagram port result new more → IsTaken datagram (below port) result (below new) less
taken_below below None port new result more less goes is = goes is
taken_below below (Some datagram) port new result more less goes (is, same) = (is, ap below same)

heard_below : {T P : Type 0} (below : T → P) (peer request : List ℕ) (heard : Receiving) (port new : T) (result : Result (List ℕ) Lost) (more less : Type 0) → (more → less) →
    IsHeard peer request heard port result new more → IsHeard peer request heard (below port) result (below new) less
heard_below below peer request (Err fault) port new result more less goes (lost, same) = (lost, ap below same)
heard_below below peer request (Ok heard) port new result more less goes is = taken_below below (fitting peer request heard) port new result more less goes is

awaits_below : {T P : Type 0} (below : T → P) (receives : T → Receiving → T → Type 0) (receives_below : P → Receiving → P → Type 0) →
    ((a b : T) (heard : Receiving) → receives a heard b → receives_below (below a) heard (below b)) →
    (peer request : List ℕ) (limit : ℕ) (port new : T) (result : Result (List ℕ) Lost) →
    Awaits receives peer request limit port result new → Awaits receives_below peer request limit (below port) result (below new)
unfolding Awaits
awaits_below below receives receives_below each peer request zero port new result (lost, same) = (lost, ap below same)
awaits_below below receives receives_below each peer request (suc n) port new result (heard, mid, came, is) = (
  heard,
  below mid,
  each port mid heard came,
  heard_below below peer request heard mid new result (Awaits receives peer request n mid result new) (Awaits receives_below peer request n (below mid) result (below new))
      (awaits_below below receives receives_below each peer request n mid new result) is,
)

sent_below : {T P : Type 0} (below : T → P) (receives : T → Receiving → T → Type 0) (receives_below : P → Receiving → P → Type 0) →
    ((a b : T) (heard : Receiving) → receives a heard b → receives_below (below a) heard (below b)) →
    (peer request : List ℕ) (limit : ℕ) (sent : Sending) (port new : T) (result : Result (List ℕ) Lost) →
    IsSent receives (to_peer peer request) limit sent port result new → IsSent receives_below (to_peer peer request) limit sent (below port) result (below new)
sent_below below receives receives_below each peer request limit (Err fault) port new result (lost, same) = (lost, ap below same)
sent_below below receives receives_below each peer request limit (Ok done) port new result is =
    awaits_below below receives receives_below each peer request limit port new result is

pub asks_below : {T P : Type 0} (below : T → P) (sends : T → List ℕ → List ℕ → Sending → T → Type 0) (receives : T → Receiving → T → Type 0)
    (sends_below : P → List ℕ → List ℕ → Sending → P → Type 0) (receives_below : P → Receiving → P → Type 0) →
    ((a b : T) (octets to : List ℕ) (sent : Sending) → sends a octets to sent b → sends_below (below a) octets to sent (below b)) →
    ((a b : T) (heard : Receiving) → receives a heard b → receives_below (below a) heard (below b)) →
    AsksAreBelow below sends receives sends_below receives_below
asks_below below sends receives sends_below receives_below goes each = λ peer request limit old new result asks.
    let (sent, mid, is, rest) = asks in
    (sent, below mid, goes old mid request peer sent is, sent_below below receives receives_below each peer request limit sent mid new result rest)
