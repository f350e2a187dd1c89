-- What an exchange over a port is: a run of the client's events, in which all that the client sends goes to the peer,
-- and what comes is received, in order.
use Rattle.std.specs.Prelude.{◌≡◌, ℕ, ◌⊎◌, List, [], ◌∷◌, Some, None, Result, Ok, Err}
use Rattle.bac_link.specs.declared.exchanges.ExchangeFault.{ExchangeFault}
use Rattle.bac_link.specs.declared.exchanges.ExchangeFault.TheVariants as fault
use Rattle.bac_link.specs.declared.exchanges.Verdict.TheVariants.{Ack, Refused, BadReply}
use Rattle.bac_link.specs.declared.request.Request.{Request}
use Rattle.bac_link.specs.declared.transactions.Transactions.{Transactions}
use Rattle.bac_link.specs.Client.{ClientEvent, Begin, Come, TimeOut, after_event, after_events, sent_at, taken_of}
use Rattle.bac_link.specs.Datagrams.{apdu_in}
use Rattle.bac_link.specs.Exchanges.{Exchanges, verdict_of, next_way}
use Rattle.bac_link.specs.Transactions.{begun_with, closed}
use Rattle.bac_ports.specs.declared.port.Heard.{Heard}
use Rattle.bac_ports.specs.Asking.{Asks, to_peer}
use Rattle.bac_ports.specs.Port.{Receiving, Sending}

-- a receive that brought no datagram of the peer: it was refused, or what came is from another sender, or is too long
abbrev pub IsOfOthers : List ℕ → Receiving → Type 0
IsOfOthers peer (Err refused) = Unit {0}
IsOfOthers peer (Ok heard) = (heard.from ≡ peer → ⊥) ⊎ (heard.datagram ≡ None)

-- such receives, one after the other
abbrev pub Passes : {P : Type 0} → (P → Receiving → P → Type 0) → List ℕ → List Receiving → P → P → Type 0
Passes {P = P} receives peer [] old new = new ≡ old
Passes {P = P} receives peer (heard ∷ more) old new =
    (mid : P) × receives old heard mid × IsOfOthers peer heard × Passes receives peer more mid new

-- a datagram that comes to the client is one of the peer's
abbrev pub Arrives : {P : Type 0} → (P → Receiving → P → Type 0) → List ℕ → ClientEvent → P → P → Type 0
Arrives {P = P} receives peer (Begin r) old new = new ≡ old
Arrives {P = P} receives peer (Come octets) old new =
    (heard : Heard) × receives old (Ok heard) new × (heard.from ≡ peer) × (heard.datagram ≡ Some octets)
Arrives {P = P} receives peer TimeOut old new = new ≡ old

-- what the client sends goes to the peer, whether the port takes it or not
abbrev pub SendsAll : {P : Type 0} → (P → List ℕ → List ℕ → Sending → P → Type 0) →
    List ℕ → List (List ℕ) → P → P → Type 0
SendsAll {P = P} sends peer [] old new = new ≡ old
SendsAll {P = P} sends peer (octets ∷ more) old new =
    (sent : Sending) × (mid : P) × sends old octets peer sent mid × SendsAll sends peer more mid new

-- events of the client over a port, one after the other; before each, what comes of others is passed over
abbrev pub Runs : {P : Type 0} → (P → List ℕ → List ℕ → Sending → P → Type 0) → (P → Receiving → P → Type 0) →
    List ℕ → Transactions → List ClientEvent → P → P → Type 0
Runs {P = P} sends receives peer t [] old new = new ≡ old
Runs {P = P} sends receives peer t (e ∷ es) old new =
    (others : List Receiving) × (half : P) × (here : P) × (mid : P) × Passes receives peer others old half
    × Arrives receives peer e half here × SendsAll sends peer (sent_at t e) here mid
    × Runs sends receives peer (after_event t e) es mid new

-- what an exchange returns is the verdict on the one answer that the client took; Lost if it took none
abbrev pub IsTakenAs : Request → List (List ℕ) → Result (List ℕ) ExchangeFault → Type 0
IsTakenAs r taken (Ok datagram) = (taken ≡ datagram ∷ []) × (verdict_of r (apdu_in datagram) ≡ Ack)
IsTakenAs r taken (Err (fault.Refused refusal)) =
    (datagram : List ℕ) × (taken ≡ datagram ∷ []) × (verdict_of r (apdu_in datagram) ≡ Refused refusal)
IsTakenAs r taken (Err fault.BadReply) =
    (datagram : List ℕ) × (taken ≡ datagram ∷ []) × (verdict_of r (apdu_in datagram) ≡ BadReply)
IsTakenAs r taken (Err fault.Lost) = taken ≡ []
IsTakenAs r taken (Err fault.TooLong) = ⊥

-- An exchange over a port, by a link that says which port and which peer it has: the client begins the request, and
-- runs on until it has taken an answer or given up. What is sent and taken then is the client's, in that order.
abbrev pub ExchangesAreRuns : {P S : Type 0} → (P → List ℕ → List ℕ → Sending → P → Type 0) →
    (P → Receiving → P → Type 0) → (S → P) → (S → List ℕ) → Type 0
ExchangesAreRuns {P = P} {S = S} sends receives port peer =
    (t : Transactions) (r : Request) (old new : S) (result : Result (List ℕ) ExchangeFault) →
    (result ≡ Err fault.TooLong → ⊥) →
    Exchanges
    (λ a octets answer b. Asks sends receives (to_peer (peer a) octets) 16 (port a) answer (port b) × (peer b ≡ peer a))
    (next_way t) r old result new →
    (es : List ClientEvent) × Runs sends receives (peer old) t (Begin r ∷ es) (port old) (port new)
    × (after_events t (Begin r ∷ es) ≡ closed (begun_with r t)) × IsTakenAs r (taken_of t (Begin r ∷ es)) result
