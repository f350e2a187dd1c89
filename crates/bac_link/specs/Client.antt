-- The client's side of confirmed services as one machine (clause 5.4.4, without segments): what is sent, what comes,
-- and which answer is taken. An exchange over a port runs it, and so does a walk over a network.
use Rattle.std.specs.Prelude.{◌≡◌, ℕ, ◌+◌, ◌%◌, ◌<◌, ◌≤◌, nat_lt, true, if◌then◌else◌, List, [], ◌∷◌, ◌++◌, Option}
use Rattle.std.specs.Prelude.{Some, None}
use Rattle.bac_link.specs.declared.request.Request.{Request}
use Rattle.bac_link.specs.declared.transactions.Pending.{Pending}
use Rattle.bac_link.specs.declared.transactions.Received.{Received}
use Rattle.bac_link.specs.declared.transactions.Timeout.{Timeout}
use Rattle.bac_link.specs.declared.transactions.Transactions.{Transactions}
use Rattle.bac_link.specs.Datagrams.{answers_to}
use Rattle.bac_link.specs.Path.{Path, AreWays, towards}
use Rattle.bac_link.specs.Requests.{next_invoke, request_octets, IsTooLong}
use Rattle.bac_link.specs.Transactions.{begun_with, closed, is_awaited, Receives, TimesOut}

-- what happens at the client: it begins a request, a datagram comes, or no answer came in time
pub data ClientEvent : Type 0 where
  Begin : Request → ClientEvent
  Come : List ℕ → ClientEvent
  TimeOut : ClientEvent

-- ---- one event

-- no answer came in time: one repeat more, as long as repeats are left; after the last nothing is open
abbrev pub timed_out : Transactions → Option Pending → Transactions
timed_out t None = t
timed_out t (Some p) =
    if nat_lt p.repeats t.retries then record t { pending = Some (record p { repeats = p.repeats + 1 }) } else closed t

-- the client after an event: only the answer to the open request closes it
abbrev pub after_event : Transactions → ClientEvent → Transactions
after_event t (Begin r) = begun_with r t
after_event t (Come octets) = if is_awaited t.pending octets then closed t else t
after_event t TimeOut = timed_out t t.pending

-- the octets of the open request once more, as long as repeats are left
abbrev pub sent_again : ℕ → Option Pending → List (List ℕ)
sent_again retries None = []
sent_again retries (Some p) = if nat_lt p.repeats retries then p.request ∷ [] else []

-- what the client sends at an event
abbrev pub sent_at : Transactions → ClientEvent → List (List ℕ)
sent_at t (Begin r) = request_octets (towards t.route) (next_invoke t.invoke) r ∷ []
sent_at t (Come octets) = []
sent_at t TimeOut = sent_again t.retries t.pending

-- the answer that it takes at an event
abbrev pub taken_at : Transactions → ClientEvent → List (List ℕ)
taken_at t (Begin r) = []
taken_at t (Come octets) = if is_awaited t.pending octets then octets ∷ [] else []
taken_at t TimeOut = []

-- ---- events one after the other

-- the client after them
abbrev pub after_events : Transactions → List ClientEvent → Transactions
after_events t [] = t
after_events t (e ∷ es) = after_events (after_event t e) es

-- the answers that it takes at them
abbrev pub taken_of : Transactions → List ClientEvent → List (List ℕ)
taken_of t [] = []
taken_of t (e ∷ es) = taken_at t e ++ taken_of (after_event t e) es

-- ---- laws

-- `receive` and `timeout` are the machine's steps
abbrev pub CallsAreEvents : Type 0
CallsAreEvents =
    ((old new : Transactions) (datagram : List ℕ) (result : Received) → Receives old datagram result new →
    new ≡ after_event old (Come datagram))
    × ((old new : Transactions) (result : Timeout) → TimesOut old result new → new ≡ after_event old TimeOut)

-- Of fewer than 256 transactions in a row a datagram answers one at most, whatever they ask for and whichever way they
-- go: the invoke ID of the transaction of a number is that number modulo 256.
abbrev pub AnswersTellApart : Type 0
AnswersTellApart = (path way : Path) (r q : Request) (early late : ℕ) (datagram : List ℕ) →
    AreWays path → AreWays way → (IsTooLong r → ⊥) → (IsTooLong q → ⊥) → early ≤ late → late < early + 256 →
    answers_to (request_octets path (early % 256) r) datagram ≡ true →
    answers_to (request_octets way (late % 256) q) datagram ≡ true → early ≡ late
