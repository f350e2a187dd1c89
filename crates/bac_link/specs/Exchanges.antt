-- An exchange: a request is sent until an answer comes, and what it then brings.
use Rattle.std.specs.Prelude.{◌≡◌, ℕ, zero, suc, ◌+◌, ◌≤◌, true, false, not, ◌&&◌, ◌==◌, if◌then◌else◌, Option, Some}
use Rattle.std.specs.Prelude.{None, Result, Ok, Err, List}
use Rattle.bac_apdu.specs.Apdu.{Apdu}
use Rattle.bac_apdu.specs.Apdu as apdu
use Rattle.bac_link.specs.declared.exchanges.ExchangeFault.{ExchangeFault}
use Rattle.bac_link.specs.declared.exchanges.ExchangeFault.TheVariants as fault
use Rattle.bac_link.specs.declared.exchanges.Refusal.TheVariants as refusal
use Rattle.bac_link.specs.declared.exchanges.Verdict.{Verdict}
use Rattle.bac_link.specs.declared.exchanges.Verdict.TheVariants.{Ack, Refused, BadReply}
use Rattle.bac_link.specs.declared.link.Lost.{Lost as Loss}
use Rattle.bac_link.specs.declared.request.Request.{Request}
use Rattle.bac_link.specs.declared.transactions.Transactions.{Transactions}
use Rattle.bac_link.specs.Datagrams.{answers_to, apdu_in}
use Rattle.bac_link.specs.Delivery.{Moment, later}
use Rattle.bac_link.specs.Links.{OurQuestion, IsReply, IsUnknown, RisesBy}
use Rattle.bac_link.specs.Path.{Path, towards}
use Rattle.bac_link.specs.Requests.{has_result, next_invoke, request_octets, service_of}
use Rattle.bac_link.specs.Transactions.{begun_with, closed}

-- What an answer is to its request (clause 5.4.4): the ACK of the request's service, which is a SimpleACK for a service
-- without a result and a whole ComplexACK for one with a result; a refusal; or nothing that belongs to the request.
abbrev pub verdict_of : Request → Option Apdu → Verdict
verdict_of r (Some (apdu.Simple invoke service)) =
    if not (has_result r) && service == service_of r then Ack else BadReply
verdict_of r (Some (apdu.Complex segmented invoke service parameters)) =
    if has_result r && (not segmented && service == service_of r) then Ack else BadReply
verdict_of r (Some (apdu.Error invoke service class code)) = Refused (refusal.Error class code)
verdict_of r (Some (apdu.Reject invoke reason)) = Refused (refusal.Reject reason)
verdict_of r (Some (apdu.Abort by_server invoke reason)) = Refused (refusal.Abort reason)
verdict_of r _ = BadReply

-- a datagram that answers the request, and this is the verdict on it
abbrev pub IsAnswer : Path → ℕ → Request → Verdict → List ℕ → Type 0
IsAnswer path invoke r verdict datagram =
    (answers_to (request_octets path invoke r) datagram ≡ true) × (verdict_of r (apdu_in datagram) ≡ verdict)

-- what is returned is the verdict on a datagram that came and answers the request
abbrev pub Concludes : Path → ℕ → Request → Result (List ℕ) ExchangeFault → Type 0
Concludes path invoke r (Ok datagram) = IsAnswer path invoke r Ack datagram
Concludes path invoke r (Err (fault.Refused refusal)) =
    (datagram : List ℕ) × IsAnswer path invoke r (Refused refusal) datagram
Concludes path invoke r (Err fault.BadReply) = (datagram : List ℕ) × IsAnswer path invoke r BadReply datagram
Concludes path invoke r (Err fault.Lost) = Unit {0}
Concludes path invoke r (Err fault.TooLong) = Unit {0}

-- ---- who asks, and how

-- what an ask of a link does: the link before it, the octets, what came, and the link after it
abbrev pub Ask : Type 0 → Type 1
Ask S = S → List ℕ → Result (List ℕ) Loss → S → Type 0

-- how a request goes: by a path, under an invoke ID, and so many times more as long as no answer comes (clause 5.4)
pub record Way : Type 0 where
  pub path : Path
  pub invoke : ℕ
  pub retries : ℕ

-- the three together
abbrev pub way_by : Path → ℕ → ℕ → Way
way_by path invoke retries = record { path = path; invoke = invoke; retries = retries }

-- the way of the next request of these transactions
abbrev pub next_way : Transactions → Way
next_way t = record { path = towards t.route; invoke = next_invoke t.invoke; retries = t.retries }

-- a link, and the transactions over it
pub record Client (S : Type 0) : Type 0 where
  pub link : S
  pub transactions : Transactions

-- the two together
abbrev pub client : {S : Type 0} → S → Transactions → Client S
client link transactions = record { link = link; transactions = transactions }

-- ---- over any link

-- a try that brought no answer: nothing came, or a datagram that doesn't answer the request
abbrev pub IsNoAnswer : List ℕ → Result (List ℕ) Loss → Type 0
IsNoAnswer octets (Ok datagram) = answers_to octets datagram ≡ false
IsNoAnswer octets (Err lost) = Unit {0}

-- so many tries, one after the other, each with the same octets, of which none brought an answer
abbrev pub Unanswered : {S : Type 0} → (S → List ℕ → Result (List ℕ) Loss → S → Type 0) → List ℕ → ℕ → S → S → Type 0
Unanswered {S = S} asks octets zero old new = new ≡ old
Unanswered {S = S} asks octets (suc n) old new =
    (mid : S) × (answer : Result (List ℕ) Loss) × Unanswered asks octets n old mid
    × asks mid octets answer new × IsNoAnswer octets answer

-- tries without an answer, at most as many as the way has retries, and then one that brought an answer with this
-- verdict
abbrev pub Answers : {S : Type 0} → Ask S → Way → Request → Verdict → S → List ℕ → S → Type 0
Answers {S = S} asks way r verdict old datagram new =
    (tries : ℕ) × (mid : S) × (tries ≤ way.retries)
    × Unanswered asks (request_octets way.path way.invoke r) tries old mid
    × asks mid (request_octets way.path way.invoke r) (Ok datagram) new
    × IsAnswer way.path way.invoke r verdict datagram

-- An exchange over any link: the request is asked until an answer comes, and as often again as its way says. Its
-- result is the verdict on that answer; Lost if no try brought one. Nothing is asked if the request doesn't fit.
abbrev pub Exchanges : {S : Type 0} → Ask S → Way → Request → S → Result (List ℕ) ExchangeFault → S → Type 0
Exchanges {S = S} asks way r old (Ok datagram) new =
    Answers asks way r Ack old datagram new
Exchanges {S = S} asks way r old (Err (fault.Refused refusal)) new =
    (datagram : List ℕ) × Answers asks way r (Refused refusal) old datagram new
Exchanges {S = S} asks way r old (Err fault.BadReply) new =
    (datagram : List ℕ) × Answers asks way r BadReply old datagram new
Exchanges {S = S} asks way r old (Err fault.Lost) new =
    Unanswered asks (request_octets way.path way.invoke r) (way.retries + 1) old new
Exchanges {S = S} asks way r old (Err fault.TooLong) new = new ≡ old

-- one more transaction was begun, and nothing is open; if the request doesn't fit, nothing changes
abbrev pub Leaves : Request → Transactions → Result (List ℕ) ExchangeFault → Transactions → Type 0
Leaves r old (Err fault.TooLong) new = new ≡ old
Leaves r old (Err fault.Lost) new = new ≡ closed (begun_with r old)
Leaves r old (Err fault.BadReply) new = new ≡ closed (begun_with r old)
Leaves r old (Err (fault.Refused refusal)) new = new ≡ closed (begun_with r old)
Leaves r old (Ok datagram) new = new ≡ closed (begun_with r old)

-- ---- over a link of ours

-- how many asks had failed before a call, and after it
pub record Failures : Type 0 where
  pub before : ℕ
  pub after : ℕ

-- that reply, or Lost if the count of failures rose by more than the retries, and nothing else
abbrev pub IsExchanged : (List Moment → Type 0) → OurQuestion → ℕ → Failures → Result (List ℕ) ExchangeFault → Type 0
IsExchanged stays q retries failures (Ok datagram) =
    ((invoke : ℕ) × IsReply q invoke datagram) × stays (later q.moments)
IsExchanged stays q retries failures (Err fault.Lost) =
    RisesBy (retries + 1) failures.before failures.after × stays q.moments
IsExchanged stays q retries failures (Err (fault.Refused refusal)) = ⊥
IsExchanged stays q retries failures (Err fault.BadReply) = ⊥
IsExchanged stays q retries failures (Err fault.TooLong) = ⊥

-- over a link that lacks the log: it is refused as unknown, or Lost likewise
abbrev pub IsExchangedOfNone : ℕ → ℕ → ℕ → Result (List ℕ) ExchangeFault → Type 0
IsExchangedOfNone retries old new (Ok datagram) = ⊥
IsExchangedOfNone retries old new (Err fault.Lost) = RisesBy (retries + 1) old new
IsExchangedOfNone retries old new (Err (fault.Refused (refusal.Error class code))) = (class ≡ 1) × (code ≡ 31)
IsExchangedOfNone retries old new (Err (fault.Refused (refusal.Reject reason))) = ⊥
IsExchangedOfNone retries old new (Err (fault.Refused (refusal.Abort reason))) = ⊥
IsExchangedOfNone retries old new (Err fault.BadReply) = ⊥
IsExchangedOfNone retries old new (Err fault.TooLong) = ⊥

-- any end but Lost
abbrev pub IsNotLost : Result (List ℕ) ExchangeFault → Type 0
IsNotLost (Ok datagram) = Unit {0}
IsNotLost (Err fault.Lost) = ⊥
IsNotLost (Err (fault.Refused refusal)) = Unit {0}
IsNotLost (Err fault.BadReply) = Unit {0}
IsNotLost (Err fault.TooLong) = Unit {0}

-- ---- one try

-- over any link: the datagram that came answers the request, or none did
abbrev pub IsTried : {S : Type 0} → (S → List ℕ → Result (List ℕ) Loss → S → Type 0) →
    List ℕ → S → Option (List ℕ) → S → Type 0
IsTried {S = S} asks octets old (Some datagram) new = asks old octets (Ok datagram) new
IsTried {S = S} asks octets old None new =
    (answer : Result (List ℕ) Loss) × asks old octets answer new × IsNoAnswer octets answer

-- over a link of ours: the reply of the next moment, or a failure
abbrev pub IsHeard : (List Moment → Type 0) → OurQuestion → ℕ → Failures → Option (List ℕ) → Type 0
IsHeard stays q invoke failures (Some datagram) = IsReply q invoke datagram × stays (later q.moments)
IsHeard stays q invoke failures None = RisesBy 1 failures.before failures.after × stays q.moments

-- over a link that lacks the log
abbrev pub IsHeardOfNone : Path → ℕ → ℕ → ℕ → Option (List ℕ) → Type 0
IsHeardOfNone path invoke old new (Some datagram) = IsUnknown path invoke datagram
IsHeardOfNone path invoke old new None = RisesBy 1 old new
