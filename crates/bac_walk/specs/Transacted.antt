-- What came over a link by the transactions of a client, one after the other: the same as Came says, and of each
-- exchange that it is the next of them.
use Rattle.std.specs.Prelude.{◌≡◌, ℕ, ◌+◌, ◌*◌, ◌%◌, ◌<◌, ◌≤◌, true, Result, Ok, Err, List, [], ◌∷◌, ◌++◌}
use Rattle.std.specs.Prelude.{length}
use Rattle.bac_link.specs.declared.exchanges.ExchangeFault.{ExchangeFault}
use Rattle.bac_link.specs.declared.item.Item.{Item}
use Rattle.bac_link.specs.declared.link.Lost.{Lost as Loss}
use Rattle.bac_link.specs.declared.transactions.Transactions.{Transactions}
use Rattle.bac_apdu.specs.Route.{IsWay}
use Rattle.bac_link.specs.Datagrams.{answers_to}
use Rattle.bac_link.specs.Exchanges.{Ask, Exchanges, next_way}
use Rattle.bac_link.specs.Heard.{heard_in}
use Rattle.bac_link.specs.Links.{question}
use Rattle.bac_link.specs.Path.{towards}
use Rattle.bac_link.specs.Requests.{request_octets}
use Rattle.bac_link.specs.Transactions.{begun_with, closed}
use Rattle.bac_walk.specs.declared.outcome.Ended.{Ended}
use Rattle.bac_walk.specs.declared.outcome.Ended.TheVariants.{CaughtUp, StepLimit, Stopped, Fault}
use Rattle.bac_walk.specs.declared.outcome.Progress.{Progress}
use Rattle.bac_walk.specs.declared.outcome.WalkFault.{WalkFault}
use Rattle.bac_walk.specs.Came.{AreOf, Brought, Came, EndsEmpty, EndsFull, answers_of, restarted, walk_over}
use Rattle.bac_walk.specs.Came.{reaching_by}
use Rattle.bac_walk.specs.Collects.{batches, turn_items}
use Rattle.bac_walk.specs.Place.{WalkPlace}
use Rattle.bac_walk.specs.Sinks.{Call, SinkFilled, Takes, gaps, is_stopped, put_items}
use Rattle.bac_walk.specs.Told.{IsFault}
use Rattle.bac_walk.specs.Walks.{question_of, IsTakenFrom}

-- a walk by the transactions of a client over a link: the link, the transactions, and where the walk is
pub record WalkBy (S : Type 0) : Type 0 where
  pub link : S
  pub transactions : Transactions
  pub place : WalkPlace

-- the three together
abbrev pub walk_by : {S : Type 0} → S → Transactions → WalkPlace → WalkBy S
walk_by link transactions place = record { link = link; transactions = transactions; place = place }

-- these transactions after the exchange of a walk that is here: one more was begun, and nothing is open
abbrev pub asked : WalkPlace → Transactions → Transactions
asked w t = closed (begun_with (question w.log (question_of w)) t)

-- The exchange of a walk that is here, begun on this link as the next of these transactions: 1 to retries + 1 asks of
-- the same octets, under the next invoke ID, and what came of them.
abbrev pub AsksBy : {S : Type 0} → (S → List ℕ → Result (List ℕ) Loss → S → Type 0) → Transactions → S → WalkPlace →
    Result (List ℕ) ExchangeFault → S → Type 0
AsksBy {S = S} asks first old w result new =
    Exchanges asks (next_way first) (question w.log (question_of w)) old result new

-- Replies came over a link one after the other, each to the question of the place where the walk was then, by an
-- exchange that was begun on the link and with the transactions as the one before left them. Each was taken, and
-- brought its items.
abbrev pub ComesBy : {S : Type 0} → Ask S → WalkBy S → List Came → WalkBy S → Type 0
ComesBy {S = S} asks before [] after =
    (after.place ≡ before.place) × (after.link ≡ before.link) × (after.transactions ≡ before.transactions)
ComesBy {S = S} asks before (c ∷ came) after =
    (mid : S) × (next : WalkPlace) × (p : Progress) × (c.place ≡ before.place)
    × AsksBy asks before.transactions before.link before.place (Ok c.datagram) mid
    × IsTakenFrom before.place (heard_in before.place.log c.datagram) (Ok p) next × (c.items ≡ turn_items (Ok p))
    × ComesBy asks (walk_by mid (asked before.place before.transactions) next) came after

-- One turn over a link: the exchange of the walk's question, and what the walk makes of the reply, or the fault that it
-- is.
abbrev pub TurnBy : {S : Type 0} → (S → List ℕ → Result (List ℕ) Loss → S → Type 0) → Transactions →
    S → WalkPlace → Result Progress WalkFault → WalkPlace → S → Type 0
TurnBy {S = S} asks first old w (Ok p) after new =
    (datagram : List ℕ) × AsksBy asks first old w (Ok datagram) new
    × IsTakenFrom w (heard_in w.log datagram) (Ok p) after
TurnBy {S = S} asks first old w (Err fault) after new =
    (result : Result (List ℕ) ExchangeFault) × AsksBy asks first old w result new × IsFault w result fault
    × (after ≡ w)

-- Why a run of so many steps ended that had these replies, after which the walk was here: the last of them said so; as
-- many brought records; the record that was handed on last was refused; or one exchange more came to a fault.
abbrev pub EndsAfter : {S : Type 0} → Ask S → ℕ → List Came → WalkBy S → Ended → WalkBy S → Type 0
EndsAfter {S = S} asks steps came here CaughtUp after =
    EndsEmpty came × (batches (answers_of came) < steps) × (restarted after.place ≡ restarted here.place)
    × (after.link ≡ here.link) × (after.transactions ≡ here.transactions)
EndsAfter {S = S} asks steps came here StepLimit after =
    EndsFull came × (batches (answers_of came) ≡ steps) × (restarted after.place ≡ restarted here.place)
    × (after.link ≡ here.link) × (after.transactions ≡ here.transactions)
EndsAfter {S = S} asks steps came here Stopped after =
    EndsFull came × (0 < batches (answers_of came)) × (batches (answers_of came) ≤ steps)
    × (after.link ≡ here.link) × (after.transactions ≡ here.transactions)
EndsAfter {S = S} asks steps came here (Fault fault) after =
    (batches (answers_of came) < steps)
    × ((result : Result (List ℕ) ExchangeFault)
    × AsksBy asks here.transactions here.link here.place result after.link × IsFault here.place result fault)
    × (restarted after.place ≡ restarted here.place) × (after.transactions ≡ asked here.place here.transactions)

-- how many replies without records a run may have that ended so, but for one before each batch
abbrev pub spare : Ended → ℕ
spare CaughtUp = 2
spare StepLimit = 0
spare Stopped = 0
spare (Fault fault) = 1

-- What a run of at most so many steps over a link brought, whoever answered, by the transactions of a client. A step
-- has two replies at most, of which the last alone brings records.
pub record BroughtBy {S : Type 0} (asks : Ask S) (before : WalkBy S) (steps : ℕ) (came : List Came)
    (items : List Item) (ended : Ended) (after : WalkBy S) : Type 0 where
  pub here : WalkPlace
  pub mid : S
  pub half : Transactions
  pub comes : ComesBy asks (walk_by before.link before.transactions (restarted before.place)) came
      (walk_by mid half here)
  pub ends : EndsAfter asks steps came (walk_by mid half here) ended after
  pub are : AreOf ended came items after.place
  pub few : length came ≤ 2 * batches (answers_of came) + spare ended

-- The same of a run into a sink: each record was put, in order, with the gap before it.
abbrev pub BroughtIntoBy : {S T : Type 0} → Ask S → SinkFilled T → WalkBy S → ℕ → Ended → WalkBy S → Type 0
BroughtIntoBy {S = S} {T = T} asks sink before steps ended after =
    (calls : List Call) × Takes sink.puts sink.before calls (is_stopped ended) sink.after
    × (length calls ≤ 100 * steps) × (gaps calls ≤ steps)
    × ((came : List Came) × BroughtBy asks before steps came (put_items calls) ended after)

-- ---- laws

-- what came by such transactions came over the link
abbrev pub TransactedIsBrought : {S : Type 0} → (S → List ℕ → Result (List ℕ) Loss → S → Type 0) → Type 0
TransactedIsBrought {S = S} asks =
    (first last : Transactions) (old new : S) (before after : WalkPlace) (steps : ℕ) (came : List Came)
    (items : List Item) (ended : Ended) →
    BroughtBy asks (walk_by old first before) steps came items ended (walk_by new last after) →
    Brought (reaching_by asks first) (walk_over old before) steps came items ended
    (walk_over new after)

-- At most two transactions a step were begun, each with the route and the retries of the first, and none is open after
-- one of them.
abbrev pub TransactedIsBounded : {S : Type 0} → (S → List ℕ → Result (List ℕ) Loss → S → Type 0) → Type 0
TransactedIsBounded {S = S} asks =
    (first last : Transactions) (old new : S) (before after : WalkPlace) (steps : ℕ) (came : List Came)
    (items : List Item) (ended : Ended) →
    BroughtBy asks (walk_by old first before) steps came items ended (walk_by new last after) →
    (length came ≤ 2 * steps) × (last.begun ≤ first.begun + 2 * steps)
    × (last.route ≡ first.route) × (last.retries ≡ first.retries)

-- ---- which reply answers which question

-- the invoke ID of the transaction that is begun after so many others
abbrev pub invoke_after : Transactions → ℕ → ℕ
invoke_after first n = (first.invoke + 1 + n) % 256

-- the octets that a walk asks which is here, in the transaction that is begun after so many others
abbrev pub asked_after : Transactions → ℕ → WalkPlace → List ℕ
asked_after first n w = request_octets (towards first.route) (invoke_after first n) (question w.log (question_of w))

-- each reply of a run answers the question of its place, with the next invoke ID
abbrev pub RepliesAnswer : {S : Type 0} → (S → List ℕ → Result (List ℕ) Loss → S → Type 0) → Type 0
RepliesAnswer {S = S} asks =
    (first last : Transactions) (old new : S) (before after : WalkPlace) (steps : ℕ) (items : List Item)
    (ended : Ended) (c : Came) (earlier later : List Came) →
    BroughtBy asks (walk_by old first before) steps (earlier ++ c ∷ later) items ended (walk_by new last after) →
    answers_to (asked_after first (length earlier) c.place) c.datagram ≡ true

-- A reply that answers an earlier question of the run is not the reply that was taken for a later one, unless 256
-- transactions were begun from the one on to the other: one that is late, or was sent twice, is left.
abbrev pub LateRepliesAreLeft : {S : Type 0} → (S → List ℕ → Result (List ℕ) Loss → S → Type 0) → Type 0
LateRepliesAreLeft {S = S} asks =
    (first last : Transactions) (old new : S) (before after : WalkPlace) (steps : ℕ) (items : List Item)
    (ended : Ended) (c d : Came) (earlier between later : List Came) → IsWay first.route →
    BroughtBy asks (walk_by old first before) steps (earlier ++ c ∷ between ++ d ∷ later) items ended
    (walk_by new last after) →
    length between < 255 → answers_to (asked_after first (length earlier) c.place) d.datagram ≡ true → ⊥
