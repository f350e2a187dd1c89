-- What a walk was told last, over any link: an answer that came over it, or that none did.
use Rattle.std.specs.Prelude.{◌≡◌, ℕ, true, false, ◌⊎◌, Result, Ok, Err, List}
use Rattle.bac_link.specs.declared.exchanges.ExchangeFault.{ExchangeFault}
use Rattle.bac_link.specs.declared.exchanges.ExchangeFault.TheVariants as fault
use Rattle.bac_link.specs.declared.link.Lost.{Lost as Loss}
use Rattle.bac_link.specs.Exchanges.{Exchanges, way_by}
use Rattle.bac_link.specs.Links.{question}
use Rattle.bac_link.specs.Path.{Path}
use Rattle.bac_walk.specs.declared.outcome.BadReply.{BadReply as NotTaken}
use Rattle.bac_walk.specs.declared.outcome.Ended.{Ended}
use Rattle.bac_walk.specs.declared.outcome.Ended.TheVariants.{CaughtUp, StepLimit, Stopped, Fault}
use Rattle.bac_walk.specs.declared.outcome.Progress.{Progress}
use Rattle.bac_walk.specs.declared.outcome.Progress.TheVariants.{Batch as BatchOf, AskOldest, CaughtUp as IsUp}
use Rattle.bac_walk.specs.declared.outcome.WalkFault.{WalkFault}
use Rattle.bac_walk.specs.declared.outcome.WalkFault.TheVariants.{Lost, Refused, BadReply}
use Rattle.bac_walk.specs.declared.outcome.Why.{Why}
use Rattle.bac_walk.specs.declared.outcome.Why.TheVariants.{CaughtUp as WasUp, StepLimit as WasLimit, Fault as WasFault}
use Rattle.bac_walk.specs.declared.outcome.Why.TheVariants.{Memory}
use Rattle.bac_walk.specs.Place.{WalkPlace}
use Rattle.bac_link.specs.Heard.{heard_in}
use Rattle.bac_walk.specs.Walks.{asks_oldest_now, question_of, IsTakenFrom}

-- the question of a walk that is here was asked last, by an exchange with this result
abbrev pub HasAsked : {S : Type 0} → (S → List ℕ → Result (List ℕ) Loss → S → Type 0) → Path → ℕ → WalkPlace →
    Result (List ℕ) ExchangeFault → S → Type 0
HasAsked {S = S} asks path retries w result new =
    (link : S) × (invoke : ℕ)
    × Exchanges asks (way_by path invoke retries) (question w.log (question_of w)) link result new

-- The fault that such a result is: no answer came; the device refused; or an answer came that doesn't belong to the
-- question, or an ACK that a walk here can't take.
abbrev pub IsFault : WalkPlace → Result (List ℕ) ExchangeFault → WalkFault → Type 0
IsFault w result Lost = result ≡ Err fault.Lost
IsFault w result (Refused refusal) = result ≡ Err (fault.Refused refusal)
IsFault w result BadReply =
    (result ≡ Err fault.BadReply)
    ⊎ ((datagram : List ℕ) × (bad : NotTaken)
    × (result ≡ Ok datagram) × IsTakenFrom w (heard_in w.log datagram) (Err bad) w)

-- the question of a walk that is here was asked last, and its result is this fault
abbrev pub ToldFault : {S : Type 0} → (S → List ℕ → Result (List ℕ) Loss → S → Type 0) →
    Path → ℕ → WalkFault → WalkPlace → S → Type 0
ToldFault {S = S} asks path retries fault w new =
    (result : Result (List ℕ) ExchangeFault) × HasAsked asks path retries w result new × IsFault w result fault

-- an ACK came that says that there is no more
abbrev pub ToldUp : {S : Type 0} → (S → List ℕ → Result (List ℕ) Loss → S → Type 0) → Path → ℕ → WalkPlace → S → Type 0
ToldUp {S = S} asks path retries w new =
    (datagram : List ℕ) × HasAsked asks path retries w (Ok datagram) new
    × IsTakenFrom w (heard_in w.log datagram) (Ok IsUp) w

-- one turn, from a place to another
abbrev pub ToldTurn : {S : Type 0} → (S → List ℕ → Result (List ℕ) Loss → S → Type 0) → Path → ℕ → WalkPlace →
    Result Progress WalkFault → WalkPlace → S → Type 0
ToldTurn {S = S} asks path retries before (Err fault) after new = ToldFault asks path retries fault after new
ToldTurn {S = S} asks path retries before (Ok IsUp) after new = ToldUp asks path retries after new
ToldTurn {S = S} asks path retries before (Ok AskOldest) after new =
    (asks_oldest_now before ≡ false) × (after.asks_oldest ≡ true)
ToldTurn {S = S} asks path retries before (Ok (BatchOf b)) after new = Unit {0}

-- A run that ended so, with the walk here: it was told its fault, or that there is no more, by the last exchange.
abbrev pub Told : {S : Type 0} → (S → List ℕ → Result (List ℕ) Loss → S → Type 0) →
    Path → ℕ → Ended → WalkPlace → S → Type 0
Told {S = S} asks path retries CaughtUp w new = ToldUp asks path retries w new
Told {S = S} asks path retries StepLimit w new = Unit {0}
Told {S = S} asks path retries Stopped w new = Unit {0}
Told {S = S} asks path retries (Fault fault) w new = ToldFault asks path retries fault w new

-- how the steps ended of a run that ended for this; without memory for a step the ones before it were whole
abbrev pub ended_of : Why → Ended
ended_of WasUp = CaughtUp
ended_of WasLimit = StepLimit
ended_of (WasFault fault) = Fault fault
ended_of Memory = StepLimit
