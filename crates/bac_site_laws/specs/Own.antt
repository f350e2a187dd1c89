-- What the poll of a device keeps of the log that is polled. Read `KeepsTurns`, then `NumbersOnce`.
use Rattle.std.specs.Prelude.{◌≡◌, ◌≢◌, ◌⊎◌, ℕ, ◌==◌, ◌||◌, Bool, true, false, List}
use Rattle.std.specs.Prelude.{[], ◌∷◌, ◌++◌, filter, map, position, Option, Some}
use Rattle.bac_wire.specs.Primitive.{Id}
use Rattle.bac_drive.specs.Chain.{Chain}
use Rattle.bac_drive.specs.declared.machine.Next.{Next}
use Rattle.bac_drive.specs.declared.machine.Next.TheVariants as next
use Rattle.bac_link.specs.Datagrams.{apdu_in}
use Rattle.bac_link.specs.Exchanges.{verdict_of}
use Rattle.bac_walk.specs.declared.outcome.WalkFault.TheVariants as walk
use Rattle.bac_poll.specs.Poll.{asked_by_poll}
use Rattle.bac_poll.specs.State.{PollState}
use Rattle.bac_poll_steps.specs.declared.turn.PollEnd.TheVariants.{Fault}
use Rattle.bac_link.specs.Delivery.{History, Moment}
use Rattle.bac_walk.specs.declared.batch.Numbered.{Numbered}
use Rattle.bac_poll_laws.specs.Laws.{HoldsOfEach, IsAmong, IsOneOf, IsStanding, Whichever}
use Rattle.bac_poll_laws.specs.Logged.{IsLogged}
use Rattle.bac_device_poll.specs.Logs.{has_ended, is_used_up, left_behind, log_after}
use Rattle.bac_device_poll.specs.State.{LogAs as TaskAs}
use Rattle.bac_device_poll.specs.declared.stage.Stage.TheVariants as stage
use Rattle.bac_device_poller.specs.Entries.{is_log, log_in, logs_beside}
use Rattle.bac_device_poller.specs.Poller.{PollerAs}
use Rattle.bac_device_poller.specs.Puts.{PlaceAs, PutAs, put_as}
use Rattle.bac_device_poller.specs.Rows.{LogAs}
use Rattle.bac_device_poller.specs.Turns.{IsPlaced}
use Rattle.bac_device_poller.specs.declared.doing.Doing.{Doing}
use Rattle.bac_device_poller.specs.declared.doing.Doing.TheVariants as doing
use Rattle.bac_site_poller.specs.SiteLaws.{Answered, Missed, Own, OwnStep, Wanted}
use Rattle.bac_site_laws.specs.Laws.{WasGoneBefore}
use Rattle.bac_site_laws.specs.Rows.{GoOn, IsNumbered, Stand, number_at}
use Rattle.bac_site_laws.specs.Steps.{AreAsked, AreSteps, Ended, Fewer, Step, after_step}

-- ---- what is kept

-- a record or a gap of a log, or the beginning of an epoch
abbrev pub is_of_log : PutAs → Bool
is_of_log put = put.tree == 5 || put.tree == 6

-- those among what is put
abbrev pub rows_in : List PutAs → List PutAs
rows_in puts = filter is_of_log puts

-- those of what is wanted
abbrev pub wanted_rows : Next → List PutAs
wanted_rows (next.Keep puts) = rows_in (map put_as puts.items)
wanted_rows other = []

-- those that the steps of a device's poll keep, in their order
abbrev pub kept_of : List Own → List PutAs
kept_of [] = []
kept_of (Wanted ids wanted ∷ own) = wanted_rows wanted ++ kept_of own
kept_of (Answered from datagram now ∷ own) = kept_of own
kept_of (Missed ∷ own) = kept_of own

-- the answer that a poll has heard, if it has one
abbrev pub heard_of : Doing → List (List ℕ)
heard_of (doing.Hears came) = came.datagram ∷ []
heard_of doing.Asks = []
heard_of (doing.Resends datagram) = []
heard_of doing.Waits = []
heard_of doing.Loses = []
heard_of (doing.Tells end) = []
heard_of (doing.Ended why) = []

-- the answers that come to a device's questions, in their order
abbrev pub answers_of : List Own → List (List ℕ)
answers_of [] = []
answers_of (Wanted ids wanted ∷ own) = answers_of own
answers_of (Answered from datagram now ∷ own) = datagram ∷ answers_of own
answers_of (Missed ∷ own) = answers_of own

-- a datagram is one of these
abbrev pub IsOneAmong : List (List ℕ) → List ℕ → Type 0
IsOneAmong [] datagram = ⊥
IsOneAmong (answer ∷ answers) datagram = (answer ≡ datagram) ⊎ IsOneAmong answers datagram

-- a step is what a datagram makes of a log's poll: by what it is to its question, or half as many are asked for
abbrev pub IsOf : PollState → List ℕ → Step → Type 0
IsOf q datagram step =
    (after_step q step ≡ log_after q (verdict_of (asked_by_poll q) (apdu_in datagram)) datagram) ⊎ (step ≡ Fewer)

-- each of these steps is what one of these answers makes of the log's poll; or its question is lost, or rejected
abbrev pub AreOf : List (List ℕ) → PollState → List Step → Type 0
AreOf answers q [] = Unit {0}
AreOf answers q (step ∷ steps) =
    (((datagram : List ℕ) × IsOneAmong answers datagram × IsOf q datagram step) ⊎ (step ≡ Ended (Fault walk.Lost)))
    × AreOf answers (after_step q step).poll steps

-- ---- a log that is polled

-- none of these rows is of this log
abbrev pub HasNone : Id → List LogAs → Type 0
HasNone log [] = Unit {0}
HasNone log (l ∷ logs) = (is_log log l ≡ false) × HasNone log logs

-- a device has a row of this log, and only one
pub record IsOnRecord (log : Id) (place : Option PlaceAs) (logs : List LogAs) : Type 0 where
  pub row : LogAs
  pub found : log_in log logs ≡ Some row
  pub stands : row.place ≡ place
  pub once : HasNone log (logs_beside (position (is_log log) logs) logs)

-- none of these logs that wait is this one
abbrev pub WaitsNot : Id → List TaskAs → Type 0
WaitsNot log [] = Unit {0}
WaitsNot log (task ∷ tasks) = (task.log ≢ log) × WaitsNot log tasks

-- A device's poll is at a log, whose poll stands so, and its rows there. It may have so many more replies with records.
pub record IsAtLog (log : Id) (place : Option PlaceAs) (left : Option ℕ) (q : PollState) (p : PollerAs) : Type 0 where
  pub stage : p.poll.stage ≡ stage.Log
  pub polled : p.poll.polled ≡ Some (record { log = log; poll = q; left = left })
  pub more : is_used_up left ≡ false
  pub waits : WaitsNot log p.poll.logs
  pub record_of : IsOnRecord log place p.rows.logs
  pub empty : p.rows.puts ≡ []

-- this log is polled
abbrev pub IsPolled : Id → PollerAs → Type 0
IsPolled log p =
    (q : PollState) × (left : Option ℕ) × (p.poll.stage ≡ stage.Log)
    × (p.poll.polled ≡ Some (record { log = log; poll = q; left = left }))

-- what happens to the poll of a device while this log is polled
abbrev pub OwnStepAt : Id → PollerAs → Own → PollerAs → Type 0
OwnStepAt log p own new = IsPolled log p × OwnStep p own new

-- ---- the laws

-- what is known of a log behind such steps
abbrev pub poll_after : PollState → List Step → PollState
poll_after q [] = q
poll_after q (step ∷ steps) = poll_after (after_step q step).poll steps

-- how many more replies with records it may have then
abbrev pub left_after : Option ℕ → PollState → List Step → Option ℕ
left_after left q [] = left
left_after left q (step ∷ steps) =
    left_after (left_behind left (after_step q step).records) (after_step q step).poll steps

-- the poll of a log ends with this step: by itself, or since it may have no more of them
abbrev pub is_last : Option ℕ → PollState → Step → Bool
is_last left q step = has_ended (after_step q step).end (left_behind left (after_step q step).records)

-- the last of them ends its poll
abbrev pub EndsBy : Option ℕ → PollState → List Step → Type 0
EndsBy left q [] = ⊥
EndsBy left q (step ∷ []) = is_last left q step ≡ true
EndsBy left q (step ∷ next ∷ steps) =
    EndsBy (left_behind left (after_step q step).records) (after_step q step).poll (next ∷ steps)

-- these are the rows of their turns, one behind the other, from a place on; none, once the log has no epoch left
abbrev pub AreRowsOf : Option PlaceAs → PollState → List Step → List PutAs → Type 0
AreRowsOf place q [] rows = rows ≡ []
AreRowsOf place q (step ∷ steps) rows =
    (behind : Option PlaceAs) × (now more : List PutAs) × (rows ≡ now ++ more)
    × IsPlaced place (after_step q step) behind now × AreRowsOf behind (after_step q step).poll steps more

module _ (left : Option ℕ) where
  -- A log's poll, which may have so many replies with records yet, had these turns, each of them by what one of these
  -- answers makes of it or by the loss of its question, and no other: it is where they lead, or has ended by the last
  -- of them; and these are the rows that they put.
  pub record HadTurns (log : Id) (place : Option PlaceAs) (q : PollState) (answers : List (List ℕ))
      (rows : List PutAs) (new : PollerAs) (steps : List Step) : Type 0 where
    pub asked : AreAsked q steps
    pub of : AreOf answers q steps
    pub rows_are : AreRowsOf place q steps rows
    pub leads : ((behind : Option PlaceAs) × IsAtLog log behind (left_after left q steps) (poll_after q steps) new)
        ⊎ EndsBy left q steps

-- What a device's poll keeps while a log is polled is the rows of that log's own turns, from where it stands.
abbrev pub KeepsTurns : Type 0
KeepsTurns =
    (log : Id) (place : Option PlaceAs) (left : Option ℕ) (q : PollState) (p new : PollerAs) (own : List Own) →
    IsAtLog log place left q p → Chain (OwnStepAt log) p own new →
    (steps : List Step)
    × HadTurns left log place q (heard_of p.doing ++ answers_of own) (kept_of own) new steps

-- So its rows go on, from where it stands: each number comes once.
abbrev pub NumbersOnce : Type 0
NumbersOnce =
    (log : Id) (place : PlaceAs) (next : ℕ) (left : Option ℕ) (q : PollState) (p new : PollerAs) (own : List Own) →
    IsAtLog log (Some place) left q p → number_at place.full next ≡ q.next → IsStanding IsNumbered Whichever q →
    Chain (OwnStepAt log) p own new →
    (t : Stand) × GoOn IsNumbered Whichever place.log (record { epoch = place.epoch; next = next }) (kept_of own) t

-- And what they say is what its device said. If its answers show none but these records, and say of no other numbers
-- than these that nothing stands before them, each record that is kept is one of those, and each gap ends at one of
-- these, or is marked as doubtful. Where its answers show none but entries of its log, and say that nothing stands
-- before a number only where nothing did at one of these moments, each record is an entry of the log, under its number,
-- and what a gap covers that isn't doubtful was gone at one of these.
abbrev pub RowsAreTold : Type 0
RowsAreTold =
    (log : Id) (place : PlaceAs) (next : ℕ) (left : Option ℕ) (q : PollState) (p new : PollerAs) (own : List Own) →
    IsAtLog log (Some place) left q p → number_at place.full next ≡ q.next → Chain (OwnStepAt log) p own new →
    (steps : List Step)
    × HadTurns left log (Some place) q (heard_of p.doing ++ answers_of own) (kept_of own) new steps
    × ((shown : List Numbered) (fronts : List ℕ) → HoldsOfEach IsNumbered shown → IsOneOf fronts 1 →
    IsStanding (IsAmong shown) (IsOneOf fronts) q → AreSteps (IsAmong shown) (IsOneOf fronts) q steps →
    (t : Stand)
    × GoOn (IsAmong shown) (IsOneOf fronts) place.log (record { epoch = place.epoch; next = next }) (kept_of own) t)
    × ((H : History) (moments : List Moment) →
    IsStanding (IsLogged H) (WasGoneBefore moments) q → AreSteps (IsLogged H) (WasGoneBefore moments) q steps →
    (t : Stand)
    × GoOn (IsLogged H) (WasGoneBefore moments) place.log (record { epoch = place.epoch; next = next })
    (kept_of own) t)
