-- The poll of a log, one turn after the other, and the rows that it puts.
use Rattle.std.specs.Prelude.{◌≡◌, ℕ, Bool, List, [], ◌∷◌, ◌++◌, None}
use Rattle.bac_walk.specs.declared.batch.Numbered.{Numbered}
use Rattle.bac_poll.specs.Poll.{after_too_many, reply_in}
use Rattle.bac_poll.specs.State.{PollState}
use Rattle.bac_poll.specs.Turns.{Turned, asks, ends}
use Rattle.bac_poll_steps.specs.declared.stage.Stage.TheVariants.{Revision, Restart}
use Rattle.bac_poll_steps.specs.declared.turn.PollEnd.{PollEnd}
use Rattle.bac_poll_laws.specs.Laws.{Answer, Clears, Counted}
use Rattle.bac_poll_laws.specs.Laws.{Replied, Restarted}
use Rattle.bac_poll_laws.specs.Laws.{Revised, ShowsOnly, after_answer}
use Rattle.bac_device_poller.specs.Puts.{PutAs, Puts, with_turn}

-- what comes of the question of a log: an answer; its poll ends, by a refusal, a bad reply or a loss; or its device
-- can't send so many records, and half as many are asked for
pub data Step : Type 0 where
  Took : Answer → Step
  Ended : PollEnd → Step
  Fewer : Step

-- what that makes of its poll
abbrev pub after_step : PollState → Step → Turned
after_step p (Took answer) = after_answer p answer
after_step p (Ended why) = ends p why
after_step p Fewer = asks (after_too_many p)

-- what is put of a turn, by a log that stands in this epoch, or behind its last number
abbrev pub put_of : (log : ℕ) → (epoch : ℕ) → (full : Bool) → Turned → Puts
put_of log epoch full t = with_turn (record { log = log; epoch = epoch; full = full; puts = [] }) t

-- the rows of a log that its poll puts, one turn after the other
abbrev pub rows_by : (log : ℕ) → (epoch : ℕ) → (full : Bool) → PollState → List Step → List PutAs
rows_by log epoch full p [] = []
rows_by log epoch full p (step ∷ steps) =
    let s : Puts = put_of log epoch full (after_step p step) in
    s.puts ++ rows_by log s.epoch s.full (after_step p step).poll steps

-- an answer to what was asked
abbrev pub IsAsked : PollState → Answer → Type 0
IsAsked p (Replied datagram) = Unit {0}
IsAsked p (Counted count) = Unit {0}
IsAsked p (Revised revision) = p.stage ≡ Revision
IsAsked p (Restarted restart moment) = p.stage ≡ Restart

-- the same of a step
abbrev pub IsAskedBy : PollState → Step → Type 0
IsAskedBy p (Took answer) = IsAsked p answer
IsAskedBy p (Ended why) = Unit {0}
IsAskedBy p Fewer = Unit {0}

-- steps, one after the other, none of which but the last ends the poll
abbrev pub AreAsked : PollState → List Step → Type 0
AreAsked p [] = Unit {0}
AreAsked p (step ∷ []) = IsAskedBy p step
AreAsked p (step ∷ next ∷ steps) =
    IsAskedBy p step × ((after_step p step).end ≡ None) × AreAsked (after_step p step).poll (next ∷ steps)

-- this holds of each record that it shows, and that of each number before which it says that nothing stands
abbrev pub IsShown : (Numbered → Type 0) → (ℕ → Type 0) → PollState → Answer → Type 0
IsShown P F p (Replied datagram) = ShowsOnly P (reply_in p datagram) × Clears F p (reply_in p datagram)
IsShown P F p (Counted count) = Unit {0}
IsShown P F p (Revised revision) = Unit {0}
IsShown P F p (Restarted restart moment) = Unit {0}

-- the same of a step
abbrev pub IsStep : (Numbered → Type 0) → (ℕ → Type 0) → PollState → Step → Type 0
IsStep P F p (Took answer) = IsAsked p answer × IsShown P F p answer
IsStep P F p (Ended why) = Unit {0}
IsStep P F p Fewer = Unit {0}

-- steps, one after the other, none of which but the last ends the poll
abbrev pub AreSteps : (Numbered → Type 0) → (ℕ → Type 0) → PollState → List Step → Type 0
AreSteps P F p [] = Unit {0}
AreSteps P F p (step ∷ []) = IsStep P F p step
AreSteps P F p (step ∷ next ∷ steps) =
    IsStep P F p step × ((after_step p step).end ≡ None) × AreSteps P F (after_step p step).poll (next ∷ steps)
