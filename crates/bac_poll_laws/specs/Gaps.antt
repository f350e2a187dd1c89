-- What a gap that isn't doubtful covers isn't held, where a device says what its log holds.
use Rattle.std.specs.Prelude.{◌≡◌, ℕ, ◌≤◌, List, [], ◌∷◌, None}
use Rattle.bac_log.specs.TrendLog.{sequence_number}
use Rattle.bac_link.specs.Delivery.{History, Moment}
use Rattle.bac_poll_laws.specs.Laws.{Answer, Clears, Counted, IsStanding}
use Rattle.bac_poll_laws.specs.Laws.{IsWhole, Replied, Restarted, Revised, after_answer}
use Rattle.bac_poll_laws.specs.Logged.{IsLogged, IsShownAt}
use Rattle.bac_poll.specs.Poll.{reply_in}
use Rattle.bac_poll.specs.State.{PollState}
use Rattle.bac_poll_steps.specs.declared.stage.Stage.TheVariants.{Revision, Restart}

-- at this moment the log holds no entry before the one of this number
abbrev pub IsGoneBefore : Moment → ℕ → Type 0
IsGoneBefore m n = (k : ℕ) × (n ≡ sequence_number k) × (k ≤ m.oldest)

-- an answer, and the moment of which it is
pub record Given : Type 0 where
  pub moment : Moment
  pub answer : Answer

-- It says what the log holds then: a reply shows none but entries that are held, and where it says that nothing stands
-- before a record, or up to a count, no entry before that is held. Nothing is asked of the count itself, nor of the
-- word.
abbrev pub SaysHeld : Moment → History → PollState → Answer → Type 0
SaysHeld m H p (Replied datagram) = IsShownAt m H p.walk.log datagram × Clears (IsGoneBefore m) p (reply_in p datagram)
SaysHeld m H p (Counted count) = Unit {0}
SaysHeld m H p (Revised revision) = p.stage ≡ Revision
SaysHeld m H p (Restarted restart moment) = p.stage ≡ Restart

-- such answers, one after the other, at moments none of which is before the last
abbrev pub SayHeld : Moment → History → PollState → List Given → Type 0
SayHeld m H p [] = Unit {0}
SayHeld m H p (given ∷ others) =
    (m.oldest ≤ given.moment.oldest) × SaysHeld given.moment H p given.answer
    × ((after_answer p given.answer).end ≡ None → SayHeld given.moment H (after_answer p given.answer).poll others)

-- each turn of them brings each number once: entries of the log, and gaps that, if they aren't doubtful, end where no
-- entry before is held at the moment of its answer
abbrev pub AreGone : History → PollState → List Given → Type 0
AreGone H p [] = Unit {0}
AreGone H p (given ∷ others) =
    IsWhole (IsLogged H) (IsGoneBefore given.moment) p.next (after_answer p given.answer)
    × ((after_answer p given.answer).end ≡ None → AreGone H (after_answer p given.answer).poll others)

-- What a gap that isn't doubtful covers isn't held when it is put, of a log that goes on.
abbrev pub GapsAreGone : Type 0
GapsAreGone =
    (H : History) (m : Moment) (p : PollState) (answers : List Given) → 1 ≤ m.oldest →
    IsStanding (IsLogged H) (IsGoneBefore m) p → SayHeld m H p answers → AreGone H p answers
