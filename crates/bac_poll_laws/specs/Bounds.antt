-- How many questions a poll asks at most, whatever is answered: so many for each answer by which records are kept, and
-- for each question backwards. What these cost is in Backwards.
use Rattle.std.specs.Prelude.{ℕ, ◌+◌, ◌*◌, ◌≡◌, ◌≤◌, Bool, true, false, List, [], ◌∷◌, Option, None, Some, length}
use Rattle.bac_wire.specs.Primitive.{Id}
use Rattle.bac_link.specs.Ordinals.{number_after}
use Rattle.bac_walk.specs.declared.batch.Numbered.{Numbered}
use Rattle.bac_poll_laws.specs.Delivers.{Given, after_given, asking_less}
use Rattle.bac_poll_laws.specs.Laws.{Answers, IsBefore, IsLast}
use Rattle.bac_poll_laws.specs.Questions.{one_if_kept}
use Rattle.bac_poll.specs.Poll.{joining, starting}
use Rattle.bac_poll.specs.State.{KeptAs, PollState, StandingAs, ToldAs}
use Rattle.bac_poll.specs.Turns.{Turned}
use Rattle.bac_poll_steps.specs.declared.stage.Stage.{Stage}
use Rattle.bac_poll_steps.specs.declared.stage.Stage.TheVariants.{Joins, Prior, Ahead, Again, Each, Oldest, ByNumber}
use Rattle.bac_poll_steps.specs.declared.stage.Stage.TheVariants.{Counts}
use Rattle.bac_poll_steps.specs.declared.stage.Stage.TheVariants.{UpTo, Back, Revision, Restart}
use Rattle.bac_poll_steps.specs.declared.turn.PollEnd.{PollEnd}

-- ---- answers

-- whatever record
abbrev pub WhicheverRecord : Numbered → Type 0
WhicheverRecord held = Unit {0}

-- Answers to what is asked, one after the other, none of which but the last ends the poll. Before each of them fewer
-- records may be asked for: a question counts once.
abbrev pub AnswerIt : PollState → List Given → Type 0
AnswerIt p [] = Unit {0}
AnswerIt p (given ∷ others) =
    Answers WhicheverRecord (asking_less given.less p) given.answer × IsLast (after_given p given) others
    × AnswerIt (after_given p given).poll others

-- what these count of each of them, by what it was for and what it made of the poll
abbrev pub count_of : (Stage → Turned → ℕ) → PollState → List Given → ℕ
count_of of p [] = 0
count_of of p (given ∷ others) = of p.stage (after_given p given) + count_of of (after_given p given).poll others

-- by which records are kept
abbrev pub kept_one : Stage → Turned → ℕ
kept_one stage t = one_if_kept t.records

-- to a question backwards
abbrev pub back_one : Stage → Turned → ℕ
back_one Joins t = 0
back_one Prior t = 0
back_one Ahead t = 0
back_one Again t = 0
back_one Each t = 0
back_one ByNumber t = 0
back_one (Oldest aim) t = 0
back_one (Counts aim) t = 0
back_one (UpTo aim) t = 0
back_one (Back aim) t = 1
back_one Revision t = 0
back_one Restart t = 0

-- behind which the oldest are asked for, or the count
abbrev pub oldest_one : Stage → ℕ
oldest_one Joins = 0
oldest_one Prior = 0
oldest_one Ahead = 0
oldest_one Again = 0
oldest_one Each = 0
oldest_one ByNumber = 0
oldest_one (Oldest aim) = 1
oldest_one (Counts aim) = 1
oldest_one (UpTo aim) = 0
oldest_one (Back aim) = 0
oldest_one Revision = 0
oldest_one Restart = 0

-- the same, where the poll goes on, and no epoch begins
abbrev pub again_one : Option PollEnd → (anew : Bool) → Stage → ℕ
again_one None false stage = oldest_one stage
again_one None true stage = 0
again_one (Some why) anew stage = 0

-- to a question backwards that begins it again: the first of what came is another record by then
abbrev pub lost_one : Stage → Turned → ℕ
lost_one stage t = back_one stage t * again_one t.end t.anew t.poll.stage

-- ---- the bound

-- So many questions are asked at most, and one more for each that is backwards, three where that is begun again, and
-- seventeen for each answer by which records are kept. Backwards no more are asked than half of all numbers, and one.
abbrev pub AreBounded : ℕ → PollState → List Given → Type 0
AreBounded many p answers =
    (length answers
    ≤ many + count_of back_one p answers + 3 * count_of lost_one p answers + 17 * count_of kept_one p answers)
    × (count_of back_one p answers ≤ 2147483649)

-- a known record is right before the one behind it, which is known, too
abbrev pub FollowsOn : Option KeptAs → Option KeptAs → Type 0
FollowsOn later None = Unit {0}
FollowsOn None (Some kept) = ⊥
FollowsOn (Some later) (Some kept) = later.number ≡ number_after kept.number 1

-- the rows of a log have records up to three right before the number that comes next, one behind the other
abbrev pub AreInRow : StandingAs → Type 0
AreInRow at = IsBefore at.newest at.next × FollowsOn at.newest at.earlier × FollowsOn at.earlier at.earliest

-- Whatever is answered, a log that stands in its rows costs twenty-one questions, if none of those come to pass; and
-- three, if nothing is kept of it yet.
abbrev pub QuestionsAreBounded : Type 0
QuestionsAreBounded =
    (log device : Id) (many : ℕ) (told : ToldAs) (answers : List Given) → many ≤ 100 →
    ((at : StandingAs) → AreInRow at → AnswerIt (joining log device many at told) answers →
    AreBounded 21 (joining log device many at told) answers)
    × ((begins : Option ℕ) (word : ToldAs) → AnswerIt (starting log device many begins word told) answers →
    AreBounded 3 (starting log device many begins word told) answers)
