-- Where a poll ends as caught up: at the moment of the answer that brought the last record, or of one behind it, the
-- log held nothing newer.
use Rattle.std.specs.Prelude.{◌≡◌, ℕ, ◌<◌, ◌==◌, ◌&&◌, ◌||◌, not, ◌⊎◌, Bool, true, false, Option, None, Some}
use Rattle.std.specs.Prelude.{List, [], ◌∷◌, length}
use Rattle.bac_log.specs.TrendLog.{sequence_number}
use Rattle.bac_link.specs.Delivery.{History, Moment}
use Rattle.bac_link.specs.Ordinals.{number_after}
use Rattle.bac_walk.specs.Delivers.{NoneFrom}
use Rattle.bac_walk.specs.declared.batch.Numbered.{Numbered}
use Rattle.bac_poll_laws.specs.Delivers.{Delivers, Given, IsJoined, LiesIn, ShowHeld, after_given, asking_less}
use Rattle.bac_poll_laws.specs.Laws.{Answer, Counted, Replied, Restarted, Revised}
use Rattle.bac_poll.specs.Oldest.{is_cut}
use Rattle.bac_poll.specs.Poll.{reply_in}
use Rattle.bac_poll.specs.State.{PollState, Reply}
use Rattle.bac_poll.specs.Turns.{Turned, asks, last_in}
use Rattle.bac_poll_steps.specs.declared.stage.Stage.{Stage}
use Rattle.bac_poll_steps.specs.declared.stage.Stage.TheVariants.{Joins, Prior, Ahead, Again, Each, Oldest, ByNumber}
use Rattle.bac_poll_steps.specs.declared.stage.Stage.TheVariants.{Counts}
use Rattle.bac_poll_steps.specs.declared.stage.Stage.TheVariants.{UpTo, Back, Revision, Restart}
use Rattle.bac_poll_steps.specs.declared.turn.PollEnd.TheVariants.{CaughtUp}

-- ---- what a device says of its newest record

-- at this moment the log holds no entry from the one of this number on
abbrev pub NoneBehind : ℕ → Moment → ℕ → Type 0
NoneBehind low m n = (k : ℕ) × (n ≡ sequence_number k) × LiesIn low k × NoneFrom k m

-- Whether a reply that doesn't say that more is there (MORE_ITEMS) ends with the newest record that is held: it says
-- so (LAST_ITEM), or shows one alone, though more were asked for from there on; or it ends with the newest known one,
-- where that was asked for with what follows it, or the oldest were, since it wasn't shown by its number, and it isn't
-- cut off: fewer came than were asked for, or it has LAST_ITEM.
abbrev pub ends_newest : PollState → Reply → (last : Numbered) → Stage → Bool
ends_newest p reply last Joins = reply.last || (length reply.records == 1)
ends_newest p reply last Prior = false
ends_newest p reply last Ahead = false
ends_newest p reply last Again = number_after last.number 1 == p.next
ends_newest p reply last Each = false
ends_newest p reply last ByNumber = false
ends_newest p reply last (Oldest aim) =
    not (is_cut p reply) && (p.alone && (number_after last.number 1 == p.next))
ends_newest p reply last (Counts aim) = false
ends_newest p reply last (UpTo aim) = p.alone && (number_after last.number 1 == p.next)
ends_newest p reply last (Back aim) = p.alone && (number_after last.number 1 == p.next)
ends_newest p reply last Revision = false
ends_newest p reply last Restart = false

-- this holds of the number behind the last record of a reply that ends with the newest
abbrev pub ShowsNewest : (ℕ → Type 0) → PollState → Option Reply → Type 0
ShowsNewest C p None = Unit {0}
ShowsNewest C p (Some reply) =
    (last : Numbered) → last_in reply.records ≡ Some last → 1 < p.walk.count → reply.more ≡ false →
    ends_newest p reply last p.stage ≡ true → C (number_after last.number 1)

-- and of the number behind a count
abbrev pub SaysNewest : (ℕ → Type 0) → PollState → Answer → Type 0
SaysNewest C p (Replied datagram) = ShowsNewest C p (reply_in p datagram)
SaysNewest C p (Counted count) = (total : ℕ) → count ≡ Some total → C (number_after total 1)
SaysNewest C p (Revised revision) = Unit {0}
SaysNewest C p (Restarted restart moment) = Unit {0}

-- of each of these answers, at its moment
abbrev pub SayNewest : (Moment → ℕ → Type 0) → PollState → List Given → Type 0
SayNewest C p [] = Unit {0}
SayNewest C p (given ∷ others) =
    SaysNewest (C given.moment) (asking_less given.less p) given.answer × SayNewest C (after_given p given).poll others

-- ---- the end

-- the turn of the last of these answers, or that one
abbrev pub last_turn : Turned → PollState → List Given → Turned
last_turn t p [] = t
last_turn t p (given ∷ others) = last_turn (after_given p given) (after_given p given).poll others

-- the moments since records were kept, with that of an answer that keeps these
abbrev pub since_turn : List Moment → Moment → (kept : List Numbered) → List Moment
since_turn M m [] = m ∷ M
since_turn M m (held ∷ others) = m ∷ []

-- the moments of the last answer by which records are kept, and of those behind it
abbrev pub since : List Moment → PollState → List Given → List Moment
since M p [] = M
since M p (given ∷ others) =
    since (since_turn M given.moment (after_given p given).records) (after_given p given).poll others

-- at one of these moments the log held no entry from this ordinal on
abbrev pub WasNone : List Moment → ℕ → Type 0
WasNone [] t = ⊥
WasNone (m ∷ M) t = NoneFrom t m ⊎ WasNone M t

-- Behind a turn these answers tell their newest record, more than one is asked for, and the last of them ends the poll
-- as caught up, and begins no epoch: at the moment of the last answer by which records were kept, or of one behind it,
-- nothing was held from this ordinal on.
abbrev pub IsUpAt : ℕ → List Moment → Turned → List Given → ℕ → Type 0
IsUpAt low M turn answers t =
    1 < (last_turn turn turn.poll answers).poll.walk.count → SayNewest (NoneBehind low) turn.poll answers →
    (last_turn turn turn.poll answers).end ≡ Some CaughtUp → (last_turn turn turn.poll answers).anew ≡ false →
    WasNone (since M turn.poll answers) t × LiesIn low t

-- ---- the law

-- Of a log that goes on, from where its rows stand: whatever is answered that says what the log holds, the log is
-- delivered from there on; and up to the newest, where the poll ends as caught up and its device tells that.
abbrev pub PollsDeliver : Type 0
PollsDeliver =
    (H : History) (low s : ℕ) (p : PollState) (answers : List Given) → IsJoined low s p → ShowHeld low H p answers →
    (t : ℕ) × Delivers H [] p s answers t × IsUpAt low [] (asks p) answers t
