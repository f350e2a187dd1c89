-- How many questions backwards are asked, one after the other, of a log whose device says what it holds: two at most
-- for each record that it held before those that came, and two more.
use Rattle.std.specs.Prelude.{◌≡◌, ℕ, ◌+◌, ◌-◌, ◌*◌, ◌<◌, ◌≤◌, false, None, List, [], ◌∷◌, length}
use Rattle.bac_log.specs.TrendLog.{sequence_number}
use Rattle.bac_link.specs.Delivery.{History, IsEntry}
use Rattle.bac_walk.specs.declared.batch.Numbered.{Numbered}
use Rattle.bac_poll_laws.specs.Bounds.{count_of, lost_one}
use Rattle.bac_poll_laws.specs.Delivers.{Given, IsJoined, IsWithin, LiesIn, ShowHeld, ShowsHeld, after_given}
use Rattle.bac_poll_laws.specs.Delivers.{asking_less}
use Rattle.bac_poll_laws.specs.Laws.{IsStanding, Whichever}
use Rattle.bac_poll.specs.State.{PollState}
use Rattle.bac_poll.specs.Turns.{Turned, first_number}
use Rattle.bac_poll_steps.specs.declared.stage.Aim.{Aim}
use Rattle.bac_poll_steps.specs.declared.stage.Stage.TheVariants.{Back}

-- a record is an entry of the log, under its number, in the window from this ordinal on
abbrev pub IsLoggedIn : History → ℕ → Numbered → Type 0
IsLoggedIn H low held =
    (k : ℕ) × (held.number ≡ sequence_number k) × IsEntry H k held.entry × (low ≤ k) × (k + 1 < low + 2147483647)

-- behind a turn there are other answers only if it goes on backwards, and begins no epoch
abbrev pub GoesBack : Turned → List Given → Type 0
GoesBack t [] = Unit {0}
GoesBack t (given ∷ others) = (t.end ≡ None) × (t.anew ≡ false) × ((aim : Aim) × (t.poll.stage ≡ Back aim))

-- answers to questions backwards, one after the other, say what the log holds at their moments: nothing before this
-- ordinal
abbrev pub SayBack : ℕ → History → PollState → List Given → Type 0
SayBack low H p [] = Unit {0}
SayBack low H p (given ∷ others) =
    IsWithin low given.moment × ShowsHeld low given.moment H (asking_less given.less p) given.answer
    × GoesBack (after_given p given) others × SayBack low H (after_given p given).poll others

-- the first question backwards, from the first of records that are held back on, the entry of this ordinal
pub record IsBackFrom (low k : ℕ) (H : History) (p : PollState) : Type 0 where
  pub some : 0 < low
  pub aim : Aim
  pub asked : p.stage ≡ Back aim
  pub many : p.walk.count ≤ 100
  pub stands : IsStanding (IsLoggedIn H low) Whichever p
  pub from : p.reference ≡ first_number p.held
  pub first : first_number p.held ≡ sequence_number k
  pub lies : LiesIn low k

-- So many are asked at most: each two of them bring an older record, down to the oldest that was held.
abbrev pub BackwardsAreFew : Type 0
BackwardsAreFew =
    (H : History) (low k : ℕ) (p : PollState) (answers : List Given) → IsBackFrom low k H p → SayBack low H p answers →
    length answers ≤ 2 * (k - low) + 2

-- A poll of such a log never begins them again because the first of what came is another record by then.
abbrev pub NoneIsBegunAgain : Type 0
NoneIsBegunAgain =
    (H : History) (low s : ℕ) (p : PollState) (answers : List Given) → IsJoined low s p → ShowHeld low H p answers →
    count_of lost_one p answers ≡ 0
