-- What a user gets of a poll that is caught up: each record that the log held then, and holds at the last answer, is
-- among what was kept, once.
use Rattle.std.specs.Prelude.{◌≡◌, ℕ, suc, ◌<◌, ◌≤◌, ◌==◌, ◌++◌, ◌⊎◌, false, if◌then◌else◌, List, [], ◌∷◌, Some}
use Rattle.bac_log.specs.TrendLog.{sequence_number}
use Rattle.bac_log.specs.declared.entry.Entry.{Entry}
use Rattle.bac_link.specs.Delivery.{History, Holds, IsEntry, Moment}
use Rattle.bac_walk.specs.declared.batch.Numbered.{Numbered}
use Rattle.bac_poll_laws.specs.Caught.{NoneBehind, SayNewest, last_turn, since}
use Rattle.bac_poll_laws.specs.Delivers.{Given, IsJoined, ShowHeld, after_given}
use Rattle.bac_poll_laws.specs.Laws.{IsAmong}
use Rattle.bac_poll.specs.State.{PollState}
use Rattle.bac_poll.specs.Turns.{asks}
use Rattle.bac_poll_steps.specs.declared.turn.PollEnd.TheVariants.{CaughtUp}

-- all records that are kept
abbrev pub kept_by : PollState → List Given → List Numbered
kept_by p [] = []
kept_by p (given ∷ others) =
    (after_given p given).records ++ kept_by (after_given p given).poll others

-- how many of these have this number
abbrev pub times : ℕ → List Numbered → ℕ
times n [] = 0
times n (held ∷ others) = if held.number == n then suc (times n others) else times n others

-- the entry of an ordinal is among these, under its number, and no other has that
abbrev pub IsKeptOnce : History → List Numbered → ℕ → Type 0
IsKeptOnce H kept k =
    (entry : Entry) × IsEntry H k entry × IsAmong kept (record { number = sequence_number k; entry = entry })
    × (times (sequence_number k) kept ≡ 1)

-- no answer begins an epoch or a doubtful gap
abbrev pub AreSure : PollState → List Given → Type 0
AreSure p [] = Unit {0}
AreSure p (given ∷ others) =
    ((after_given p given).anew ≡ false) × ((after_given p given).doubtful ≡ false)
    × AreSure (after_given p given).poll others

-- what was dropped by the moment of an answer stays dropped
abbrev pub AreRising : ℕ → List Given → Type 0
AreRising oldest [] = Unit {0}
AreRising oldest (given ∷ others) = (oldest ≤ given.moment.oldest) × AreRising given.moment.oldest others

-- the oldest record that is held at the last of these answers
abbrev pub last_oldest : ℕ → List Given → ℕ
last_oldest oldest [] = oldest
last_oldest oldest (given ∷ others) = last_oldest given.moment.oldest others

-- this holds at one of these moments
abbrev pub AtSome : (Moment → Type 0) → List Moment → Type 0
AtSome Q [] = ⊥
AtSome Q (m ∷ M) = Q m ⊎ AtSome Q M

-- Of a log that goes on, and never holds again what it dropped: a poll that begins no epoch and has no doubtful gap
-- ends as caught up. Then there is a moment, that of the last answer by which records were kept or of one behind it,
-- such that each record from ordinal s on that was held at it, and wasn't dropped by the last answer, is kept once.
abbrev pub HeldIsKept : Type 0
HeldIsKept =
    (H : History) (low s : ℕ) (p : PollState) (answers : List Given) → IsJoined low s p →
    1 < (last_turn (asks p) p answers).poll.walk.count → ShowHeld low H p answers →
    SayNewest (NoneBehind low) p answers → AreSure p answers → AreRising 0 answers →
    (last_turn (asks p) p answers).end ≡ Some CaughtUp →
    AtSome (λ m. (k : ℕ) → s ≤ k → Holds m k → last_oldest 0 answers ≤ k → IsKeptOnce H (kept_by p answers) k)
    (since [] p answers)
