-- What a poll keeps of a log of which no record is known yet: in a first run, or of a new epoch.
use Rattle.std.specs.Prelude.{◌≡◌, ℕ, ◌<◌, ◌⊎◌, false, true, Option, None, Some, List, [], ◌∷◌}
use Rattle.bac_log.specs.TrendLog.{sequence_number}
use Rattle.bac_link.specs.Delivery.{History, Moment}
use Rattle.bac_link.specs.Ordinals.{number_after}
use Rattle.bac_poll_laws.specs.Caught.{IsUpAt}
use Rattle.bac_poll_laws.specs.Delivers.{Brings, Delivers, Given, IsWithin, LiesIn, NoneBefore, ShowHeld, ShowsHeld}
use Rattle.bac_poll_laws.specs.Delivers.{after_given, asking_less, is_finding}
use Rattle.bac_poll_laws.specs.Laws.{Answer, Counted, HasSome, IsBegun, IsLast, Replied, Restarted, Revised}
use Rattle.bac_poll.specs.State.{PollState}
use Rattle.bac_poll.specs.Turns.{Turned}
use Rattle.bac_poll_steps.specs.declared.stage.Aim.TheVariants.{Renews, Starts}
use Rattle.bac_poll_steps.specs.declared.stage.Stage.TheVariants.{Counts, Oldest}
use Rattle.bac_poll_steps.specs.declared.turn.Beginning.{Beginning}

-- a number is that of an ordinal of the window
abbrev pub IsNumberIn : ℕ → ℕ → Type 0
IsNumberIn low n = (k : ℕ) × (n ≡ sequence_number k) × LiesIn low k

-- The number behind a count is one of the window; and where nothing was ever logged nothing is held.
abbrev pub CountsIn : ℕ → Moment → Answer → Type 0
CountsIn low m (Replied datagram) = Unit {0}
CountsIn low m (Counted count) =
    (total : ℕ) → count ≡ Some total → IsNumberIn low (number_after total 1) × (total ≡ 0 → NoneBefore low m 1)
CountsIn low m (Revised revision) = Unit {0}
CountsIn low m (Restarted restart moment) = Unit {0}

-- Answers, one after the other, say what the log holds at their moments: those of a poll that looks for its beginning,
-- and then those of one that stands in its epoch.
abbrev pub ShowFirst : ℕ → History → PollState → List Given → Type 0
ShowFirst low H p [] = Unit {0}
ShowFirst low H p (given ∷ others) =
    IsWithin low given.moment × ShowsHeld low given.moment H (asking_less given.less p) given.answer
    × CountsIn low given.moment given.answer × IsLast (after_given p given) others
    × (is_finding (after_given p given).poll.stage ≡ true → ShowHeld low H (after_given p given).poll others)
    × (is_finding (after_given p given).poll.stage ≡ false → ShowFirst low H (after_given p given).poll others)

-- a turn keeps nothing
abbrev pub IsQuiet : Turned → Type 0
IsQuiet t = (t.missing ≡ []) × (t.gap ≡ []) × (t.records ≡ []) × (t.anew ≡ false)

-- the number at which the epoch begins: the one that the turn puts on record, not by the count alone; else 1
abbrev pub IsFirst : Option Beginning → ℕ → Type 0
IsFirst None first = first ≡ 1
IsFirst (Some begins) first = (begins.number ≡ first) × (begins.counted ≡ false)

-- The answers keep nothing up to one of them, and from that one on they deliver the log from the ordinal on at which
-- the epoch begins; and up to the newest, where that one keeps records, and they end as caught up.
abbrev pub DeliversFirst : ℕ → History → List Moment → PollState → List Given → Type 0
DeliversFirst low H M p [] = Unit {0}
DeliversFirst low H M p (given ∷ others) =
    (IsQuiet (after_given p given) × DeliversFirst low H (given.moment ∷ M) (after_given p given).poll others)
    ⊎ ((s : ℕ) × IsFirst (after_given p given).begins (sequence_number s)
    × ((u : ℕ) × Brings H (given.moment ∷ M) s (after_given p given) u
    × ((t : ℕ) × Delivers H (given.moment ∷ M) (after_given p given).poll u others t
    × (HasSome (after_given p given).records → IsUpAt low (given.moment ∷ []) (after_given p given) others t))))

-- A poll knows no record: it asks for the oldest of a new epoch, or in a first run for the count. A beginning that a
-- run before put on record, by the count, has a number of the window.
pub record IsFresh (low : ℕ) (p : PollState) : Type 0 where
  pub some : 0 < low
  pub begun : IsBegun p
  pub asks : (p.stage ≡ Oldest Renews) ⊎ (p.stage ≡ Counts Starts)
  pub counted : (number : ℕ) → p.counted ≡ Some number → IsNumberIn low number

-- Of a log that goes on, of which no record is known: whatever is answered that says what the log holds, the log is
-- delivered from the beginning of the epoch on.
abbrev pub FirstsDeliver : Type 0
FirstsDeliver =
    (H : History) (low : ℕ) (p : PollState) (answers : List Given) → IsFresh low p → ShowFirst low H p answers →
    DeliversFirst low H [] p answers
