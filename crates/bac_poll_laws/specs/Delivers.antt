-- What a poll keeps of a log that goes on, by ordinals, where its device says what it holds. Ordinals count the entries
-- of a log for ever, and never come round; what is shown of one is its number. Caught has the law.
use Rattle.std.specs.Prelude.{◌≡◌, ℕ, zero, suc, ◌+◌, ◌<◌, ◌≤◌, ◌⊎◌, Bool, true, false, None}
use Rattle.std.specs.Prelude.{List, [], ◌∷◌}
use Rattle.bac_wire.specs.Primitive.{Id}
use Rattle.bac_log.specs.TrendLog.{sequence_number}
use Rattle.bac_link.specs.Delivery.{History, Holds, IsEntry, Moment}
use Rattle.bac_link.specs.declared.item.Item.{Item}
use Rattle.bac_link.specs.declared.item.Item.TheVariants.{Gap, Logged}
use Rattle.bac_walk.specs.declared.batch.Numbered.{Numbered}
use Rattle.bac_poll_laws.specs.Laws.{Answer, Clears, Counted, IsBefore, Replied, Restarted, Revised, after_answer}
use Rattle.bac_poll_laws.specs.Logged.{IsShownAt}
use Rattle.bac_poll.specs.Poll.{after_too_many, joining, reply_in}
use Rattle.bac_poll.specs.State.{PollState, StandingAs, ToldAs}
use Rattle.bac_poll.specs.Turns.{Turned}
use Rattle.bac_poll_steps.specs.declared.stage.Aim.TheVariants.{Finds, Renews, Starts}
use Rattle.bac_poll_steps.specs.declared.stage.Aim.{Aim}
use Rattle.bac_poll_steps.specs.declared.stage.Stage.{Stage}
use Rattle.bac_poll_steps.specs.declared.stage.Stage.TheVariants.{Joins, Prior, Ahead, Again, Each, Oldest, ByNumber}
use Rattle.bac_poll_steps.specs.declared.stage.Stage.TheVariants.{Counts}
use Rattle.bac_poll_steps.specs.declared.stage.Stage.TheVariants.{UpTo, Back, Revision, Restart}

-- ---- a log in a window

-- an ordinal lies in the window from this one on, which is less than half of all numbers wide
abbrev pub LiesIn : ℕ → ℕ → Type 0
LiesIn low k = (low ≤ k) × (k < low + 2147483647)

-- so do all that the log holds at a moment, and the next one
pub record IsWithin (low : ℕ) (m : Moment) : Type 0 where
  pub oldest : low ≤ m.oldest
  pub newest : m.newest + 1 < low + 2147483647

-- ---- answers

-- half as many records are asked for, so often, since the device can't send so many at once
abbrev pub asking_less : ℕ → PollState → PollState
asking_less zero p = p
asking_less (suc more) p = asking_less more (after_too_many p)

-- an answer, the moment of which it is, and how often fewer records were asked for before it
pub record Given : Type 0 where
  pub less : ℕ
  pub moment : Moment
  pub answer : Answer

-- what it makes of a poll
abbrev pub after_given : PollState → Given → Turned
after_given p given = after_answer (asking_less given.less p) given.answer

-- ---- what a device says

-- at this moment the log holds no entry before the one of this number
abbrev pub NoneBefore : ℕ → Moment → ℕ → Type 0
NoneBefore low m n = (k : ℕ) × (n ≡ sequence_number k) × LiesIn low k × (k ≤ m.oldest)

-- An answer says what the log holds at its moment: a reply shows none but entries that are held; where it says that
-- nothing stands before a record, or shows none up to a count, no entry before that one, or up to it, is held.
abbrev pub ShowsHeld : ℕ → Moment → History → PollState → Answer → Type 0
ShowsHeld low m H p (Replied datagram) =
    IsShownAt m H p.walk.log datagram × Clears (NoneBefore low m) p (reply_in p datagram)
ShowsHeld low m H p (Counted count) = Unit {0}
ShowsHeld low m H p (Revised revision) = p.stage ≡ Revision
ShowsHeld low m H p (Restarted restart moment) = p.stage ≡ Restart

-- what is looked for begins no epoch
abbrev pub is_aim_found : Aim → Bool
is_aim_found Finds = true
is_aim_found Renews = false
is_aim_found Starts = false

-- nothing that begins an epoch is looked for
abbrev pub is_finding : Stage → Bool
is_finding Joins = true
is_finding Prior = true
is_finding Ahead = true
is_finding Again = true
is_finding Each = true
is_finding ByNumber = true
is_finding (Oldest aim) = is_aim_found aim
is_finding (Counts aim) = is_aim_found aim
is_finding (UpTo aim) = is_aim_found aim
is_finding (Back aim) = is_aim_found aim
is_finding Revision = true
is_finding Restart = true

-- Behind a turn there are other answers only if it doesn't end the poll, and no beginning of an epoch is looked for.
abbrev pub GoesOn : Turned → List Given → Type 0
GoesOn t [] = Unit {0}
GoesOn t (given ∷ others) = (t.end ≡ None) × (is_finding t.poll.stage ≡ true)

-- answers, one after the other, say what the log holds at their moments
abbrev pub ShowHeld : ℕ → History → PollState → List Given → Type 0
ShowHeld low H p [] = Unit {0}
ShowHeld low H p (given ∷ others) =
    IsWithin low given.moment × ShowsHeld low given.moment H (asking_less given.less p) given.answer
    × GoesOn (after_given p given) others × ShowHeld low H (after_given p given).poll others

-- ---- what a turn brings

-- at one of these moments the log held this ordinal
abbrev pub WasHeld : List Moment → ℕ → Type 0
WasHeld [] k = ⊥
WasHeld (m ∷ M) k = Holds m k ⊎ WasHeld M k

-- at one of these moments it held none before this one
abbrev pub WasFront : List Moment → ℕ → Type 0
WasFront [] k = ⊥
WasFront (m ∷ M) k = (k ≤ m.oldest) ⊎ WasFront M k

-- records are the entries of the ordinals s to t - 1, each under its number, and was held at one of these moments
abbrev pub AreOf : History → List Moment → ℕ → List Numbered → ℕ → Type 0
AreOf H M s [] t = t ≡ s
AreOf H M s (held ∷ others) t =
    (held.number ≡ sequence_number s) × IsEntry H s held.entry × WasHeld M s × AreOf H M (s + 1) others t

-- a gap of the ordinals s to t - 1, or none
abbrev pub IsGap : ℕ → List Item → ℕ → Type 0
IsGap s [] t = t ≡ s
IsGap s (Gap first before ∷ []) t = (first ≡ sequence_number s) × (before ≡ sequence_number t) × (s < t)
IsGap s (Gap first before ∷ item ∷ items) t = ⊥
IsGap s (Logged shown entry ∷ items) t = ⊥

-- a new epoch begins at an ordinal of number 1, and has a gap up to the first of its records; else these follow where
-- the gap of the old one ends
abbrev pub BeginsAt : Bool → (mid start first : ℕ) → Type 0
BeginsAt true mid start first = 1 ≡ sequence_number start
BeginsAt false mid start first = (start ≡ mid) × (first ≡ mid)

-- records of the ordinals s to t - 1 came, and may be of another life: a gap over them is doubtful
abbrev pub CameInDoubt : History → List Moment → ℕ → ℕ → Bool → Type 0
CameInDoubt H M s t doubtful = (doubtful ≡ true) × ((came : List Numbered) × AreOf H M s came t)

-- What a turn brings to a poll that stands at ordinal s, and then at t, by answers at these moments: a gap from s on,
-- or none, and records behind it. If an epoch begins, the gap ends the old one, and the new one has its gap and the
-- records. A gap ends where nothing before was held at one of these moments, unless it is doubtful and lies over
-- records that came.
pub record Brings (H : History) (M : List Moment) (s : ℕ) (turn : Turned) (t : ℕ) : Type 0 where
  pub mid : ℕ
  pub missing : IsGap s turn.missing mid
  pub gone : s < mid → WasFront M mid ⊎ CameInDoubt H M s mid turn.doubtful
  pub start : ℕ
  pub first : ℕ
  pub begins : BeginsAt turn.anew mid start first
  pub gap : IsGap start turn.gap first
  pub dropped : start < first → WasFront M first
  pub records : AreOf H M first turn.records t
  pub next : turn.poll.next ≡ sequence_number t

-- Answers, one after the other, deliver the log from ordinal s up to t, behind others at these moments: what each
-- brings begins where the one before ended, and what it shows was held, and what it leaves out was gone, at its own
-- moment or that of an answer before it.
abbrev pub Delivers : History → List Moment → PollState → ℕ → List Given → ℕ → Type 0
Delivers H M p s [] t = t ≡ s
Delivers H M p s (given ∷ others) t =
    (u : ℕ) × Brings H (given.moment ∷ M) s (after_given p given) u
    × Delivers H (given.moment ∷ M) (after_given p given).poll u others t

-- ---- where a poll begins

-- A poll begins where the rows of its log stand: at ordinal s, in a window.
pub record IsJoined (low s : ℕ) (p : PollState) : Type 0 where
  pub log : Id
  pub device : Id
  pub many : ℕ
  pub at : StandingAs
  pub told : ToldAs
  pub is : p ≡ joining log device many at told
  pub some : 0 < low
  pub lies : LiesIn low s
  pub next : at.next ≡ sequence_number s
  pub known : IsBefore at.newest at.next
