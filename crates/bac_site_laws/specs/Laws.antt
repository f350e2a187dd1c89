-- What the rows of a log's poll say, whatever is answered.
use Rattle.std.specs.Prelude.{◌≡◌, ◌⊎◌, ℕ, Bool, List, [], ◌∷◌}
use Rattle.bac_link.specs.Delivery.{History, Moment}
use Rattle.bac_walk.specs.declared.batch.Numbered.{Numbered}
use Rattle.bac_poll.specs.State.{PollState}
use Rattle.bac_poll_laws.specs.Gaps.{IsGoneBefore}
use Rattle.bac_poll_laws.specs.Laws.{HoldsOfEach, IsAmong, IsOneOf, IsStanding, Whichever}
use Rattle.bac_poll_laws.specs.Logged.{IsLogged}
use Rattle.bac_site_laws.specs.Rows.{GoOn, IsNumbered, Stand, number_at}
use Rattle.bac_site_laws.specs.Steps.{AreAsked, AreSteps, Step, rows_by}

-- Whatever is answered, the rows that a log's poll puts go on from where it stands, each from where the one before it
-- ended: each number comes once, in a record or in a gap. Where the last number of an epoch is put the poll goes on at
-- 1.
abbrev pub RowsGoOn : Type 0
RowsGoOn =
    (log epoch next : ℕ) (full : Bool) (p : PollState) (steps : List Step) → number_at full next ≡ p.next →
    IsStanding IsNumbered Whichever p → AreAsked p steps →
    (t : Stand)
    × GoOn IsNumbered Whichever log (record { epoch = epoch; next = next }) (rows_by log epoch full p steps) t

-- No gap is a lie: if replies show none but these records, and say of no other numbers than these that nothing stands
-- before them, each record that is put is one of those, as it was shown, and each gap ends at one of these, or is
-- marked as doubtful.
abbrev pub GapsAreTold : Type 0
GapsAreTold =
    (shown : List Numbered) (fronts : List ℕ) → HoldsOfEach IsNumbered shown → IsOneOf fronts 1 →
    (log epoch next : ℕ) (full : Bool) (p : PollState) (steps : List Step) → number_at full next ≡ p.next →
    IsStanding (IsAmong shown) (IsOneOf fronts) p → AreSteps (IsAmong shown) (IsOneOf fronts) p steps →
    (t : Stand)
    × GoOn (IsAmong shown) (IsOneOf fronts) log (record { epoch = epoch; next = next })
    (rows_by log epoch full p steps) t

-- a number begins an epoch, or no entry of the log before that of this number was held at one of these moments
abbrev pub WasGoneBefore : List Moment → ℕ → Type 0
WasGoneBefore [] number = number ≡ 1
WasGoneBefore (m ∷ moments) number = IsGoneBefore m number ⊎ WasGoneBefore moments number

-- Where a device shows none but entries of its log, each under its number, and says that nothing stands before a number
-- only where nothing did at one of these moments: each record that is put is an entry of the log, under its number, and
-- no number comes twice; and what a gap covers, if it isn't marked as doubtful, was gone at one of these moments.
abbrev pub RowsAreLogged : Type 0
RowsAreLogged =
    (H : History) (moments : List Moment) (log epoch next : ℕ) (full : Bool) (p : PollState) (steps : List Step) →
    number_at full next ≡ p.next → IsStanding (IsLogged H) (WasGoneBefore moments) p →
    AreSteps (IsLogged H) (WasGoneBefore moments) p steps →
    (t : Stand)
    × GoOn (IsLogged H) (WasGoneBefore moments) log (record { epoch = epoch; next = next })
    (rows_by log epoch full p steps) t
