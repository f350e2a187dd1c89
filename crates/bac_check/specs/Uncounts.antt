-- Why the rows of an archive aren't counted, and what is left of it.
use Rattle.std.specs.Prelude.{◌≡◌, ◌⊎◌, ℕ, ◌≤◌, ◌<◌, ⊤, List, [], ◌∷◌, ◌++◌, length, true, Option, Some}
use Rattle.std.specs.List.{Contains}
use Rattle.sqlite_value.specs.Order.{Row as Values}
use Rattle.sqlite_trees.specs.declared.store.Store.{Ghosts}
use Rattle.sqlite.specs.Held.{Held, state}
use Rattle.sqlite.specs.State.{FailsToQuery}
use Rattle.sqlite.specs.declared.error.Error.{Error}
use Rattle.sqlite.specs.declared.error.Error.TheVariants.{SqliteFailure}
use Rattle.sqlite.specs.declared.error.ErrorCode.TheVariants.{OperationInterrupted}
use Rattle.bac_archive.specs.Ask.{IsAsWas, IsLeft}
use Rattle.bac_archive.specs.Items.{AreFirst, bound_for, range_text}
use Rattle.bac_archive.specs.Known.{FailsToKnow}
use Rattle.bac_archive.specs.declared.items.Range.{Range}
use Rattle.bac_check.specs.Holes.{end_of}
use Rattle.bac_check.specs.Rows.{IsUnreadable, is_new, items_of, span_of}
use Rattle.bac_check.specs.Tallies.{newest_of}
use Rattle.bac_check.specs.declared.tally.Span.{Span}
use Rattle.bac_check.specs.declared.tally.Tally.{Tally}
use Rattle.bac_check.specs.declared.tally.Uncounted.{Uncounted}
use Rattle.bac_check.specs.declared.tally.Uncounted.TheVariants.{Overlap, Backward, Memory, Database}

-- why a row of an epoch isn't counted behind others: it doesn't lie behind the last of them, or ends before it begins
abbrev pub IsNotTaken : ℕ → Option Tally → Span → Uncounted → Type 0
IsNotTaken epoch counted span (Overlap e before row) =
    (e ≡ epoch) × (row ≡ span) × (newest_of counted ≡ Some before) × (span.number ≤ end_of before)
IsNotTaken epoch counted span (Backward e row) = (e ≡ epoch) × (row ≡ span) × (end_of span < span.number)
IsNotTaken epoch counted span Memory = ⊤
IsNotTaken epoch counted span (Database e) = ⊥

-- the same of a row that isn't read, too; one that an earlier part had isn't counted, and is never why
abbrev pub FailsOnRow : ℕ → Option Span → Option Tally → Values → Uncounted → Type 0
FailsOnRow epoch behind counted row (Overlap e before over) =
    (is_new behind (span_of row) ≡ true) × IsNotTaken epoch counted (span_of row) (Overlap e before over)
FailsOnRow epoch behind counted row (Backward e over) = IsNotTaken epoch counted (span_of row) (Backward e over)
FailsOnRow epoch behind counted row Memory = ⊤
FailsOnRow epoch behind counted row (Database e) = IsUnreadable row e

-- Among the items of an epoch, by rising ids, is one that covers this, and behind it one that covers that and begins
-- before the other ends.
pub record HasOverlap (items : List Values) (epoch : ℕ) (before over : Span) : Type 0 where
  pub front : List Values
  pub row : Values
  pub are : AreFirst (items_of epoch) items (front ++ row ∷ [])
  pub earlier : Values
  pub among : Contains front earlier
  pub before_is : span_of earlier ≡ before
  pub over_is : span_of row ≡ over
  pub overlaps : over.number ≤ end_of before

-- among the items of an epoch is a gap that ends before it begins
pub record HasBackward (items : List Values) (epoch : ℕ) (over : Span) : Type 0 where
  pub front : List Values
  pub row : Values
  pub are : AreFirst (items_of epoch) items (front ++ row ∷ [])
  pub over_is : span_of row ≡ over
  pub backward : end_of over < over.number

-- a row of the items of a range can't be read, unless memory is wanting
abbrev pub HasUnreadItem : List Values → Error → Type 0
HasUnreadItem items e = (range : Range) × (front : List Values) × (row : Values)
    × AreFirst range items (front ++ row ∷ []) × IsUnreadable row e

-- there are more items than are counted
abbrev pub HasTooMany : List Values → Error → Type 0
HasTooMany items e = (e ≡ SqliteFailure OperationInterrupted) × (range : Range) × (rows : List Values)
    × AreFirst range items rows × (18446744073709551615 ≤ length rows)

module _ {S : Type 0} (g : Ghosts S) where
  -- nothing was asked, or the database is as it was, or what wasn't committed is undone, since it failed
  abbrev pub IsAsLeft : Held S → Held S → Type 0
  IsAsLeft old new = (new ≡ old) ⊎ IsLeft (state g old) (state g new)

  -- the database gives up on the question for the items of a range, when nothing has changed before
  abbrev pub FailsToRange : Held S → Held S → Error → Type 0
  FailsToRange old new e = (range : Range) × (mid : Held S) × IsAsWas g old mid
      × FailsToQuery (range_text range) (bound_for range) (state g mid) (state g new) e

  -- by which error a database answers: what it has on record isn't told; it gives up on the question for items; a row
  -- of an item can't be read; or there are more items than are counted
  abbrev pub FailsToCount : Held S → Held S → Error → Type 0
  FailsToCount old new e = FailsToKnow g old new e ⊎ (FailsToRange old new e
      ⊎ (HasUnreadItem ((state g old).now.trees 5) e ⊎ HasTooMany ((state g old).now.trees 5) e))

  -- why rows aren't counted
  abbrev pub WhyUncounted : Held S → Held S → Uncounted → Type 0
  WhyUncounted old new (Overlap epoch before over) = HasOverlap ((state g old).now.trees 5) epoch before over
  WhyUncounted old new (Backward epoch over) = HasBackward ((state g old).now.trees 5) epoch over
  WhyUncounted old new Memory = ⊤
  WhyUncounted old new (Database e) = FailsToCount old new e

  -- Rows of an archive aren't counted, for this cause, and it is left as it is, or what wasn't committed is undone.
  pub record IsUncounted (old new : Held S) (why : Uncounted) : Type 0 where
    pub left : IsAsLeft old new
    pub cause : WhyUncounted old new why
