-- Why what is kept isn't printed.
use Rattle.std.specs.Prelude.{◌≡◌, ◌≢◌, ◌⊎◌, ◌≤◌, ◌++◌, ◌∷◌, ℕ, [], List, length, Option}
use Rattle.std.specs.List.{Contains, filter}
use Rattle.sqlite_value.specs.Order.{Row as Values}
use Rattle.sqlite_trees.specs.declared.store.Store.{Ghosts}
use Rattle.sqlite.specs.declared.error.Error.{Error}
use Rattle.sqlite.specs.declared.error.Error.TheVariants.{SqliteFailure}
use Rattle.sqlite.specs.declared.error.ErrorCode.TheVariants.{OperationInterrupted, OutOfMemory}
use Rattle.sqlite.specs.Held.{Held, state}
use Rattle.sqlite.specs.State.{FailsToQuery}
use Rattle.bac_archive.specs.Ask.{IsAsWas, IsLeft}
use Rattle.bac_archive.specs.Items.{AreFirst, IsReadable, bound_for, is_of, range_text}
use Rattle.bac_archive.specs.Known.{FailsToKnow}
use Rattle.bac_archive.specs.declared.items.Range.{Range}
use Rattle.bac_kept.specs.Items.{range_of}
use Rattle.bac_kept.specs.Shown.{Told}
use Rattle.bac_kept.specs.declared.fault.Fault.{Fault}
use Rattle.bac_kept.specs.declared.fault.Fault.TheVariants.{Database, Memory, Write}
use Rattle.bac_kept.specs.declared.words.Dates.{Dates}

-- nothing was asked, or what was asked changed nothing, or took back what wasn't committed, since it failed
abbrev pub IsLeftAs : {S : Type 0} → Ghosts S → Held S → Held S → Type 0
IsLeftAs g old new = (new ≡ old) ⊎ IsLeft (state g old) (state g new)

-- a text isn't written: memory is wanting, or the output refused it; std doesn't tell why
abbrev pub EndsText : Fault → Type 0
EndsText fault = (fault ≡ Memory) ⊎ (fault ≡ Write)

-- one of the items of a range isn't read: there is no memory, or it can't be read
abbrev pub HasUnreadItem : Range → List Values → Error → Type 0
HasUnreadItem range items e = (before : List Values) × (row : Values) × AreFirst range items (before ++ row ∷ [])
    × (e ≢ SqliteFailure OutOfMemory → IsReadable row → ⊥)

-- The items of a range aren't all read: the database gives up on the question for them, one can't be read, or there are
-- more than are counted.
abbrev pub FailsOnItems : {S : Type 0} → Ghosts S → Range → Held S → Held S → Error → Type 0
FailsOnItems {S = S} g range old new e =
    ((mid : Held S) × IsAsWas g old mid
    × FailsToQuery (range_text range) (bound_for range) (state g mid) (state g new) e)
    ⊎ (HasUnreadItem range ((state g old).now.trees 5) e
    ⊎ ((e ≡ SqliteFailure OperationInterrupted)
    × (18446744073709551615 ≤ length (filter (is_of range) ((state g old).now.trees 5)))))

-- they aren't printed: no text is written, or the database answers by an error, for this cause
abbrev pub EndsBy : (Error → Type 0) → Fault → Type 0
EndsBy why fault = EndsText fault ⊎ ((e : Error) × (fault ≡ Database e) × why e)

-- those of one log aren't all read, when nothing has changed before
abbrev pub FailsOnLog : {S : Type 0} → Ghosts S → Option Dates → (log : ℕ) → Held S → Held S → Error → Type 0
FailsOnLog {S = S} g dates log old new e =
    (mid : Held S) × IsAsWas g old mid × FailsOnItems g (range_of log dates) mid new e

-- those of one of these logs aren't
abbrev pub FailsOnLogs : {S : Type 0} → Ghosts S → Option Dates → List Told → Held S → Held S → Error → Type 0
FailsOnLogs g dates all old new e =
    (told : Told) × Contains all told × FailsOnLog g dates told.log.id old new e

-- what an archive has on record isn't told, or those of a log aren't all read
abbrev pub FailsToPrint : {S : Type 0} → Ghosts S → Option Dates → Held S → Held S → Error → Type 0
FailsToPrint g dates old new e =
    FailsToKnow g old new e ⊎ ((log : ℕ) × FailsOnLog g dates log old new e)
