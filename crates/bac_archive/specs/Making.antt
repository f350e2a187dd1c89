-- An empty database becomes an archive.
use Rattle.std.specs.Prelude.{◌≡◌, ◌⊎◌, ℕ, pos, true, IsTrue, List, [], ◌∷◌, Err, codes}
use Rattle.std.specs.Prelude.{Some, slice_get}
use Rattle.sqlite_value.specs.declared.value.Value.TheVariants.{Null, Int, Text}
use Rattle.sqlite_schema.specs.declared.schema.Schema.{Schema}
use Rattle.sqlite_trees.specs.declared.store.Store.{Ghosts}
use Rattle.sqlite.specs.declared.error.Error.{Error}
use Rattle.sqlite.specs.declared.error.Error.TheVariants.{SqliteFailure}
use Rattle.sqlite.specs.declared.error.ErrorCode.TheVariants.{TransactionState}
use Rattle.sqlite.specs.Effect.{Database}
use Rattle.sqlite.specs.State.{State, ExecutesInside}
use Rattle.sqlite.specs.Held.{Held, state}
use Rattle.sqlite.specs.Steps.{FailsToCommit}
use Rattle.bac_archive.specs.Schema.{archive_schema, no_schema, AreEmpty}
use Rattle.bac_archive.specs.Schema.{with_archive, with_devices, with_logs, with_items, with_beginnings}
use Rattle.bac_archive.specs.Schema.{with_records, with_gaps, with_epochs}
use Rattle.bac_archive.specs.Put.{GivesUp, IsPut}
use Rattle.bac_archive.specs.declared.row.Put.{Put}
use Rattle.bac_archive.specs.Schema.{archive_text, devices_text, logs_text, items_text, beginnings_text}
use Rattle.bac_archive.specs.Schema.{records_text, gaps_text, epochs_text, newest_text}

-- the version of the format
abbrev pub version : ℕ
version = 3

-- inside a transaction: tables are laid out, and have no row yet
pub record Lays (old new : State) (out : Schema) : Type 0 where
  pub schema : new.now.schema ≡ out
  pub empty : AreEmpty out new.now.trees
  pub mode : new.in_transaction ≡ true
  pub committed : new.committed ≡ old.committed

-- an archive with nothing in it, made at this moment
pub record IsNew (made : List ℕ) (db : Database) : Type 0 where
  pub schema : db.schema ≡ archive_schema
  pub archive : db.trees 0 ≡ (Int (pos version) ∷ Null ∷ Text made ∷ []) ∷ []
  pub devices : db.trees 1 ≡ []
  pub logs : db.trees 3 ≡ []
  pub items : db.trees 5 ≡ []
  pub beginnings : db.trees 6 ≡ []

-- inside a transaction: the same
pub record IsMade (moment : List ℕ) (old new : State) : Type 0 where
  pub made : IsNew moment new.now
  pub mode : new.in_transaction ≡ true
  pub committed : new.committed ≡ old.committed

-- the statement that puts the version, and the moment
abbrev pub put_version_text : List ℕ
put_version_text = codes "INSERT INTO archive (version, made) VALUES (3, ?1)"

-- a statement that makes a table or a view, and what stands before it
pub record Step : Type 0 where
  pub text : List ℕ
  pub before : Schema

-- those statements, in their order
abbrev pub steps : List Step
steps =
    record { text = archive_text; before = no_schema } ∷ record { text = devices_text; before = with_archive }
    ∷ record { text = logs_text; before = with_devices } ∷ record { text = items_text; before = with_logs }
    ∷ record { text = beginnings_text; before = with_items } ∷ record { text = records_text; before = with_beginnings }
    ∷ record { text = gaps_text; before = with_records } ∷ record { text = epochs_text; before = with_gaps }
    ∷ record { text = newest_text; before = with_epochs } ∷ []

-- inside a transaction: the database gives up on one of them, when those before it are done and nothing is committed
pub record FailsToLay {S : Type 0} (g : Ghosts S) (old new : Held S) (e : Error) : Type 0 where
  pub place : ℕ
  pub step : Step
  pub at : slice_get steps place ≡ Some step
  pub mid : Held S
  pub laid : (state g mid).now.schema ≡ step.before
  pub mode : (state g mid).in_transaction ≡ true
  pub committed : (state g mid).committed ≡ (state g old).committed
  pub why : ExecutesInside 0 step.text [] (state g mid) (state g new) (Err e)

-- inside a transaction: it gives up on one of them, or behind them on the version
abbrev pub FailsToMakeNew : {S : Type 0} → Ghosts S → List ℕ → Held S → Held S → Error → Type 0
FailsToMakeNew {S = S} g moment old new e =
    FailsToLay g old new e ⊎ ((mid : Held S) × Lays (state g old) (state g mid) archive_schema
    × ExecutesInside 0 put_version_text (Text moment ∷ []) (state g mid) (state g new) (Err e))

-- a new archive, made at this moment, and these rows
abbrev pub IsMadeOf : List ℕ → Database → List Put → Type 0
IsMadeOf moment db puts = (made : Database) × IsNew moment made × IsPut made db puts

-- inside a transaction: the same
pub record IsFilled (moment : List ℕ) (old new : State) (puts : List Put) : Type 0 where
  pub of_puts : IsMadeOf moment new.now puts
  pub mode : new.in_transaction ≡ true
  pub committed : new.committed ≡ old.committed

-- inside a transaction: the database gives up on a table or a view, or on a row
abbrev pub FailsToFill : {S : Type 0} → Ghosts S → List ℕ → Held S → Held S → List Put → Error → Type 0
FailsToFill {S = S} g moment old new puts e =
    FailsToMakeNew g moment old new e
    ⊎ ((mid : Held S) × IsMade moment (state g old) (state g mid) × GivesUp g mid new puts e)

-- Why an archive isn't made: a transaction is open already; or the database gives up on a statement, or on the commit.
abbrev pub FailsToMake : {S : Type 0} → Ghosts S → List ℕ → Held S → List Put → Error → Type 0
FailsToMake {S = S} g moment old puts e =
    (IsTrue (state g old).in_transaction × (e ≡ SqliteFailure TransactionState))
    ⊎ (((new : Held S) × FailsToFill g moment (record old { in_transaction = true }) new puts e)
    ⊎ ((mid : Held S) × (new : Held S)
    × IsFilled moment (state g (record old { in_transaction = true })) (state g mid) puts
    × FailsToCommit (state g mid) (state g new) e))
