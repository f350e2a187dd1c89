-- A file, a database in it that is taken as an archive, and why it isn't.
use Rattle.std.specs.Prelude.{◌≡◌, ◌≢◌, ◌⊎◌, ℕ, Bool, List, [], IsTrue, Result, Ok, Err}
use Rattle.sqlite_disk.specs.declared.Disk as disk
use Rattle.sqlite_disk.specs.declared.start.Start as start
use Rattle.sqlite_store.specs.declared.store.FileStore.{FileStore}
use Rattle.sqlite_trees.specs.declared.store.Store.{Ghosts}
use Rattle.sqlite.specs.Effect.{Database}
use Rattle.sqlite.specs.Held.{Held as Connected, state}
use Rattle.sqlite.specs.State.{HasCleanDisk, State}
use Rattle.sqlite.specs.declared.error.Error.{Error}
use Rattle.bac_archive.specs.Archive.{FailsToOpen, IsArchive, WhyRefused}
use Rattle.bac_archive.specs.Making.{IsMadeOf}
use Rattle.bac_archive.specs.Schema.{HasArchive, no_schema}
use Rattle.bac_archive.specs.declared.opening.Refused.{Refused}
use Rattle.bac_archive.specs.declared.opening.Refused.TheVariants.{Database as Failed}
use Rattle.bac_files.specs.Files.{FileOf, IsClosedBy, IsNamed, IsReason, IsUnclosed, IsUnopened}
use Rattle.bac_files.specs.declared.disk_files.DiskFiles.{DiskFiles}
use Rattle.bac_files.specs.declared.not_opened.NotOpened.{NotOpened}
use Rattle.bac_files.specs.declared.not_opened.NotOpened.TheVariants.{Empty, Memory}
use Rattle.bac_parts.specs.declared.fault.FileFault.{FileFault}
use Rattle.bac_parts.specs.declared.fault.FileFault.TheVariants as fault

-- a database is as it was, and so is what a commit left of it
abbrev pub IsAsWas : State → State → Type 0
IsAsWas old new = (new.now ≡ old.now) × (new.committed ≡ old.committed)

-- a database is taken as an archive: as it is, if it has an archive's tables; and otherwise only if it has nothing,
-- and then an archive is made of it at this moment, with nothing in it
pub record IsTakenAs (made : List ℕ) (found archive : Database) : Type 0 where
  pub is : IsArchive archive
  pub same : HasArchive found.schema → archive ≡ found
  pub fit : HasArchive found.schema ⊎ (found.schema ≡ no_schema)
  pub new : found.schema ≡ no_schema → IsMadeOf made archive []

-- it isn't opened as one, by what it held; or its database failed, for a cause
abbrev pub IsRefusal : {S : Type 0} → Ghosts S → List ℕ → Connected S → Connected S → Refused → Type 0
IsRefusal g made old new why = WhyRefused (state g old) (state g new) (Err why)
    × (HasCleanDisk (state g new) → (error : Error) → why ≡ Failed error → FailsToOpen g made old new error)

-- it is refused, for that
abbrev pub RefusesIt : {S : Type 0} → Ghosts S → List ℕ → Connected S → Connected S → FileFault → Type 0
RefusesIt g made old new told = (why : Refused) × (told ≡ fault.Refused why) × IsRefusal g made old new why

-- It isn't taken as one as it is: there is nothing in it; or there is something, which is refused.
abbrev pub RefusesToTake : {S : Type 0} → Ghosts S → Connected S → Connected S → FileFault → Type 0
RefusesToTake g old new told =
    ((told ≡ fault.Unopened Empty) × ((state g old).now.schema ≡ no_schema) × (new ≡ old))
    ⊎ (((state g old).now.schema ≢ no_schema) × RefusesIt g [] old new told)

-- what was done, and whether it could be closed, as one: a fault of the close is told where all went well before
abbrev pub and_shut : {T : Type 0} → Result T FileFault → Result (Unit {0}) Error → Result T FileFault
and_shut done (Ok none) = done
and_shut (Ok value) (Err error) = Err (fault.Database error)
and_shut (Err why) (Err error) = Err why

module _ {F : Type 0} {s : start.Ghosts F} where
  -- The file of this name, which might be made or not, isn't opened, for this reason. It was asked for by its name,
  -- unless memory was wanting for that.
  pub record IsNotOpened (path : List ℕ) (may : Bool) (files : DiskFiles F s) (why : NotOpened) : Type 0 where
    pub told : IsUnopened why files
    pub reason : IsReason may why
    pub named : why ≢ Memory → IsNamed path may files

  -- and this is the fault
  abbrev pub IsUnopenedAs : List ℕ → Bool → DiskFiles F s → FileFault → Type 0
  IsUnopenedAs path may files told = (why : NotOpened) × (told ≡ fault.Unopened why) × IsNotOpened path may files why

  module _ {g : disk.Ghosts (FileOf s)} where
    -- an open database was closed; or it couldn't be, by this error, which is noted
    abbrev pub IsShut : Connected (FileStore (FileOf s) g) → DiskFiles F s → DiskFiles F s → Result (Unit {0}) Error
        → Type 0
    IsShut last old new (Ok none) = IsClosedBy last new.closed × (new.unclosed ≡ old.unclosed)
    IsShut last old new (Err error) = IsUnclosed error new × (new.closed ≡ old.closed)

    -- it was closed or not, and that is how it ends
    abbrev pub EndsAs : {T : Type 0} → Connected (FileStore (FileOf s) g) → DiskFiles F s → DiskFiles F s
        → Result T FileFault → Result T FileFault → Type 0
    EndsAs last old new done ended =
        (shut : Result (Unit {0}) Error) × IsShut last old new shut × (ended ≡ and_shut done shut)
