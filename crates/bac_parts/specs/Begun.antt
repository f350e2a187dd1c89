-- A part of an archive is begun. Read `IsBegunAs`.
use Rattle.std.specs.Prelude.{◌≡◌, ◌⊎◌, ℕ, Bool, true, false, List, [], Option, None, Some, IfSome, IsSome, IsSomeAnd}
use Rattle.std.specs.Prelude.{IfErr, IfOk, IsTrue, Result, String}
use Rattle.std.specs.String.{string_bytes}
use Rattle.std.specs.declared.alloc.Global.{Global}
use Rattle.sqlite_disk.specs.declared.Disk as disk
use Rattle.sqlite_disk.specs.declared.start.Start as start
use Rattle.sqlite_store.specs.declared.store.FileStore.{FileStore}
use Rattle.sqlite_trees.specs.Tree.{Trees}
use Rattle.sqlite_trees.specs.declared.store.Store.{Ghosts}
use Rattle.sqlite_wal.specs.Recovery.{Image}
use Rattle.sqlite.specs.Effect.{Database}
use Rattle.sqlite.specs.Files.{over_files}
use Rattle.sqlite.specs.Held.{Held as Connected, state}
use Rattle.sqlite.specs.State.{HasCleanDisk, IsUnchanged, State}
use Rattle.sqlite.specs.declared.error.Error.{Error}
use Rattle.sqlite.specs.declared.error.Error.TheVariants.{SqliteFailure}
use Rattle.sqlite.specs.declared.error.ErrorCode.TheVariants.{OutOfMemory}
use Rattle.bac_archive.specs.Archive.{IsArchive}
use Rattle.bac_archive.specs.Follow.{FollowsOn, puts_of}
use Rattle.bac_archive.specs.Making.{FailsToMake, IsMadeOf}
use Rattle.bac_archive.specs.Schema.{HasArchive, no_schema}
use Rattle.bac_archive.specs.Stands.{FailsToTell, StandsAs}
use Rattle.bac_archive.specs.declared.standing.Standing.{Standing}
use Rattle.bac_files.specs.Files.{FileOf, IsDoneTo, IsNamed, IsOpenedBy, IsUnclosed}
use Rattle.bac_files.specs.declared.disk_files.DiskFiles.{DiskFiles}
use Rattle.bac_parts.specs.Archives.{IsUnopenedAs, RefusesIt, RefusesToTake}
use Rattle.bac_parts.specs.Works.{Passage, left_state, opened_state}
use Rattle.bac_parts.specs.declared.fault.FileFault.{FileFault}
use Rattle.bac_parts.specs.declared.fault.FileFault.TheVariants as fault

-- ---- what the part before tells

-- an archive tells what stands in it, and is left as it is
abbrev pub TellsIn : State → State → Standing → Type 0
TellsIn old new told = IsArchive old.now × StandsAs old.now.trees told × IsUnchanged old new

-- Why a database doesn't tell it: it isn't taken as an archive; or it is one, and answers by an error when it is asked.
abbrev pub WhyUntold : {S : Type 0} → Ghosts S → Connected S → Connected S → FileFault → Type 0
WhyUntold {S = S} g old new why = RefusesToTake g old new why
    ⊎ ((error : Error) × (why ≡ fault.Database error) × (HasCleanDisk (state g new) → (archive : Connected S)
    × IsArchive (state g archive).now × IsUnchanged (state g old) (state g archive)
    × FailsToTell g archive new error))

-- whatever came of it, what was committed is there as it was
abbrev pub IsLeftAlone : State → State → Type 0
IsLeftAlone old new = HasCleanDisk new → IsTrue new.is_open → old.committed ≡ old.now → new.committed ≡ old.committed

-- so it is over a connection
pub record TellsOver (over : Passage) (came : Result Standing FileFault) : Type 0 where
  pub told : HasCleanDisk (left_state over) → IfOk came (TellsIn (opened_state over) (left_state over))
  pub why : IfErr came (WhyUntold over.ghosts over.old over.new)
  pub alone : IsLeftAlone (opened_state over) (left_state over)
  pub clean : HasCleanDisk (left_state over) → HasCleanDisk (opened_state over)

module _ {G : Type 0} {s : start.Ghosts G} (g : disk.Ghosts (FileOf s)) (image : Image) where
  -- the archive in the files of this path told that, and they are closed, and hold it still
  abbrev pub TellsBefore : List ℕ → DiskFiles G s → Standing → Type 0
  TellsBefore path parts told = IsNamed path false parts × IsSome parts.closed
      × IfSome parts.closed
      (IsDoneTo g image (λ found left. IsArchive found × StandsAs found.trees told × (left ≡ found)))

  -- Why it doesn't: they aren't opened; or they are, and can't be closed, or their database doesn't tell it.
  abbrev pub FailsBefore : List ℕ → DiskFiles G s → FileFault → Type 0
  FailsBefore path parts why = IsUnopenedAs path false parts why
      ⊎ (IsNamed path false parts × (((error : Error) × (why ≡ fault.Database error) × IsUnclosed error parts)
      ⊎ ((opened : Connected (FileStore (FileOf s) g)) × (last : Connected (FileStore (FileOf s) g))
      × IsOpenedBy image opened × WhyUntold over_files opened last why)))

  -- what the part before told: something where a database has nothing and is to follow on one
  abbrev pub IsToldBefore : Bool → Option (String Global) → DiskFiles G s → Option Standing → Type 0
  IsToldBefore has_nothing before parts None = (before ≡ None) ⊎ (has_nothing ≡ false)
  IsToldBefore has_nothing before parts (Some told) =
      (has_nothing ≡ true) × IsSomeAnd before (λ path. TellsBefore (string_bytes path) parts told)

  -- why it told nothing that should have
  abbrev pub BarsBefore : Bool → Option (String Global) → DiskFiles G s → FileFault → Type 0
  BarsBefore has_nothing before parts why =
      (has_nothing ≡ true) × IsSomeAnd before (λ path. FailsBefore (string_bytes path) parts why)

-- ---- what is begun

-- an archive with nothing in it that was made at this moment; or with what another told, and of its moment
abbrev pub FillsFrom : Option Standing → List ℕ → Database → Type 0
FillsFrom None made archive = IsMadeOf made archive []
FillsFrom (Some told) made archive = IsMadeOf (string_bytes told.made) archive (puts_of told)

-- A database is taken as an archive: as it is, if it has an archive's tables; and otherwise only if it has nothing,
-- and then it is filled so.
pub record BeginsAs (told : Option Standing) (made : List ℕ) (found archive : Database) : Type 0 where
  pub is : IsArchive archive
  pub same : HasArchive found.schema → archive ≡ found
  pub fit : HasArchive found.schema ⊎ (found.schema ≡ no_schema)
  pub fills : found.schema ≡ no_schema → FillsFrom told made archive

-- what was told isn't put: memory is wanting, or no archive is made of it
abbrev pub FailsPut : {S : Type 0} → Ghosts S → Standing → Connected S → Error → Type 0
FailsPut g told old error = (error ≡ SqliteFailure OutOfMemory)
    ⊎ FailsToMake g (string_bytes told.made) old (puts_of told) error

-- Why it isn't begun: it isn't taken as an archive, for what it held; or what was told isn't put; or it is put, and
-- what became of that isn't taken.
abbrev pub WhyUnbegun : {S : Type 0} → Ghosts S → Option Standing → List ℕ → Connected S → Connected S → FileFault
    → Type 0
WhyUnbegun g None made old new why = RefusesIt g made old new why
WhyUnbegun {S = S} g (Some told) made old new why =
    ((error : Error) × (why ≡ fault.Database error) × (HasCleanDisk (state g new) → FailsPut g told old error))
    ⊎ ((filled : Connected S) × (HasCleanDisk (state g new) → FillsFrom (Some told) made (state g filled).now)
    × RefusesIt g made filled new why)

module _ {G : Type 0} {s : start.Ghosts G} (g : disk.Ghosts (FileOf s)) (image : Image) where
  -- a part follows on the archive in the files of this path, which are closed, and hold it still
  abbrev pub FollowsPart : DiskFiles G s → Database → String Global → Type 0
  FollowsPart parts part path = IsNamed (string_bytes path) false parts × IsSome parts.closed
      × IfSome parts.closed
      (IsDoneTo g image (λ found left. IsArchive found × FollowsOn found.trees part × (left ≡ found)))

  -- an archive begins with nothing, at this moment, or follows on the part before it
  abbrev pub Begins : List ℕ → Option (String Global) → DiskFiles G s → Database → Type 0
  Begins made None parts archive = IsMadeOf made archive []
  Begins made (Some path) parts archive = FollowsPart parts archive path

  -- A database is taken as an archive: as it is, if it has an archive's tables; and otherwise only if it has nothing,
  -- and then it begins so.
  pub record IsBegunAs (made : List ℕ) (before : Option (String Global)) (parts : DiskFiles G s)
      (found archive : Database) : Type 0 where
    pub is : IsArchive archive
    pub same : HasArchive found.schema → archive ≡ found
    pub fit : HasArchive found.schema ⊎ (found.schema ≡ no_schema)
    pub begins : found.schema ≡ no_schema → Begins made before parts archive

  -- the trees of what begins so
  abbrev pub IsPartOf : List ℕ → Option (String Global) → DiskFiles G s → Trees → Type 0
  IsPartOf made before parts trees =
      (archive : Database) × Begins made before parts archive × (trees ≡ archive.trees)

  -- Why it isn't begun. The part before is blamed where it doesn't tell what the database is to have, since that has
  -- nothing; else the database itself isn't begun, with what that told.
  abbrev pub WhyNotBegun : {S : Type 0} → Ghosts S → List ℕ → Option (String Global) → Bool → DiskFiles G s
      → Connected S → Connected S → FileFault → Type 0
  WhyNotBegun c made before true parts old new why =
      ((state c old).now.schema ≡ no_schema) × (new ≡ old)
      × IsSomeAnd before (λ path. FailsBefore g image (string_bytes path) parts why)
  WhyNotBegun c made before false parts old new why = (has_nothing : Bool) × (told : Option Standing)
      × (has_nothing ≡ true → (state c old).now.schema ≡ no_schema)
      × IsToldBefore g image has_nothing before parts told × WhyUnbegun c told made old new why
