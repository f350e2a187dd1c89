-- What is done to the files of a database, from what they held as it was opened to what they hold once it is closed.
use Rattle.std.specs.Prelude.{◌≡◌, ◌⊎◌, ℕ, Bool, false, List, Option, Some, None, IfSome, IsSome, IsTrue, option_map}
use Rattle.std.specs.String.{string_bytes}
use Rattle.sqlite_disk.specs.declared.Disk as disk
use Rattle.sqlite_disk.specs.declared.Files.{Files}
use Rattle.sqlite_disk.specs.declared.modelled.Modelled.{Modelled}
use Rattle.sqlite_disk.specs.declared.start.Start as start
use Rattle.sqlite_std_file.specs.contracts.host.HostCalls.TheImpl as host
use Rattle.sqlite_std_file.specs.declared.host.Host.{Host}
use Rattle.sqlite_store.specs.declared.store.FileStore.{FileStore}
use Rattle.sqlite_trees.specs.Tree.{Trees}
use Rattle.sqlite_wal.specs.Files.{outcomes}
use Rattle.sqlite_wal.specs.Reads.{AreClean}
use Rattle.sqlite_wal.specs.Recovery.{Image}
use Rattle.sqlite.specs.Closing.{HoldsAlone, IsCopied}
use Rattle.sqlite.specs.Effect.{Database, IsDatabase}
use Rattle.sqlite.specs.Files.{AreFoundIn, HoldsDatabase, IsOpened, file_state, image_of}
use Rattle.sqlite.specs.Held.{Held, IsNew}
use Rattle.sqlite.specs.Opening.{is_open_error}
use Rattle.sqlite.specs.Start.{FindsIn}
use Rattle.sqlite.specs.State.{HasCleanDisk}
use Rattle.sqlite.specs.declared.error.Error.{Error}
use Rattle.sqlite.specs.declared.error.Error.TheVariants.{SqliteFailure}
use Rattle.sqlite.specs.declared.error.ErrorCode.TheVariants.{CannotOpen, DatabaseBusy}
use Rattle.bac_files.specs.declared.disk_files.DiskFiles.{DiskFiles}
use Rattle.bac_files.specs.declared.limited.Limited.{Limited}
use Rattle.bac_files.specs.declared.not_opened.NotOpened.{NotOpened}
use Rattle.bac_files.specs.declared.not_opened.Obstacle.{Obstacle}
use Rattle.bac_files.specs.declared.not_opened.NotOpened.TheVariants.{InUse, Absent, Empty, Barred, Memory}
use Rattle.bac_files.specs.declared.not_opened.NotOpened.TheVariants.{Database as Failed}

-- a file of the machine that held what a `Start` says, and gets no longer than it may
abbrev pub FileOf : {F : Type 0} → start.Ghosts F → Type 0
FileOf {F = F} s = Limited (Modelled Host F host.ghosts s)

-- why a database isn't opened that answers so
abbrev pub reason_of : Error → NotOpened
reason_of (SqliteFailure DatabaseBusy) = InUse
reason_of error = Failed error

-- So it isn't; or, if it can't be opened, for what the machine says of its files.
abbrev pub IsReasonFor : Error → NotOpened → Type 0
IsReasonFor error why = (why ≡ reason_of error)
    ⊎ ((error ≡ SqliteFailure CannotOpen) × (obstacle : Obstacle) × (why ≡ Barred obstacle))

-- Why a database isn't opened that may be made, or may not: only one that may not is absent or empty; and the database
-- answered by an error of an open.
abbrev pub IsReason : Bool → NotOpened → Type 0
IsReason may Absent = may ≡ false
IsReason may Empty = may ≡ false
IsReason may InUse = Unit {0}
IsReason may (Barred obstacle) = Unit {0}
IsReason may Memory = Unit {0}
IsReason may (Failed error) = IsTrue (is_open_error error)

-- a database is the one that two files held, or an empty one if they held none
pub record IsFoundIn (image : Image) (db : Database) : Type 0 where
  pub sound : IsDatabase db
  pub holds : (trees : Trees) → HoldsDatabase image trees → db.trees ≡ trees
  pub reads : AreFoundIn image db.trees

-- two files hold a database, the database file alone does, and so they do after a crash
pub record IsLeftIn {D : Type 0} (g : disk.Ghosts D) (files : Files D) (db : Database) : Type 0 where
  pub seen : HoldsAlone (image_of g files) db.trees
  pub left : (image : Image) → outcomes g files.log files.db image → HoldsAlone image db.trees

-- This was done to the database that two files held, which made it the one that they hold now, if nobody else wrote
-- them and the disk gave back what was written.
abbrev pub IsDoneTo : {D : Type 0} → (g : disk.Ghosts D) → Image → (Database → Database → Type 0) → Files D → Type 0
IsDoneTo g image does files = AreClean g files.log files.db →
    (found : Database) × (left : Database) × IsFoundIn image found × does found left × IsLeftIn g files left

module _ {D : Type 0} {g : disk.Ghosts D} where
  -- a new connection to what two files held
  pub record IsOpenedBy (image : Image) (conn : Held (FileStore D g)) : Type 0 where
    pub fresh : IsNew conn
    pub opened : HasCleanDisk (file_state conn) → IsOpened conn
    pub found : HasCleanDisk (file_state conn) → FindsIn image (file_state conn)

  -- the files of a database were closed, and are kept as the connection left them
  abbrev pub IsClosedBy : Held (FileStore D g) → Option (Files D) → Type 0
  IsClosedBy conn closed = IsSome closed × IfSome closed (λ files. AreClean g files.log files.db → IsCopied conn files)

module _ {F : Type 0} {s : start.Ghosts F} where
  -- no database was closed yet
  abbrev pub IsUnused : DiskFiles F s → Type 0
  IsUnused files = files.closed ≡ None

  -- the database of this name was asked for, which might be made or not
  abbrev pub IsNamed : List ℕ → Bool → DiskFiles F s → Type 0
  IsNamed path may files = (option_map string_bytes files.name ≡ Some path) × (files.may_make ≡ may)

  -- no database was opened or closed in vain yet
  abbrev pub IsUnasked : DiskFiles F s → Type 0
  IsUnasked files = (files.refused ≡ None) × (files.unclosed ≡ None)

  -- the database that was asked for last wasn't opened, for this reason
  abbrev pub IsUnopened : NotOpened → DiskFiles F s → Type 0
  IsUnopened why files = files.refused ≡ Some why

  -- a database that was opened couldn't be closed, by this error
  abbrev pub IsUnclosed : Error → DiskFiles F s → Type 0
  IsUnclosed error files = files.unclosed ≡ Some error

  -- the same files, which are waited for so many seconds where they are in use
  abbrev pub waiting : ℕ → DiskFiles F s → DiskFiles F s
  waiting seconds files = record files { wait = seconds }

  -- nothing but how often a file was asked is another
  abbrev pub KeepsOthers : DiskFiles F s → DiskFiles F s → Type 0
  KeepsOthers old new = new ≡ record old { asked = new.asked }
