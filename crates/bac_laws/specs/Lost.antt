-- Nothing that an archive has is lost. Read `LosesNone`.
use Rattle.std.specs.Prelude.{◌≡◌, ◌≢◌, ℕ, pos, ◌+◌, ◌*◌, false, ◌∷◌, IfSome}
use Rattle.std.specs.List.{Contains}
use Rattle.sqlite_disk.specs.declared.Disk as disk
use Rattle.sqlite_disk.specs.declared.start.Start as start
use Rattle.sqlite_value.specs.Order.{Row as Columns}
use Rattle.sqlite_value.specs.declared.value.Value.TheVariants.{Null, Int}
use Rattle.sqlite_wal.specs.Files.{image_at}
use Rattle.sqlite.specs.Effect.{Database}
use Rattle.bac_archive.specs.Archive.{HasId}
use Rattle.bac_archive.specs.Put.{HaveOwnIds, is_counted}
use Rattle.bac_archive.specs.Schema.{HasArchive, no_schema}
use Rattle.bac_files.specs.Files.{FileOf, IsDoneTo, IsUnused}
use Rattle.bac_files.specs.declared.disk_files.DiskFiles.{DiskFiles}

-- the table `devices` has a device under this id
abbrev pub HasDevice : Database → ℕ → Type 0
HasDevice db id = HasId (db.trees 1) id

-- the table `logs` has a log under this id
abbrev pub HasLog : Database → ℕ → Type 0
HasLog db id = HasId (db.trees 3) id

-- The table `items` has a row of this log, epoch and number, with these columns: the last number of a gap, the stamp,
-- the value, the datum and the flags of a record.
abbrev pub HasItem : Database → ℕ → ℕ → ℕ → Columns → Type 0
HasItem db log epoch number columns =
    Contains (db.trees 5) (Int (pos ((log * 32768 + epoch) * 4294967296 + number)) ∷ Null ∷ columns)

-- the table `beginnings` has this epoch of a log
abbrev pub HasEpoch : Database → ℕ → ℕ → Type 0
HasEpoch db log epoch = HasId (db.trees 6) (log * 32768 + epoch)

-- the row of an epoch there, with these columns: the number from which its items cover each one, and why it began
abbrev pub beginning : ℕ → ℕ → Columns → Columns
beginning log epoch columns = Int (pos (log * 32768 + epoch)) ∷ Null ∷ columns

-- the table has that row
abbrev pub Begins : Database → ℕ → ℕ → Columns → Type 0
Begins db log epoch columns = Contains (db.trees 6) (beginning log epoch columns)

-- Of an archive each item is there afterwards, column by column; each epoch, and of one that wasn't begun by the log's
-- count alone each column, where none has the id of another, as SQLite keeps them; and each log and each device under
-- its id. Another database that had something is left as it was.
pub record LosesNone (found left : Database) : Type 0 where
  pub items : HasArchive found.schema → (log epoch number : ℕ) (columns : Columns)
      → HasItem found log epoch number columns → HasItem left log epoch number columns
  pub epochs : HasArchive found.schema → (log epoch : ℕ) → HasEpoch found log epoch → HasEpoch left log epoch
  pub beginnings : HasArchive found.schema → HaveOwnIds (found.trees 6) → (log epoch : ℕ) (columns : Columns)
      → is_counted (beginning log epoch columns) ≡ false → Begins found log epoch columns
      → Begins left log epoch columns
  pub logs : HasArchive found.schema → (id : ℕ) → HasLog found id → HasLog left id
  pub devices : HasArchive found.schema → (id : ℕ) → HasDevice found id → HasDevice left id
  pub others : ¬ HasArchive found.schema → found.schema ≢ no_schema → left.trees ≡ found.trees

-- So it is of what two files held, and hold once they are closed.
abbrev pub LosesNoneIn : {F : Type 0} {s : start.Ghosts F} → disk.Ghosts (FileOf s) → (files closed : DiskFiles F s) →
    Type 0
LosesNoneIn {s = s} g files closed = IsUnused files → IfSome closed.closed (IsDoneTo g (image_at s) LosesNone)
