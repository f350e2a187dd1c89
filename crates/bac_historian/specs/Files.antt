-- A run over an archive in files: a file, or a part of a folder. Read `RunsAt` and `KeepsAt`.
use Rattle.std.specs.Prelude.{◌≡◌, ◌⊎◌, ◌||◌, ◌==◌, Bool, false, Option, IfErr, IfOk, IfSome, IsSome, OnOk}
use Rattle.std.specs.Prelude.{Result, Ok, Err, String, is_some, length, not}
use Rattle.std.specs.String.{string_bytes}
use Rattle.std.specs.declared.alloc.Global.{Global}
use Rattle.sqlite_disk.specs.declared.Disk as disk
use Rattle.sqlite_disk.specs.declared.start.Start as start
use Rattle.sqlite_store.specs.declared.store.FileStore.{FileStore}
use Rattle.sqlite_wal.specs.Recovery.{Image}
use Rattle.sqlite.specs.Files.{file_state, over_files}
use Rattle.sqlite.specs.Held.{Held}
use Rattle.sqlite.specs.State.{HasCleanDisk, Survives}
use Rattle.sqlite.specs.declared.error.Error.{Error}
use Rattle.bac_batch.specs.Batch.{Batched}
use Rattle.bac_drive.specs.Happens.{Acts}
use Rattle.bac_device_poller.specs.declared.status.Status.{Status}
use Rattle.bac_files.specs.Files.{FileOf, IsDoneTo, IsNamed, IsOpenedBy, IsUnused}
use Rattle.bac_files.specs.declared.disk_files.DiskFiles.{DiskFiles}
use Rattle.bac_files.specs.declared.folder.Place.{Place}
use Rattle.bac_keeping.specs.Keeping.{Around}
use Rattle.bac_keeping.specs.declared.run.Run.{Run}
use Rattle.bac_parts.specs.Archives.{IsShut, IsUnopenedAs}
use Rattle.bac_parts.specs.declared.fault.FileFault.{FileFault}
use Rattle.bac_parts.specs.declared.fault.FileFault.TheVariants.{Database as DatabaseFails}
use Rattle.bac_site_poller.specs.Site.{SiteState}
use Rattle.bac_historian.specs.Kept.{HaltsFrom, IsCommitted, IsLeftFrom, KeepsFrom, RemainsFrom}
use Rattle.bac_historian.specs.declared.fault.Fault.{Fault}
use Rattle.bac_historian.specs.declared.fault.Fault.TheVariants as fault

-- a file may be made for a device that words name, or as the part that follows on another
abbrev pub may_make : Run → Option (String Global) → Bool
may_make run before = not (length run.named.items == 0) || is_some before

-- how a run ends whose file was closed, or couldn't be: that is told where all went well before
abbrev pub ended : Result Status Fault → Result (Unit {0}) Error → Result Status Fault
ended came (Ok none) = came
ended (Ok status) (Err error) = Err (fault.File (DatabaseFails error))
ended (Err why) (Err error) = Err why

-- what was in the file of the part before is there as it was
abbrev pub KeepsPart : {G : Type 0} {t : start.Ghosts G} → disk.Ghosts (FileOf t) → Image →
    (old new : DiskFiles G t) → Type 0
KeepsPart g image old new = IsUnused old → IfSome new.closed (IsDoneTo g image (λ found left. left ≡ found))

module _ {F G : Type 0} {s : start.Ghosts F} {t : start.Ghosts G} (f : disk.Ghosts (FileOf s)) (file : Image)
    (g : disk.Ghosts (FileOf t)) (part : Image) where
  -- The file of this name is opened, a run over its database ends so, and it is closed again, or can't be. A kill amid
  -- the run leaves what was there, or what `crash` tells.
  pub record RunsOver {P C : Type 0} (acts : Acts (Batched SiteState) P C) (run : Run) (old : Place) (blames : Bool)
      (files closed : DiskFiles F s) (parts : DiskFiles G t) (by left : Around P C) (result : Result Status Fault)
      : Type 0 where
    pub opened : Held (FileStore (FileOf s) f)
    pub last : Held (FileStore (FileOf s) f)
    pub is : IsOpenedBy file opened
    pub named : IsNamed (string_bytes old.path) (may_make run old.before) closed
    pub came : Result Status Fault
    pub keeps : HasCleanDisk (file_state last) → IfOk came (KeepsFrom g part acts run old.before parts by left
        (file_state opened).now (file_state last).now)
    pub halts : IfErr came (HaltsFrom g part over_files acts run old.before blames parts by left opened last)
    pub blamed : OnOk came (blames ≡ false)
    pub committed : HasCleanDisk (file_state last) → IsCommitted (file_state opened) (file_state last) came
    pub crash : Survives (file_state opened) (file_state last)
        (RemainsFrom g part acts run old.before parts by (file_state opened).now)
    pub shut : Result (Unit {0}) Error
    pub is_shut : IsShut last files closed shut
    pub ends : result ≡ ended came shut

  -- the file isn't opened, and nothing else is done
  abbrev pub OpensNothing : {P C : Type 0} → Run → Place → (blames : Bool) → (files closed : DiskFiles F s) →
      (by left : Around P C) → Result Status Fault → Type 0
  OpensNothing run old blames files closed by left result =
      (why : FileFault) × (result ≡ Err (fault.File why)) × (blames ≡ false) × (left ≡ by)
      × IsUnopenedAs (string_bytes old.path) (may_make run old.before) closed why
      × (closed.closed ≡ files.closed) × (closed.unclosed ≡ files.unclosed)

  -- a run over the file at a place
  abbrev pub RunsAt : {P C : Type 0} → Acts (Batched SiteState) P C → Run → Place → (blames : Bool) →
      (files closed : DiskFiles F s) → DiskFiles G t → (by left : Around P C) → Result Status Fault → Type 0
  RunsAt acts run old blames files closed parts by left result =
      OpensNothing run old blames files closed by left result
      ⊎ RunsOver acts run old blames files closed parts by left result

  -- the closed files hold what a run keeps over what they held
  abbrev pub KeepsAt : {P C : Type 0} → Acts (Batched SiteState) P C → Run → Place → (closed : DiskFiles F s) →
      DiskFiles G t → (by left : Around P C) → Status → Type 0
  KeepsAt acts run old closed parts by left status =
      IsSome closed.closed × IfSome closed.closed
      (IsDoneTo f file (λ found kept. KeepsFrom g part acts run old.before parts by left found kept status))

  -- Whatever comes of a run, closed files hold what they held, or what a kill leaves.
  abbrev pub IsLeftAt : {P C : Type 0} → Acts (Batched SiteState) P C → Run → Place → (files closed : DiskFiles F s) →
      DiskFiles G t → Around P C → Type 0
  IsLeftAt acts run old files closed parts by = IsUnused files
      → IfSome closed.closed (IsDoneTo f file
      (λ found left. IsLeftFrom g part acts run old.before parts by found left.trees))
