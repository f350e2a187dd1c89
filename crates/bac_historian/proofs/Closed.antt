-- What closed files hold behind a run.
use Rattle.std.proofs.Common.{◌≡◌, ◌∙◌, Result, Ok, Err, IfOk, IfSome, IsTrue, OnErr, OnOk, subst, sym}
use Rattle.sqlite_disk.specs.declared.Disk as disk
use Rattle.sqlite_disk.specs.declared.start.Start as start
use Rattle.sqlite_store.specs.declared.store.FileStore.{FileStore}
use Rattle.sqlite_wal.specs.Recovery.{Image}
use Rattle.sqlite.specs.Effect.{Database}
use Rattle.sqlite.specs.Files.{file_state}
use Rattle.sqlite.specs.Held.{Held}
use Rattle.sqlite.specs.State.{HasCleanDisk}
use Rattle.sqlite.specs.declared.error.Error.{Error}
use Rattle.bac_batch.specs.Batch.{Batched}
use Rattle.bac_drive.specs.Happens.{Acts}
use Rattle.bac_device_poller.specs.declared.status.Status.{Status}
use Rattle.bac_files.proofs.FilesLemmas.{opened_settled}
use Rattle.bac_files.specs.Files.{FileOf, IsClosedBy, IsDoneTo, IsOpenedBy, IsUnused}
use Rattle.bac_files.specs.declared.disk_files.DiskFiles.{DiskFiles}
use Rattle.bac_files.specs.declared.folder.Place.{Place}
use Rattle.bac_keeping.specs.Keeping.{Around}
use Rattle.bac_keeping.specs.declared.run.Run.{Run}
use Rattle.bac_parts.proofs.FileLemmas.{none_closed, some_done}
use Rattle.bac_site_poller.specs.Site.{SiteState}
use Rattle.bac_historian.specs.Files.{KeepsAt, ended}
use Rattle.bac_historian.specs.Kept.{IsCommitted, KeepsFrom}
use Rattle.bac_historian.specs.declared.fault.Fault.{Fault}

module _ {F : Type 0} {s : start.Ghosts F} {f : disk.Ghosts (FileOf s)} (file : Image) (opened last : Held (FileStore (FileOf s) f)) (files closed : DiskFiles F s) (is : IsOpenedBy file opened)
    (clean : HasCleanDisk (file_state last) → HasCleanDisk (file_state opened)) where
  -- what the run kept is there, since it is committed
  pub kept_at : {G P C : Type 0} {t : start.Ghosts G} (g : disk.Ghosts (FileOf t)) (part : Image) (acts : Acts (Batched SiteState) P C) (run : Run) (old : Place) (parts : DiskFiles G t) (by left : Around P C)
      → (came : Result Status Fault) (shut : Result (Unit {0}) Error) → (HasCleanDisk (file_state last) → IfOk came (KeepsFrom g part acts run old.before parts by left (file_state opened).now (file_state last).now))
      → (HasCleanDisk (file_state last) → IsCommitted (file_state opened) (file_state last) came) → OnOk shut (IsClosedBy last closed.closed)
      → IfOk (ended came shut) (KeepsAt f file g part acts run old closed parts by left)
  kept_at g part acts run old parts by left (Ok status) (Ok none) keeps committed copied = (
    copied.0,
    some_done file opened last closed.closed is clean (λ found kept. KeepsFrom g part acts run old.before parts by left found kept status)
        (λ honest is_open. subst (λ (d : Database). KeepsFrom g part acts run old.before parts by left (file_state opened).now d status) (sym (committed honest)) (keeps honest)) copied.1,
  )
  kept_at g part acts run old parts by left (Ok status) (Err error) keeps committed copied = tt
  kept_at g part acts run old parts by left (Err why) (Ok none) keeps committed copied = tt
  kept_at g part acts run old parts by left (Err why) (Err error) keeps committed copied = tt

  -- whatever came of it, this was done to what was there
  pub left_at : (does : Database → Database → Type 0) (shut : Result (Unit {0}) Error) → IsUnused files
      → (HasCleanDisk (file_state last) → IsTrue (file_state opened).is_open → (file_state opened).committed ≡ (file_state opened).now → IsTrue (file_state last).is_open → does (file_state opened).now (file_state last).committed)
      → OnOk shut (IsClosedBy last closed.closed) → OnErr shut (closed.closed ≡ files.closed) → IfSome closed.closed (IsDoneTo f file does)
  left_at does (Ok none) unused done copied still =
      some_done file opened last closed.closed is clean does (λ honest is_open. done honest (is.opened (clean honest)).0.is_open (opened_settled file opened is (clean honest)) is_open) copied.1
  left_at does (Err error) unused done copied still = none_closed closed.closed _ (still ∙ unused)
