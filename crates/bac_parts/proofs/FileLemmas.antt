-- What was done over a connection to files that were opened, and closed behind it.
use Rattle.std.proofs.Common.{◌≡◌, ◌≢◌, ◌∙◌, ap, inl, inr, refl, Bool, false, List, ℕ, Option, None, Some, Result, Ok, Err, IfErr, IfOk, IfSome, IsTrue, OnErr, OnOk, subst, sym}
use Rattle.sqlite_disk.specs.declared.Disk as disk
use Rattle.sqlite_disk.specs.declared.Files.{Files}
use Rattle.sqlite_disk.specs.declared.start.Start as start
use Rattle.sqlite_store.specs.declared.store.FileStore.{FileStore}
use Rattle.sqlite_wal.specs.Reads.{AreClean}
use Rattle.sqlite_wal.specs.Recovery.{Image}
use Rattle.sqlite.specs.Closing.{IsCopied}
use Rattle.sqlite.specs.Effect.{Database}
use Rattle.sqlite.specs.Files.{file_state, over_files}
use Rattle.sqlite.specs.Held.{Held as Connected}
use Rattle.sqlite.specs.State.{HasCleanDisk}
use Rattle.sqlite.specs.declared.error.Error.{Error}
use Rattle.bac_archive.specs.Archive.{IsArchive}
use Rattle.bac_archive.specs.Stands.{StandsAs}
use Rattle.bac_archive.specs.declared.standing.Standing.{Standing}
use Rattle.bac_files.proofs.FilesLemmas.{done_to, opened_settled}
use Rattle.bac_files.specs.Files.{FileOf, IsClosedBy, IsDoneTo, IsNamed, IsOpenedBy, IsUnclosed, IsUnused}
use Rattle.bac_files.specs.declared.disk_files.DiskFiles.{DiskFiles}
use Rattle.bac_parts.specs.Archives.{IsShut, and_shut}
use Rattle.bac_parts.specs.Begun.{FailsBefore, TellsBefore, TellsOver}
use Rattle.bac_parts.specs.Works.{passage}
use Rattle.bac_parts.specs.declared.fault.FileFault.{FileFault}

-- what went well is no error
pub ok_is_no_err : {T E : Type 0} (a : T) (b : E) → ◌≡◌ {A = Result T E} (Ok a) (Err b) → ⊥
ok_is_no_err a b same = cc

-- of files that aren't closed nothing has to hold
pub none_closed : {D : Type 0} (closed : Option (Files D)) (Q : Files D → Type 0) → closed ≡ None → IfSome closed Q
none_closed closed Q is = subst (λ (o : Option (Files _)). IfSome o Q) (sym is) tt

-- a connection was closed, or couldn't be
pub shut_so : {F : Type 0} {s : start.Ghosts F} {g : disk.Ghosts (FileOf s)} (last : Connected (FileStore (FileOf s) g)) (old mid new : DiskFiles F s) (r : Result (Unit {0}) Error)
    → (mid.closed ≡ old.closed) × (mid.unclosed ≡ old.unclosed) → OnOk r (IsClosedBy last new.closed) → OnErr r (new.closed ≡ mid.closed) → IfErr r (λ error. IsUnclosed error new)
    → OnOk r (new.unclosed ≡ mid.unclosed) → IsShut last old new r
shut_so last old mid new (Ok none) still closed same failed unfailed = (closed, unfailed ∙ still.1)
shut_so last old mid new (Err error) still closed same failed unfailed = (failed, same ∙ still.0)

-- what was done over the connection was done to the files
pub some_done : {D : Type 0} {g : disk.Ghosts D} (image : Image) (opened last : Connected (FileStore D g)) (closed : Option (Files D)) → IsOpenedBy image opened
    → (HasCleanDisk (file_state last) → HasCleanDisk (file_state opened)) → (does : Database → Database → Type 0)
    → (HasCleanDisk (file_state last) → IsTrue (file_state last).is_open → does (file_state opened).now (file_state last).committed)
    → IfSome closed (λ files. AreClean g files.log files.db → IsCopied last files) → IfSome closed (IsDoneTo g image does)
some_done image opened last None is clean does done copied = tt
some_done image opened last (Some files) is clean does done copied = done_to image opened last files does is clean done copied

-- what was done to two files was this too
pub done_so : {D : Type 0} (g : disk.Ghosts D) (image : Image) (P Q : Database → Database → Type 0) → ((found left : Database) → P found left → Q found left)
    → (closed : Option (Files D)) → IfSome closed (IsDoneTo g image P) → IfSome closed (IsDoneTo g image Q)
done_so g image P Q f None it = tt
done_so g image P Q f (Some files) it = λ honest. let (found, left, in', does, out) = it honest in (found, left, in', f found left does, out)

module _ {G : Type 0} {s : start.Ghosts G} {g : disk.Ghosts (FileOf s)} (image : Image) (path : List ℕ) (old new : DiskFiles G s) (opened last : Connected (FileStore (FileOf s) g))
    (is : IsOpenedBy image opened) (named : IsNamed path false new) where
  -- what was told over the connection is what the files tell, if they could be closed
  pub told_so : (came : Result Standing FileFault) (shut : Result (Unit {0}) Error) → TellsOver (passage over_files opened last) came → IsShut last old new shut
      → IfOk (and_shut came shut) (TellsBefore g image path new)
  told_so (Ok told) (Ok none) tells closed = (
    named,
    closed.0.0,
    some_done image opened last new.closed is tells.clean (λ found left. IsArchive found × StandsAs found.trees told × (left ≡ found))
        (λ clean held. let it = tells.told clean in (it.0, it.1, it.2.0.committed_is ∙ opened_settled image opened is (tells.clean clean))) closed.0.1,
  )
  told_so (Ok told) (Err error) tells closed = tt
  told_so (Err why) (Ok none) tells closed = tt
  told_so (Err why) (Err error) tells closed = tt

  -- why it isn't
  pub untold_so : (came : Result Standing FileFault) (shut : Result (Unit {0}) Error) → TellsOver (passage over_files opened last) came → IsShut last old new shut
      → IfErr (and_shut came shut) (FailsBefore g image path new)
  untold_so (Ok told) (Ok none) tells closed = tt
  untold_so (Ok told) (Err error) tells closed = inr (named, inl (error, refl, closed.0))
  untold_so (Err why) (Ok none) tells closed = inr (named, inr (opened, last, is, tells.why))
  untold_so (Err why) (Err error) tells closed = inr (named, inr (opened, last, is, tells.why))

  -- the files hold what they held
  pub left_so : (came : Result Standing FileFault) (shut : Result (Unit {0}) Error) → TellsOver (passage over_files opened last) came → IsShut last old new shut → IsUnused old
      → IfSome new.closed (IsDoneTo g image (λ found left. left ≡ found))
  left_so came (Ok none) tells closed unused = some_done image opened last new.closed is tells.clean (λ found left. left ≡ found)
      (λ clean held. let settled = opened_settled image opened is (tells.clean clean) in tells.alone clean held settled ∙ settled) closed.0.1
  left_so came (Err error) tells closed unused = none_closed new.closed _ (closed.1 ∙ unused)
