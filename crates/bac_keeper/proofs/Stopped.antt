-- What closed files hold where words stop what they name.
use Rattle.std.proofs.Common.{◌≡◌, ◌∙◌, ℕ, List, Result, Ok, Err, IfOk, IfSome, IsSome, arith, subst, sym}
use Rattle.sqlite_disk.specs.declared.Disk as disk
use Rattle.sqlite_disk.specs.declared.start.Start as start
use Rattle.sqlite_store.specs.declared.store.FileStore.{FileStore}
use Rattle.sqlite_wal.specs.Recovery.{Image}
use Rattle.sqlite.specs.Effect.{Database}
use Rattle.sqlite.specs.Files.{file_state, over_files}
use Rattle.sqlite.specs.Held.{Held as Connected}
use Rattle.sqlite.specs.State.{HasCleanDisk}
use Rattle.sqlite.specs.declared.error.Error.{Error}
use Rattle.bac_files.proofs.FilesLemmas.{opened_settled}
use Rattle.bac_files.specs.Files.{FileOf, IsDoneTo, IsOpenedBy, IsUnused}
use Rattle.bac_files.specs.declared.disk_files.DiskFiles.{DiskFiles}
use Rattle.bac_files.specs.declared.not_opened.NotOpened.{NotOpened}
use Rattle.bac_keeping.specs.Stopping.{IsStopped}
use Rattle.bac_keeping.specs.declared.stopping.StopHalt.{StopHalt}
use Rattle.bac_keeping.specs.declared.stopping.Stopped.{Stopped}
use Rattle.bac_parts.proofs.FileLemmas.{none_closed, some_done}
use Rattle.bac_parts.specs.Archives.{IsShut}
use Rattle.bac_parts.specs.Works.{Works, passage}
use Rattle.bac_parts.specs.declared.works.Done.{Done}
use Rattle.bac_plan.specs.declared.named.Named.{Named}
use Rattle.bac_keeper.specs.Stops.{IsLeftStopped, StopsBy, stop_came, stop_done}

module _ {F : Type 0} {s : start.Ghosts F} {g : disk.Ghosts (FileOf s)} (image : Image) (named : List Named) (old new : DiskFiles F s) (opened last : Connected (FileStore (FileOf s) g)) (is : IsOpenedBy image opened) where
  stopped_over : (came : Result Stopped StopHalt) (shut : Result (Unit {0}) Error) → StopsBy named (passage over_files opened last) came → IsShut last old new shut
      → IfOk (stop_came came shut) (λ stopped. IsSome new.closed × IfSome new.closed (IsDoneTo g image (IsStopped named stopped)))
  stopped_over (Err halt) shut did closed = tt
  stopped_over (Ok stopped) (Err error) did closed = tt
  stopped_over (Ok stopped) (Ok none) did closed = (
    closed.0.0,
    some_done image opened last new.closed is (λ honest. omega (arith, honest, did.crash.clean)) (IsStopped named stopped)
        (λ honest is_open. subst (λ (d : Database). IsStopped named stopped (file_state opened).now d)
        (sym (did.settled honest (opened_settled image opened is (omega (arith, honest, did.crash.clean))))) (did.all honest)) closed.0.1,
  )

  left_over : (came : Result Stopped StopHalt) (shut : Result (Unit {0}) Error) → StopsBy named (passage over_files opened last) came → IsShut last old new shut
      → IsUnused old → IfSome new.closed (IsDoneTo g image (IsLeftStopped named))
  left_over came (Err error) did closed unused = none_closed new.closed _ (closed.1 ∙ unused)
  left_over came (Ok none) did closed unused =
      some_done image opened last new.closed is (λ honest. omega (arith, honest, did.crash.clean)) (IsLeftStopped named)
      (λ honest is_open.
      let early : HasCleanDisk (file_state opened) = omega (arith, honest, did.crash.clean) in
      did.left honest (is.opened early).0.is_open (opened_settled image opened is early) is_open)
      closed.0.1

module _ {F : Type 0} {s : start.Ghosts F} (g : disk.Ghosts (FileOf s)) (image : Image) (named : List Named) (path : List ℕ) (old new : DiskFiles F s) where
  -- what was stopped is there, since it is committed
  pub stopped_at : (done : Result (Done (Result Stopped StopHalt)) NotOpened) → Works g image (λ over none still came. StopsBy named over came) path old new (tt {0}) (tt {0}) done
      → IfOk (stop_done done) (λ stopped. IsSome new.closed × IfSome new.closed (IsDoneTo g image (IsStopped named stopped)))
  stopped_at (Err why) works = tt
  stopped_at (Ok done) works = stopped_over image named old new works.opened works.last works.is done.came done.closed works.did works.shut

  -- whatever came of it, what was there is, or that
  pub left_stopped : (done : Result (Done (Result Stopped StopHalt)) NotOpened) → Works g image (λ over none still came. StopsBy named over came) path old new (tt {0}) (tt {0}) done
      → IsUnused old → IfSome new.closed (IsDoneTo g image (IsLeftStopped named))
  left_stopped (Err why) works unused = none_closed new.closed _ (works.closed.0 ∙ unused)
  left_stopped (Ok done) works unused = left_over image named old new works.opened works.last works.is done.came done.closed works.did works.shut unused
