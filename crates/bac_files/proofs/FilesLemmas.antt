-- What was done over a connection was done to the database of its files.
use Rattle.std.proofs.Common.{◌≡◌, ◌∙◌, IsTrue, ap, subst, sym}
use Rattle.sqlite_disk.specs.declared.Disk as disk
use Rattle.sqlite_disk.specs.declared.Files.{Files}
use Rattle.sqlite_store.specs.declared.store.FileStore.{FileStore}
use Rattle.sqlite_wal.specs.Reads.{AreClean}
use Rattle.sqlite_wal.specs.Recovery.{Image}
use Rattle.sqlite.specs.Closing.{IsCopied}
use Rattle.sqlite.specs.Effect.{Database}
use Rattle.sqlite.specs.Files.{AreFoundIn, file_state}
use Rattle.sqlite.specs.Held.{Held}
use Rattle.sqlite.specs.State.{HasCleanDisk}
use Rattle.bac_files.specs.Files.{IsDoneTo, IsOpenedBy}

pub done_to : {D : Type 0} {g : disk.Ghosts D} (image : Image) (opened last : Held (FileStore D g)) (files : Files D) (does : Database → Database → Type 0)
    → IsOpenedBy image opened → (HasCleanDisk (file_state last) → HasCleanDisk (file_state opened))
    → (HasCleanDisk (file_state last) → IsTrue (file_state last).is_open → does (file_state opened).now (file_state last).committed)
    → (AreClean g files.log files.db → IsCopied last files) → IsDoneTo g image does files
done_to image opened last files does is clean done copied honest =
    let it = copied honest in
    let early = clean it.was_clean in
    let open' = is.opened early in
    let found = is.found early in (
      (file_state opened).now,
      (file_state last).committed,
      record {
        sound = (open'.1 open'.0.is_open).0;
        holds = λ trees has. ap (λ (d : Database). d.trees) open'.0.clean ∙ found.holds trees has;
        reads = subst (λ (d : Database). AreFoundIn image d.trees) (sym open'.0.clean) found.reads;
      },
      done it.was_clean it.was_open,
      record { seen = it.seen; left = it.left },
    )

-- where it was opened, what was there was committed
pub opened_settled : {D : Type 0} {g : disk.Ghosts D} (image : Image) (opened : Held (FileStore D g)) → IsOpenedBy image opened → HasCleanDisk (file_state opened)
    → (file_state opened).committed ≡ (file_state opened).now
opened_settled image opened is clean = sym (is.opened clean).0.clean
