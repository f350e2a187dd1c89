-- Laws of a run over an archive in files. Read `LosesNothing`.
use Rattle.std.specs.Prelude.{◌≡◌, ◌≢◌, ℕ, Option, IfSome, String}
use Rattle.std.specs.declared.alloc.Global.{Global}
use Rattle.sqlite_disk.specs.declared.Disk as disk
use Rattle.sqlite_disk.specs.declared.start.Start as start
use Rattle.sqlite_trees.specs.Tree.{Trees}
use Rattle.sqlite_wal.specs.Recovery.{Image}
use Rattle.sqlite.specs.Effect.{Database}
use Rattle.bac_archive.specs.Archive.{HasId}
use Rattle.bac_archive.specs.Put.{LoseNothing}
use Rattle.bac_archive.specs.Schema.{HasArchive, no_schema}
use Rattle.bac_batch.specs.Batch.{Batched}
use Rattle.bac_drive.specs.Happens.{Acts}
use Rattle.bac_files.specs.Files.{FileOf, IsDoneTo, IsUnused}
use Rattle.bac_files.specs.declared.disk_files.DiskFiles.{DiskFiles}
use Rattle.bac_keeping.specs.Keeping.{Around}
use Rattle.bac_keeping.specs.declared.run.Run.{Run}
use Rattle.bac_site_poller.specs.Site.{SiteState}
use Rattle.bac_historian.specs.Kept.{IsLeftFrom}

-- Each device and each log is on record still. Each item is there as it was, and so is each beginning; of one that only
-- the count told the id is.
pub record KeepsAll (found left : Trees) : Type 0 where
  pub devices : (id : ℕ) → HasId (found 1) id → HasId (left 1) id
  pub logs : (id : ℕ) → HasId (found 3) id → HasId (left 3) id
  pub rows : LoseNothing found left

-- Of an archive that was found nothing is lost; and another database that had something is left as it was.
abbrev pub LosesNothing : Database → Trees → Type 0
LosesNothing found left = (HasArchive found.schema → KeepsAll found.trees left)
    × (¬ HasArchive found.schema → found.schema ≢ no_schema → left ≡ found.trees)

-- So it is of what a run leaves over an open database, killed at any moment or not.
abbrev pub KillLosesNothing : {P C G : Type 0} {t : start.Ghosts G} → disk.Ghosts (FileOf t) → Image →
    Acts (Batched SiteState) P C → Type 0
KillLosesNothing {P = P} {C = C} {G = G} {t = t} g image acts =
    (run : Run) (before : Option (String Global)) (parts : DiskFiles G t) (by : Around P C) (found : Database)
    (left : Trees) → IsLeftFrom g image acts run before parts by found left → LosesNothing found left

-- and so it is of files that are closed behind a run
abbrev pub LosesNothingAt : {F : Type 0} {s : start.Ghosts F} → disk.Ghosts (FileOf s) → Image →
    (files closed : DiskFiles F s) → Type 0
LosesNothingAt f file files closed =
    IsUnused files → IfSome closed.closed (IsDoneTo f file (λ found left. LosesNothing found left.trees))
