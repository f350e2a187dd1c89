-- A run over an open database: that of a file, or of a part of a folder. Read `KeepsFrom`, then `HaltsFrom` and
-- `IsLeftFrom`.
use Rattle.std.specs.Prelude.{◌≡◌, ◌⊎◌, ⊤, Bool, false, Option, None, IsSomeAnd, IsTrue, Result, Ok, Err, String}
use Rattle.std.specs.String.{string_bytes}
use Rattle.std.specs.declared.alloc.Global.{Global}
use Rattle.sqlite_disk.specs.declared.Disk as disk
use Rattle.sqlite_disk.specs.declared.start.Start as start
use Rattle.sqlite_trees.specs.Tree.{Trees}
use Rattle.sqlite_trees.specs.declared.store.Store.{Ghosts}
use Rattle.sqlite_wal.specs.Recovery.{Image}
use Rattle.sqlite.specs.Effect.{Database}
use Rattle.sqlite.specs.Held.{Held, state}
use Rattle.sqlite.specs.State.{HasCleanDisk, State}
use Rattle.bac_archive.specs.Schema.{no_schema}
use Rattle.bac_batch.specs.Batch.{Batched}
use Rattle.bac_drive.specs.Happens.{Acts}
use Rattle.bac_device_poller.specs.declared.status.Status.{Status}
use Rattle.bac_files.specs.Files.{FileOf}
use Rattle.bac_files.specs.declared.disk_files.DiskFiles.{DiskFiles}
use Rattle.bac_keeping.specs.Keeping.{Around, Halts, Keeps, Remains}
use Rattle.bac_keeping.specs.declared.run.Run.{Run}
use Rattle.bac_parts.specs.Begun.{FollowsPart, WhyNotBegun}
use Rattle.bac_site_poller.specs.Site.{SiteState}
use Rattle.bac_historian.specs.declared.fault.Fault.{Fault}
use Rattle.bac_historian.specs.declared.fault.Fault.TheVariants as fault

module _ {G : Type 0} {t : start.Ghosts G} (g : disk.Ghosts (FileOf t)) (image : Image) where
  -- a database had nothing, and is the part now that follows on the one before it, which is in these files
  abbrev pub FollowsOne : Option (String Global) → DiskFiles G t → (found ready : Database) → Type 0
  FollowsOne before parts found ready =
      (found.schema ≡ no_schema) × IsSomeAnd before (FollowsPart g image parts ready)

  -- what a run begins with: the database as it was found, but where it has to follow on a part, as such a part
  abbrev pub IsReady : Option (String Global) → DiskFiles G t → (found ready : Database) → Type 0
  IsReady before parts found ready =
      ((ready ≡ found) × (found.schema ≡ no_schema → before ≡ None)) ⊎ FollowsOne before parts found ready

  -- So it is of a connection: where no part begins it is as it was, and a part that begins is committed.
  abbrev pub IsReadyIn : {S : Type 0} → Ghosts S → Option (String Global) → DiskFiles G t → (old ready : Held S) →
      Type 0
  IsReadyIn s before parts old ready =
      ((ready ≡ old) × ((state s old).now.schema ≡ no_schema → before ≡ None))
      ⊎ (FollowsOne before parts (state s old).now (state s ready).now
      × ((state s ready).committed ≡ (state s ready).now))

  -- a run over that leaves this status
  abbrev pub KeepsFrom : {P C : Type 0} → Acts (Batched SiteState) P C → Run → Option (String Global) → DiskFiles G t →
      (by left : Around P C) → (found kept : Database) → Status → Type 0
  KeepsFrom acts run before parts by left found kept status =
      (ready : Database) × IsReady before parts found ready × Keeps acts run by left ready kept status

  -- Why a run halts: it isn't ready, and nothing is sent, received, read or printed; or the run over what is ready
  -- halts.
  abbrev pub HaltsFrom : {P C S : Type 0} → Ghosts S → Acts (Batched SiteState) P C → Run → Option (String Global) →
      (blames_before : Bool) → DiskFiles G t → (by left : Around P C) → (old new : Held S) → Fault → Type 0
  HaltsFrom s acts run before blames parts by left old new (fault.File why) =
      WhyNotBegun g image s (string_bytes run.moment) before blames parts old new why × (left ≡ by)
  HaltsFrom {S = S} s acts run before blames parts by left old new (fault.Run why) = (blames ≡ false)
      × (HasCleanDisk (state s new) → (ready : Held S) × IsReadyIn s before parts old ready
      × Halts s acts run by left ready new why)

  -- what a kill leaves, beside what was there: the part as it begins, or what a run over what is ready leaves
  abbrev pub RemainsFrom : {P C : Type 0} → Acts (Batched SiteState) P C → Run → Option (String Global) →
      DiskFiles G t → Around P C → Database → Trees → Type 0
  RemainsFrom acts run before parts by found trees =
      ((part : Database) × FollowsOne before parts found part × (trees ≡ part.trees))
      ⊎ ((ready : Database) × IsReady before parts found ready × Remains acts run by ready trees)

  -- what was there, or what a kill leaves
  abbrev pub IsLeftFrom : {P C : Type 0} → Acts (Batched SiteState) P C → Run → Option (String Global) →
      DiskFiles G t → Around P C → Database → Trees → Type 0
  IsLeftFrom acts run before parts by found trees =
      (trees ≡ found.trees) ⊎ RemainsFrom acts run before parts by found trees

-- All that was done is committed; so it is after a fault of the run, where all was before and no error shut the
-- database.
abbrev pub IsCommitted : (old new : State) → Result Status Fault → Type 0
IsCommitted old new (Ok status) = new.committed ≡ new.now
IsCommitted old new (Err (fault.Run why)) =
    old.committed ≡ old.now → IsTrue new.is_open → new.committed ≡ new.now
IsCommitted old new (Err (fault.File why)) = ⊤
