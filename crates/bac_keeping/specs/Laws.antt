-- Laws of a run of keep. Read `KillLosesNothing`.
use Rattle.std.specs.Prelude.{IsTrue}
use Rattle.sqlite.specs.Effect.{Database}
use Rattle.sqlite.specs.Held.{Held, state}
use Rattle.sqlite_trees.specs.Tree.{Trees}
use Rattle.sqlite_trees.specs.declared.store.Store.{Ghosts}
use Rattle.bac_archive.specs.Put.{LoseNothing}
use Rattle.bac_archive.specs.Schema.{HasArchive}
use Rattle.bac_drive.specs.Happens.{Acts}
use Rattle.bac_batch.specs.Batch.{Batched}
use Rattle.bac_device_poller.specs.declared.status.Status.{Status}
use Rattle.bac_site_poller.specs.Site.{SiteState}
use Rattle.bac_keeping.specs.Keeping.{Around, Halts, Keeps, Remains}
use Rattle.bac_keeping.specs.declared.run.KeepFault.{KeepFault}
use Rattle.bac_keeping.specs.declared.run.Run.{Run}

-- Killed at any moment, a run leaves all that an archive had.
abbrev pub KillLosesNothing : {P C : Type 0} → Acts (Batched SiteState) P C → Type 0
KillLosesNothing {P = P} {C = C} acts =
    (run : Run) (by : Around P C) (old : Database) (trees : Trees) → HasArchive old.schema
    → Remains acts run by old trees → LoseNothing old.trees trees

-- So it does where it comes to its end.
abbrev pub EndLosesNothing : {P C : Type 0} → Acts (Batched SiteState) P C → Type 0
EndLosesNothing {P = P} {C = C} acts =
    (run : Run) (by left : Around P C) (old new : Database) (status : Status) → HasArchive old.schema
    → Keeps acts run by left old new status → LoseNothing old.trees new.trees

-- And so where it halts, whatever the fault is, if the database is open still.
abbrev pub FaultLosesNothing : {P C S : Type 0} → Ghosts S → Acts (Batched SiteState) P C → Type 0
FaultLosesNothing {P = P} {C = C} {S = S} g acts =
    (run : Run) (by left : Around P C) (old new : Held S) (why : KeepFault) → HasArchive (state g old).now.schema
    → Halts g acts run by left old new why → IsTrue (state g new).is_open
    → LoseNothing (state g old).now.trees (state g new).now.trees
