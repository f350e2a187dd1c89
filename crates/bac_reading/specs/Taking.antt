-- What comes of a part's read, and a database that was read and isn't taken as an archive.
use Rattle.std.specs.Prelude.{◌≡◌, ◌≢◌, Result, Err}
use Rattle.sqlite.specs.Effect.{Database}
use Rattle.sqlite_trees.specs.View.{doubt}
use Rattle.bac_archive.specs.Archive.{AreBegun, AreInRange, HaveDevices, IsEarlier, IsOfVersion, LieApart}
use Rattle.bac_archive.specs.Schema.{HasArchive, no_schema}
use Rattle.bac_archive.specs.declared.opening.Refused.{Refused}
use Rattle.bac_archive.specs.declared.opening.Refused.TheVariants.{Foreign, Earlier, Version, Range, NoDevice, Overlap}
use Rattle.bac_archive.specs.declared.opening.Refused.TheVariants.{Orphan}
use Rattle.bac_archive.specs.declared.opening.Refused.TheVariants.{Database as Failed}
use Rattle.bac_files.specs.Parts.{Reading}
use Rattle.bac_files.specs.declared.not_opened.NotOpened.TheVariants.{Empty}
use Rattle.bac_parts.specs.declared.fault.FileFault.{FileFault}
use Rattle.bac_parts.specs.declared.fault.FileFault.TheVariants.{Database as Fails, Refused as IsRefused, Unopened}
use Rattle.bac_reading.specs.declared.fault.Stop.{Stop}
use Rattle.bac_reading.specs.declared.fault.Stop.TheVariants as stop
use Rattle.bac_reading.specs.declared.fault.Trouble.TheVariants.{File}

-- what comes of a part's read
abbrev pub Read : Type 0
Read = Result (Unit {0}) Stop

-- the disk has given back what was written
abbrev pub IsClean : Reading → Type 0
IsClean found = doubt found.is_clean ≡ 0

-- what a database has, or lacks, that is refused for this; of an error of its own nothing is said
abbrev pub Lacks : Database → Refused → Type 0
Lacks db Foreign = (¬ HasArchive db.schema) × (¬ IsEarlier db.schema.tables) × (db.schema ≢ no_schema)
Lacks db Earlier = (¬ HasArchive db.schema) × IsEarlier db.schema.tables
Lacks db Version = HasArchive db.schema × ¬ IsOfVersion (db.trees 0)
Lacks db Range = HasArchive db.schema × ¬ AreInRange db.trees
Lacks db NoDevice = HasArchive db.schema × ¬ HaveDevices db.trees
Lacks db Overlap = HasArchive db.schema × ¬ LieApart (db.trees 5)
Lacks db Orphan = HasArchive db.schema × ¬ AreBegun db.trees
Lacks db (Failed error) = db.schema ≢ no_schema

-- why a database that was read isn't taken as an archive: it has nothing, or is refused
abbrev pub IsUntaken : Reading → FileFault → Type 0
IsUntaken found (Unopened why) = (why ≡ Empty) × (found.found.schema ≡ no_schema)
IsUntaken found (IsRefused why) = IsClean found → Lacks found.found why
IsUntaken found (Fails error) = ⊥

-- so it isn't, and that is what came of its read
abbrev pub IsNotTaken : Read → Reading → Type 0
IsNotTaken read found =
    (why : FileFault) × (read ≡ Err (stop.Trouble (File why))) × IsUntaken found why
