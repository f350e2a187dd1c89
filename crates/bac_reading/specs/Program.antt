-- What `bac kept` does. Read `RunsKept`.
use Rattle.std.specs.Prelude.{◌≡◌, ◌⊎◌, ℕ, true, false, List, Result, Ok}
use Rattle.bac_files.specs.Parts.{Listing, PartRules}
use Rattle.bac_reading.specs.Kept.{PrintsArchive}
use Rattle.bac_reading.specs.Last.{FindsLasts}
use Rattle.bac_reading.specs.Listing.{is_folder, parts_of}
use Rattle.bac_reading.specs.Scene.{ReadsNone, Scene}
use Rattle.bac_reading.specs.declared.fault.Fault.{Fault}
use Rattle.bac_reading.specs.declared.program.Asked.{Asked}

module _ {P : Type 0} (rules : PartRules P) where
  -- The archive has no parts; or they are read as it is asked: all in their order, each printed; or from the newest
  -- back, for the newest record of each log.
  abbrev pub RunsKept : Asked → Listing → Scene P → Result ℕ Fault → Scene P → Type 0
  RunsKept asked listing old result new = ReadsNone asked.file.now listing old result new
      ⊎ ((paths : List (List ℕ)) × (parts_of asked.file.now listing ≡ Ok paths)
      × (((asked.last ≡ false) × PrintsArchive rules asked (is_folder listing) paths old result new)
      ⊎ ((asked.last ≡ true) × FindsLasts rules asked (is_folder listing) paths old result new)))
