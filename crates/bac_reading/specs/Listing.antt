-- The parts of an archive.
use Rattle.std.specs.Prelude.{◌≡◌, ◌⊎◌, ℕ, ◌-◌, ◌&&◌, nat_le, if◌then◌else◌, Bool, true, false, List, [], ◌∷◌, length}
use Rattle.std.specs.Prelude.{Option, None, Some, Result, Ok, Err, slice_get}
use Rattle.bac_files.specs.Parts.{Listing}
use Rattle.bac_files.specs.declared.not_opened.NotOpened.{NotOpened}
use Rattle.bac_files.specs.declared.not_opened.NotOpened.TheVariants.{Empty}
use Rattle.bac_parts.specs.declared.fault.FileFault.TheVariants.{Unopened}
use Rattle.bac_reading.specs.declared.fault.Fault.TheVariants.{Memory}
use Rattle.bac_reading.specs.declared.fault.Stop.{Stop}
use Rattle.bac_reading.specs.declared.fault.Stop.TheVariants as stop
use Rattle.bac_reading.specs.declared.fault.Trouble.TheVariants.{File}

-- The paths of the parts of an archive, by what is listed of its name: those of a folder, which has one at least, or of
-- the file; or why there are none.
abbrev pub parts_of : List ℕ → Listing → Result (List (List ℕ)) NotOpened
parts_of name (Err why) = Err why
parts_of name (Ok None) = Ok (name ∷ [])
parts_of name (Ok (Some [])) = Err Empty
parts_of name (Ok (Some (path ∷ paths))) = Ok (path ∷ paths)

-- a folder is listed
abbrev pub is_folder : Listing → Bool
is_folder (Ok (Some paths)) = true
is_folder (Ok None) = false
is_folder (Err why) = false

-- no file is opened, for this reason
abbrev pub unopened : NotOpened → Stop
unopened why = stop.Trouble (File (Unopened why))

-- why no part is read: there is none, or memory is wanting for its path
abbrev pub IsUnlisted : List ℕ → Listing → Stop → Type 0
IsUnlisted name listing why = (why ≡ stop.Fault Memory)
    ⊎ ((reason : NotOpened) × (parts_of name listing ≡ Err reason) × (why ≡ unopened reason))

-- the newest part of a folder that has so many at least
abbrev pub newest_of : ℕ → Bool → List (List ℕ) → Option (List ℕ)
newest_of least folder paths =
    if folder && nat_le least (length paths) then slice_get paths (length paths - 1) else None
