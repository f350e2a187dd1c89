-- Why the tool does nothing: its words are refused, or the place of its archive can't be told.
use Rattle.std.specs.Prelude.{◌≡◌, ◌⊎◌, ℕ, Bool, List, Result, Err}
use Rattle.sqlite_disk.specs.declared.start.Start as start
use Rattle.bac_files.specs.declared.disk_files.DiskFiles.{DiskFiles}
use Rattle.bac_keep_command_line.specs.declared.fault.Fault.{Fault as WordFault}
use Rattle.bac_keep_command_line.specs.declared.fault.Fault.TheVariants.{Memory as NoMemory}
use Rattle.bac_parts.specs.Archives.{IsUnopenedAs}
use Rattle.bac_parts.specs.declared.fault.FileFault.{FileFault}
use Rattle.bac_print.specs.Output.{Held}
use Rattle.bac_keeper.specs.Ends.{EndsHalted}
use Rattle.bac_keeper.specs.Halts.{of_words}
use Rattle.bac_keeper.specs.declared.fault.Fault.{Fault}
use Rattle.bac_keeper.specs.declared.halts.Halt.TheVariants.{File}

-- the words are wrong, or memory was wanting for what they ask for; that is the fault
abbrev pub RefusesWords : {A : Type 0} → Result A WordFault → Result ℕ Fault → Type 0
RefusesWords words result = (fault : WordFault) × ((fault ≡ NoMemory) ⊎ (words ≡ Err fault))
    × (result ≡ Err (of_words fault))

module _ {F : Type 0} {s : start.Ghosts F} where
  -- other files were asked for by then, but none was opened or closed
  abbrev pub AreUntouched : (old new : DiskFiles F s) → Type 0
  AreUntouched old new = (new.closed ≡ old.closed) × (new.unclosed ≡ old.unclosed)

  -- where an archive of this name is kept can't be told, which is told of it on the errors
  abbrev pub PlacesNone : (file : List ℕ) → (may_make : Bool) → (old new : DiskFiles F s) → (told now : Held) →
      Result ℕ Fault → Type 0
  PlacesNone file may old new told now result = AreUntouched old new
      × ((why : FileFault) × IsUnopenedAs file may new why × EndsHalted (File why) file told now result)
