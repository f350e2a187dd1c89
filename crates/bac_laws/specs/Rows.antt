-- What `bac kept` prints that ends with 0. Read `PrintsEach`.
use Rattle.std.specs.Prelude.{◌≡◌, ℕ, List, Option, Ok}
use Rattle.bac_files.specs.Parts.{Listing, PartRules}
use Rattle.bac_keep_command_line.specs.Printing.{DeviceAs, device_in}
use Rattle.bac_print.specs.Output.{Held}
use Rattle.bac_reading.specs.Laws.{PrintsEach as PrintsParts}
use Rattle.bac_reading.specs.Listing.{is_folder, parts_of}
use Rattle.bac_reading.specs.declared.program.Asked.{Asked}
use Rattle.bac_run.specs.Reading.{asked_as, asked_for}
use Rattle.bac_command_line.specs.declared.job.Kept.{Kept}

-- The archive that the words name is a file, or a folder of parts: each is one, but the newest of a folder, which may
-- have nothing. What they keep of the logs that the words choose is printed, one part after the other, and nothing
-- else; and if the words choose a log, it is there.
abbrev pub PrintsEach : {Q : Type 0} → PartRules Q → Kept → (before after : Held) → (p q : Q) → Type 0
PrintsEach {Q = Q} rules said before after p q =
    (device : Option DeviceAs) × (device_in said ≡ Ok device)
    × (asked : Asked) × (asked_as asked ≡ asked_for said device)
    × (listing : Listing) × (listed : Q) × rules.lists p said.file listing listed
    × (paths : List (List ℕ)) × (parts_of said.file listing ≡ Ok paths)
    × PrintsParts rules asked.words (is_folder listing) paths before after listed q
