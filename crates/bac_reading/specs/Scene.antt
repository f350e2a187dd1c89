-- What is there as parts are read, and how it is told that none is.
use Rattle.std.specs.Prelude.{◌≡◌, ℕ, List, None, Result, Err}
use Rattle.bac_files.specs.Parts.{Listing}
use Rattle.bac_print.specs.Output.{Held}
use Rattle.bac_reading.specs.Listing.{IsUnlisted}
use Rattle.bac_reading.specs.Report.{Closes, Ends, IsBlank}
use Rattle.bac_reading.specs.declared.fault.Fault.{Fault}
use Rattle.bac_reading.specs.declared.fault.Stop.{Stop}
use Rattle.bac_reading.specs.declared.report.Report.{Report}

-- the parts, the output and the errors
pub record Scene (P : Type 0) : Type 0 where
  pub parts : P
  pub output : Held
  pub errors : Held

-- these
abbrev pub scene : {P : Type 0} → P → Held → Held → Scene P
scene parts output errors = record { parts = parts; output = output; errors = errors }

-- it is told of the archive of this name alone why none of its parts is read
abbrev pub TellsAlone : List ℕ → Stop → Held → Held → Result ℕ Fault → Type 0
TellsAlone name why before after result = (blank : Report) × (told : Report) × IsBlank None blank
    × Ends name (Err why) blank told × Closes told before after result

-- none of its parts is read, by what is listed of its name, and nothing is printed
abbrev pub ReadsNone : {P : Type 0} → List ℕ → Listing → Scene P → Result ℕ Fault → Scene P → Type 0
ReadsNone name listing old result new = (why : Stop) × IsUnlisted name listing why
    × TellsAlone name why old.errors new.errors result × (new.parts ≡ old.parts) × (new.output ≡ old.output)
