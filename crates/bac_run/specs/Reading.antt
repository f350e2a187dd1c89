-- What `bac kept` and `bac check` do with their words. Read `PrintsKept` and `ChecksArchive`.
use Rattle.std.specs.Prelude.{◌≡◌, ◌⊎◌, ℕ, Bool, true, false, List, codes, Option, None, Some, option_map}
use Rattle.std.specs.Prelude.{unwrap_or, Result, Ok, Err}
use Rattle.clap.specs.Words.{Text}
use Rattle.bac_form.specs.declared.form.Form.{Form}
use Rattle.bac_files.specs.Parts.{Listing, PartRules}
use Rattle.bac_socket_notes.specs.Notes.{nothing}
use Rattle.bac_keep_command_line.specs.Printing.{BehindAs, DeviceAs, device_in}
use Rattle.bac_keep_command_line.specs.declared.fault.Fault.{Fault as WordFault}
use Rattle.bac_keep_command_line.specs.declared.fault.Fault.TheVariants.{Memory as NoMemory}
use Rattle.bac_kept.specs.declared.words.Behind.{Behind}
use Rattle.bac_kept.specs.declared.words.Choice.{Choice}
use Rattle.bac_kept.specs.declared.words.Choice.TheVariants as choice
use Rattle.bac_kept.specs.declared.words.Dates.{Dates}
use Rattle.bac_kept.specs.declared.words.Place.{Place}
use Rattle.bac_print.specs.Output.{Held}
use Rattle.bac_reading.specs.Checking.{RunsCheck}
use Rattle.bac_reading.specs.Program.{RunsKept}
use Rattle.bac_reading.specs.Scene.{Scene, scene}
use Rattle.bac_reading.specs.declared.fault.Fault.{Fault as ReadFault}
use Rattle.bac_reading.specs.declared.program.Asked.{Asked}
use Rattle.bac_run.specs.Faults.{of_words, read_ending}
use Rattle.bac_run.specs.Setup.{IsPrinted}
use Rattle.bac_tools.specs.Run.{Ends, IsTold}
use Rattle.bac_command_line.specs.declared.job.Check.{Check}
use Rattle.bac_command_line.specs.declared.job.Extent.{Extent}
use Rattle.bac_command_line.specs.declared.job.Extent.TheVariants.{Dated, Newest}
use Rattle.bac_command_line.specs.declared.job.Kept.{Kept}

-- ---- what is asked of an archive, in texts

-- the stamps from which on and before which records are printed
pub record DatesAs : Type 0 where
  pub since : List ℕ
  pub before : List ℕ

-- the name of an archive; which device, and which log of it, or all; which dates, or all; in which form; and whether
-- the newest record of each log alone
pub record AskedAs : Type 0 where
  pub file : List ℕ
  pub device : Option DeviceAs
  pub dates : Option DatesAs
  pub form : Form
  pub last : Bool

-- a place behind a router
abbrev pub behind_as : Behind → BehindAs
behind_as behind = record { network = behind.network; address = behind.address.now }

-- a device at a place, and a log of it
abbrev pub device_at : Place → Option ℕ → DeviceAs
device_at place instance = record {
  address = place.address.now;
  behind = option_map behind_as place.behind;
  instance = instance;
}

-- which logs are chosen
abbrev pub choice_as : Choice → Option DeviceAs
choice_as choice.All = None
choice_as (choice.Device place) = Some (device_at place None)
choice_as (choice.Log place instance) = Some (device_at place (Some instance))

-- which dates
abbrev pub dates_as : Dates → DatesAs
dates_as dates = record { since = dates.since.now; before = dates.before.now }

-- the same of a value of the program
abbrev pub asked_as : Asked → AskedAs
asked_as asked = record {
  file = asked.file.now;
  device = choice_as asked.words.choice;
  dates = option_map dates_as asked.words.dates;
  form = asked.words.form;
  last = asked.last;
}

-- ---- by the words

-- The dates of a period. A stamp that has a date begins with a digit: `0` is before each, `~` behind each, and `*`,
-- which stands for no date, before `0`.
abbrev pub dates_between : (since until : Option Text) → Option DatesAs
dates_between None None = None
dates_between (Some since) until = Some (record { since = since; before = unwrap_or until (codes "~") })
dates_between None (Some until) = Some (record { since = codes "0"; before = until })

-- those of how much is printed
abbrev pub dates_of : Extent → Option DatesAs
dates_of (Dated period) = dates_between period.since period.until
dates_of Newest = None

-- the newest record alone is printed
abbrev pub is_newest : Extent → Bool
is_newest (Dated period) = false
is_newest Newest = true

-- what the words ask for, which name this device
abbrev pub asked_for : Kept → Option DeviceAs → AskedAs
asked_for kept device = record {
  file = kept.file;
  device = device;
  dates = dates_of kept.extent;
  form = kept.form;
  last = is_newest kept.extent;
}

-- ---- what is done

module _ {Q : Type 0} (rules : PartRules Q) where
  -- The parts of the archive of this name are listed, this is done with them, and then its fault is told.
  abbrev pub ReadsParts : (name : List ℕ) → (Listing → Scene Q → Result ℕ ReadFault → Scene Q → Type 0) →
      (old : Scene Q) → ℕ → (new : Scene Q) → Type 0
  ReadsParts name does old status new =
      (listing : Listing) × (listed : Q) × rules.lists old.parts name listing listed
      × (result : Result ℕ ReadFault) × (said : Held)
      × does listing (scene listed old.output old.errors) result (scene new.parts new.output said)
      × Ends nothing (read_ending result) said new.errors status

  -- the device that the words name is wrong, or memory is wanting for it; that alone is told
  abbrev pub RefusesDevice : Kept → (old : Scene Q) → ℕ → (new : Scene Q) → Type 0
  RefusesDevice kept old status new = (fault : WordFault) × ((fault ≡ NoMemory) ⊎ (device_in kept ≡ Err fault))
      × IsTold (of_words fault) old.errors new.errors status
      × (new.parts ≡ old.parts) × (new.output ≡ old.output)

  -- `kept`: the words are wrong; or what the archive keeps is printed as they ask for it
  abbrev pub PrintsKept : Kept → (old : Scene Q) → ℕ → (new : Scene Q) → Type 0
  PrintsKept kept old status new = RefusesDevice kept old status new
      ⊎ ((device : Option DeviceAs) × (device_in kept ≡ Ok device) × (asked : Asked)
      × (asked_as asked ≡ asked_for kept device) × ReadsParts kept.file (RunsKept rules asked) old status new)

  -- `check`: the archive is checked, and what is found is printed
  abbrev pub ChecksArchive : Check → (old : Scene Q) → ℕ → (new : Scene Q) → Type 0
  ChecksArchive check old status new = ReadsParts check.file (RunsCheck rules check.file) old status new

  -- so it is done where the words ask for quiet, or not
  abbrev pub ChecksQuietly : Check → (old : Scene Q) → ℕ → (new : Scene Q) → Type 0
  ChecksQuietly check old status new = (before : Held) × (after : Held)
      × IsPrinted check.quiet old.output new.output before after
      × ChecksArchive check (record old { output = before }) status (record new { output = after })
