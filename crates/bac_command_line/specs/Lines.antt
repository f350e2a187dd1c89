-- Lines that are worked out: what they come to, by the definitions alone.
use Rattle.std.specs.Prelude.{◌≡◌, ◌==◌, ℕ, false, if◌then◌else◌, List, [], ◌∷◌, Option, None, Some, Result}
use Rattle.bac_form.specs.declared.form.Form.TheVariants.{Lines}
use Rattle.clap.specs.Words.{Text, Kinds}
use Rattle.bac_command_line.specs.declared.word.Word.{Word}
use Rattle.bac_command_line.specs.declared.job.Job.{Job}
use Rattle.bac_command_line.specs.declared.job.Asked.{Asked}
use Rattle.bac_command_line.specs.declared.job.Discovery.{Discovery}
use Rattle.bac_command_line.specs.declared.job.Extent.{Extent}
use Rattle.bac_command_line.specs.declared.job.Extent.TheVariants.{Dated}
use Rattle.bac_command_line.specs.declared.job.Given.{Given}
use Rattle.bac_command_line.specs.declared.job.PropertyReading.{PropertyReading}
use Rattle.bac_command_line.specs.declared.job.PropertyWriting.{PropertyWriting}
use Rattle.bac_command_line.specs.declared.job.LogListing.{LogListing}
use Rattle.bac_command_line.specs.declared.job.LogReading.{LogReading}
use Rattle.bac_command_line.specs.declared.job.Keep.{Keep}
use Rattle.bac_command_line.specs.declared.job.KeepOptions.{KeepOptions}
use Rattle.bac_command_line.specs.declared.job.Kept.{Kept}
use Rattle.bac_command_line.specs.declared.job.Stations.{Stations}
use Rattle.bac_command_line.specs.declared.group.Group.{Group}
use Rattle.bac_command_line.specs.Outcome.{mistakes_of, job_in}

-- the character goes before the first word
abbrev pub with_character : ℕ → List Text → List Text
with_character c [] = (c ∷ []) ∷ []
with_character c (word ∷ words) = (c ∷ word) ∷ words

-- the words of a line, with a blank (32) between them
abbrev pub words_of : List ℕ → List Text
words_of [] = [] ∷ []
words_of (c ∷ cs) = if c == 32 then [] ∷ words_of cs else with_character c (words_of cs)

-- the line has no mistake, and comes to this job, or to this word's bad value
abbrev pub Says : List ℕ → Result Job Word → Type 0
Says line said = (mistakes_of (words_of line) ≡ []) × (job_in (words_of line) ≡ said)

-- the line has a mistake of these kinds
abbrev pub Mistakes : List ℕ → Kinds → Type 0
Mistakes line kinds = mistakes_of (words_of line) ≡ kinds

-- 10.0.0.1, port 47808
abbrev pub station : List ℕ
station = 10 ∷ 0 ∷ 0 ∷ 1 ∷ 186 ∷ 192 ∷ []

-- any address of our own, 3 seconds, 3 retries, no router
abbrev pub by_default : Asked
by_default = record { address = station; local = None; timeout = 3000; retries = 3; route = None }

-- the same with a place behind that station
abbrev pub by_way : ℕ → List ℕ → Asked
by_way net mac = record by_default { route = Some (record { net = net; address = mac }) }

-- a device and logs of it
abbrev pub group : Text → List Text → Group
group address instances = record { address = address; instances = instances; way = None }

-- a device behind a router, none of whose logs is named
abbrev pub group_behind : Text → Text → Text → Group
group_behind address net mac =
    record { address = address; instances = []; way = Some (record { dnet = net; dadr = mac }) }

-- no option of `keep`
abbrev pub no_options : KeepOptions
no_options =
    record { steps = None; count = None; timeout = None; local = None; retries = None; dnet = None; dadr = None }

-- ---- what each tool asks for by default

-- wi: each device of these stations' network, within 3 seconds
abbrev pub discovery : Stations → Discovery
discovery stations =
    record { stations = stations; min = None; max = None; dnet = None; local = None; timeout = 3000; trace = false }

-- rp: the whole of a property
abbrev pub property_reading : ℕ → ℕ → ℕ → PropertyReading
property_reading object_type instance property = record {
  asked = by_default;
  object_type = object_type;
  instance = instance;
  property = property;
  index = None;
  numbers = false;
  trace = false;
}

-- wp: the same at a priority
abbrev pub property_writing : ℕ → ℕ → ℕ → ℕ → Given → PropertyWriting
property_writing object_type instance property priority given = record {
  asked = by_default;
  object_type = object_type;
  instance = instance;
  property = property;
  priority = priority;
  given = given;
  index = None;
  trace = false;
}

-- log: a thousand batches, 100 records each
abbrev pub log_reading : ℕ → Option ℕ → LogReading
log_reading instance from = record {
  asked = by_default;
  instance = instance;
  from = from;
  steps = 1000;
  count = 100;
  form = Lines;
  trace = false;
}

-- logs: these logs, or all
abbrev pub listing : List ℕ → LogListing
listing instances = record { asked = by_default; instances = instances; trace = false }

-- keep: parts of 32 MiB, 64 requests at once, and ten seconds for a file in use
abbrev pub keeping : Text → List Group → Keep
keeping file groups = record {
  file = file;
  groups = groups;
  stop = false;
  part = 32;
  at_once = 64;
  wait = 10;
  quiet = false;
  trace = false;
  options = no_options;
}

-- the records from this stamp on and before this one
abbrev pub between : (since until : Option Text) → Extent
between since until = Dated (record { since = since; until = until })

-- kept: all records of each log, in lines, and ten seconds for a file in use
abbrev pub printing : Text → Kept
printing file = record {
  file = file;
  address = None;
  instance = None;
  dnet = None;
  dadr = None;
  extent = between None None;
  form = Lines;
  wait = 10;
}
