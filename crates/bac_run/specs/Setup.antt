-- What the program works on: its streams, its sockets, the time of day, and the files of archives.
use Rattle.std.specs.Prelude.{◌≡◌, ℕ, Bool, true, false}
use Rattle.sqlite_disk.specs.declared.start.Start as start
use Rattle.bac_files.specs.declared.disk_files.DiskFiles.{DiskFiles}
use Rattle.bac_keeper.specs.Machine.{Hands, hands}
use Rattle.bac_keeper.specs.Stops.{Texts, texts}
use Rattle.bac_keeping.specs.Keeping.{around}
use Rattle.bac_print.specs.Output.{Held}
use Rattle.bac_reading.specs.Scene.{Scene, scene}
use Rattle.bac_run.specs.declared.machine.Console.{Console}
use Rattle.bac_run.specs.declared.machine.Machine.{Machine}
use Rattle.bac_tools.specs.Streams.{IsUntouched, Streams, streams}

-- its streams, its sockets and the time of day; the files of an archive, and those of the part that it follows on; and
-- what the parts of an archive are read from
pub record Setup (S C Q : Type 0) {F G : Type 0} (s : start.Ghosts F) (t : start.Ghosts G) : Type 0 where
  pub streams : Streams S C
  pub files : DiskFiles F s
  pub parts : DiskFiles G t
  pub folders : Q

-- what a machine has beside streams of which this is seen
abbrev pub setup_over : {S F G Q C : Type 0} {s : start.Ghosts F} {t : start.Ghosts G} → (input output errors : Held) →
    Machine S F G Q C s t → Setup S C Q s t
setup_over input output errors machine = record {
  streams = streams input output errors machine.sockets machine.clock;
  files = machine.files;
  parts = machine.parts;
  folders = machine.folders;
}

-- what a machine and a console have, by what is seen of their streams
abbrev pub setup : {I O E S F G Q C : Type 0} {s : start.Ghosts F} {t : start.Ghosts G} → (I → Held) → (O → Held) →
    (E → Held) → Machine S F G Q C s t → Console I O E → Setup S C Q s t
setup input output errors machine console =
    setup_over (input console.input) (output console.output) (errors console.errors) machine

-- What a tool prints goes to the output. A quiet one prints where nobody reads it, and the output stays as it was.
abbrev pub IsPrinted : (quiet : Bool) → (old new before after : Held) → Type 0
IsPrinted false old new before after = (before ≡ old) × (after ≡ new)
IsPrinted true old new before after = new ≡ old

module _ {S C Q F G : Type 0} {s : start.Ghosts F} {t : start.Ghosts G} where
  -- the same with these sockets
  abbrev pub with_sockets : S → Setup S C Q s t → Setup S C Q s t
  with_sockets sockets all = record all { streams = record all.streams { sockets = sockets } }

  -- the same with this output
  abbrev pub with_output : Held → Setup S C Q s t → Setup S C Q s t
  with_output output all = record all { streams = record all.streams { output = output } }

  -- so a tool does its work, which is quiet or isn't
  abbrev pub DoesQuietly : (quiet : Bool) → ((old : Setup S C Q s t) → ℕ → (new : Setup S C Q s t) → Type 0) →
      (old : Setup S C Q s t) → ℕ → (new : Setup S C Q s t) → Type 0
  DoesQuietly quiet does old status new = (before : Held) × (after : Held)
      × IsPrinted quiet old.streams.output new.streams.output before after
      × does (with_output before old) status (with_output after new)

  -- what `keep` has at hand: with a clock to wait by, and the errors holding this
  abbrev pub hands_of : {W : Type 0} → W → Held → Setup S C Q s t → Hands S W s t
  hands_of waits errors all =
      hands (around all.streams.sockets waits all.streams.output errors) all.files all.parts

  -- what `kept` and `check` read and tell on
  abbrev pub scene_of : Setup S C Q s t → Scene Q
  scene_of all = scene all.folders all.streams.output all.streams.errors

  -- the output and the errors
  abbrev pub texts_of : Setup S C Q s t → Texts
  texts_of all = texts all.streams.output all.streams.errors

  -- the files of archives and of their parts are as they were
  abbrev pub HasFiles : (old new : Setup S C Q s t) → Type 0
  HasFiles old new = (new.files ≡ old.files) × (new.parts ≡ old.parts)

  -- no file is touched
  abbrev pub IsOffFiles : (old new : Setup S C Q s t) → Type 0
  IsOffFiles old new = HasFiles old new × (new.folders ≡ old.folders)

  -- of all this only the output, the errors and what parts are read from may change
  abbrev pub OnlyReads : (old new : Setup S C Q s t) → Type 0
  OnlyReads old new = IsUntouched old.streams new.streams × HasFiles old new
