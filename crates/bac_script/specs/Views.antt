-- What the code keeps and returns, seen as the definitions see it. Only private calls cite these.
use Rattle.std.specs.Prelude.{◌≡◌, ℕ, ℤ, List, Result, Ok, Err}
use Rattle.bac_wire.specs.Primitive.{Id}
use Rattle.bac_wire.specs.Stamp.{CivilTime}
use Rattle.bac_objects.specs.declared.lines.ObjectLine.TheVariants.{Binary, Multistate, Integer, Log}
use Rattle.bac_script.specs.Fault.{Refusal, Bad, Unbuilt}
use Rattle.bac_script.specs.Script.Line.{ScriptEvent, Received, Clocked, Sampled, Walked, ScriptLine, Device, Object}
use Rattle.bac_script.specs.Script.Line.{Happens}
use Rattle.bac_script.specs.Session.{SessionState, Empty, Described, Running}
use Rattle.bac_script.specs.declared.replay.fault.LineFault.{LineFault}
use Rattle.bac_script.specs.declared.replay.fault.LineFault.TheVariants as fault
use Rattle.bac_script.specs.declared.script.line.Event as event
use Rattle.bac_script.specs.declared.script.line.Line as line
use Rattle.bac_script.specs.declared.replay.session.Session.{Session}
use Rattle.bac_script.specs.declared.replay.session.Session.TheVariants as session

-- ---- a line

-- what the words of a line say, by its kind
abbrev pub device_of : ℕ → List ℕ → ℕ → ℕ → CivilTime → ScriptLine
device_of instance name vendor reply clock =
    Device (record { instance = instance; name = name; vendor = vendor; reply_size = reply; clock = clock })

-- a line of a Binary Value
abbrev pub binary_of : ℕ → List ℕ → ℕ → ScriptLine
binary_of instance name default = Object (Binary instance name default)

-- a line of a Multi-state Value
abbrev pub multistate_of : ℕ → List ℕ → ℕ → ℕ → ScriptLine
multistate_of instance name states default = Object (Multistate instance name states default)

-- a line of an Integer Value
abbrev pub integer_of : ℕ → List ℕ → ℤ → ScriptLine
integer_of instance name default = Object (Integer instance name default)

-- a line of a Trend Log
abbrev pub log_of : ℕ → List ℕ → Id → ℕ → ℕ → ℕ → ScriptLine
log_of instance name source capacity interval logged = Object (Log instance name source capacity interval logged)

-- an event of the code, apart from where its octets lie in memory
abbrev pub event_of : event.Event → ScriptEvent
event_of (event.TheVariants.Received octets) = Received octets.now
event_of (event.TheVariants.Clocked stamp) = Clocked stamp
event_of (event.TheVariants.Sampled instance) = Sampled instance
event_of (event.TheVariants.Walked words) = Walked words.log words.from words.steps

-- a line of the code, as what a line says
abbrev pub line_of : line.Line → ScriptLine
line_of (line.TheVariants.Device line) = Device line
line_of (line.TheVariants.Object line) = Object line
line_of (line.TheVariants.Happens happened) = Happens (event_of happened)

-- ---- what the lines so far have made

-- a session of the code, as what the lines so far have made
abbrev pub state_of : Session → SessionState
state_of session.Empty = Empty
state_of (session.Described device lines) = Described device lines.items
state_of (session.Running device transactions) = Running device

-- ---- what functions return

-- The refusal is the one that the definition says. Memory can run out in place of anything.
abbrev pub Fails : {Y : Type 0} → LineFault → Result Y Refusal → Type 0
Fails fault.Bad said = said ≡ Err Bad
Fails (fault.Build refused) said = said ≡ Err (Unbuilt refused)
Fails fault.Memory said = Unit {0}

-- what a function returned, seen by view, is what the definition says, unless memory ran out
abbrev pub Meets : {X Y : Type 0} → (X → Y) → Result X LineFault → Result Y Refusal → Type 0
Meets view (Ok x) said = said ≡ Ok (view x)
Meets view (Err f) said = Fails f said
