-- How the playing of lines can stop early.
use Rattle.std.specs.Prelude.{◌≡◌, ◌⊎◌, ℕ, List, ◌++◌, Option, Ok, Err}
use Rattle.std.specs.Io.KnownBytes.{Appends, Keeps}
use Rattle.std.specs.Str.Lines.{lines}
use Rattle.bac_script.specs.Fault.{at_line, replay_fault, Refusal}
use Rattle.bac_script.specs.Replay.{play, PlaysAll}
use Rattle.bac_script.specs.Session.{step, end_fault, SessionState, Empty}
use Rattle.bac_objects.specs.Build.{Refuses}
use Rattle.bac_objects.specs.declared.build.BuildFault.{BuildFault}
use Rattle.bac_print.specs.Output.{AppendsPart}
use Rattle.bac_script.specs.declared.replay.fault.ReplayFault.{ReplayFault}
use Rattle.bac_script.specs.declared.replay.fault.ReplayFault.TheVariants.{BadLine, Build, Read, TooLong, Write, Memory}

-- line n has this fault, and nothing was written for it
abbrev pub IsFaultOf : Option (List ℕ) → Option (List ℕ) → ℕ → SessionState → List ℕ → ReplayFault → Type 0
IsFaultOf old new n s line f = (e : Refusal) × (step s line ≡ Err e) × (f ≡ at_line n e) × Keeps old new

-- why line n stopped the playing, and what was written for it
abbrev pub LineStops : Option (List ℕ) → Option (List ℕ) → ℕ → SessionState → List ℕ → ReplayFault → Type 0
LineStops old new n s line (BadLine k) = IsFaultOf old new n s line (BadLine k)
LineStops old new n s line (Build f) = IsFaultOf old new n s line (Build f)
LineStops old new n s line Read = ⊥
LineStops old new n s line TooLong = ⊥
LineStops old new n s line Write =
    (text : List ℕ) × (t : SessionState) × (step s line ≡ Ok (text, t)) × AppendsPart old new text
LineStops old new n s line Memory = Keeps old new

-- a line has this fault, and the writer holds the text of the lines before it
abbrev pub FaultStops : Option (List ℕ) → Option (List ℕ) → SessionState → List (List ℕ) → ReplayFault → Type 0
FaultStops old new s all f = ((play 1 s all).1 ≡ Err f) × Appends old new (play 1 s all).0

-- why the playing of all these lines stopped, and what the writer then holds
abbrev pub Stops : Option (List ℕ) → Option (List ℕ) → SessionState → List (List ℕ) → ReplayFault → Type 0
Stops old new s all (BadLine k) = FaultStops old new s all (BadLine k)
Stops old new s all (Build f) = FaultStops old new s all (Build f)
Stops old new s all Read = ⊥
Stops old new s all TooLong = ⊥
Stops old new s all Write = AppendsPart old new (play 1 s all).0
Stops old new s all Memory =
    (before : List (List ℕ)) × (after : List (List ℕ)) × (t : SessionState) × (all ≡ before ++ after)
    × PlaysAll old new s before t

-- why the playing of a whole script from this state stopped: one of its lines, or the device at its end
abbrev pub StopsFrom : Option (List ℕ) → Option (List ℕ) → SessionState → List ℕ → ReplayFault → Type 0
StopsFrom old new s script f = Stops old new s (lines script) f
    ⊎ ((t : SessionState) × (e : BuildFault) × (f ≡ replay_fault e) × PlaysAll old new s (lines script) t
    × Refuses e (end_fault t))

-- the same from the start
abbrev pub ScriptStops : Option (List ℕ) → Option (List ℕ) → List ℕ → ReplayFault → Type 0
ScriptStops old new script f = StopsFrom old new Empty script f
