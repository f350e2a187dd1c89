-- No script is told that its device can't be built since memory ran out.
use Rattle.std.proofs.Common.{◌≡◌, ◌+◌, ap, sym, ◌∙◌, ℕ, Bool, true, false, if◌then◌else◌, inl, inr, List, [], ◌∷◌, Option, Some, None, Result, Ok, Err, IfErr}
use Rattle.bac_objects.specs.Build.{build_fault, built}
use Rattle.bac_objects.specs.State as device
use Rattle.bac_objects.specs.declared.build.BuildFault.{BuildFault}
use Rattle.bac_objects.specs.declared.build.BuildFault.TheVariants as build
use Rattle.bac_objects.proofs.Builds.{never_memory}
use Rattle.bac_script.specs.Fault.{Refusal, Bad, Unbuilt, replay_fault}
use Rattle.bac_script.specs.Replay.{Played, play, then_play}
use Rattle.bac_script.specs.Script.Line.{ScriptEvent, ScriptLine, Device, Object, Happens, is_silent, line_in}
use Rattle.bac_script.specs.Session.{SessionState, Empty, Described, Running, first_event, on_event, on_line, on_read, step}
use Rattle.bac_script.specs.Stops.{ScriptStops, Stops}
use Rattle.bac_script.specs.declared.replay.fault.ReplayFault.{ReplayFault}
use Rattle.bac_script.specs.declared.replay.fault.ReplayFault.TheVariants.{BadLine, Build, Read, TooLong, Write, Memory}

first_never : (fault : Option BuildFault) (d : device.State) (event : ScriptEvent) → (fault ≡ Some build.Memory → ⊥) → first_event fault d event ≡ Err (Unbuilt build.Memory) → ⊥
first_never None d event never h = cc
first_never (Some fault) d event never h = never (let same : fault ≡ build.Memory = cc in ap Some same)

event_never : (s : SessionState) (event : ScriptEvent) → on_event s event ≡ Err (Unbuilt build.Memory) → ⊥
event_never Empty event h = cc
event_never (Described line lines) event h = first_never (build_fault line lines) (built line lines) event (never_memory line lines) h
event_never (Running d) event h = cc

line_never : (s : SessionState) (line : ScriptLine) → on_line s line ≡ Err (Unbuilt build.Memory) → ⊥
line_never Empty (Device line) h = cc
line_never (Described first lines) (Device line) h = cc
line_never (Running d) (Device line) h = cc
line_never Empty (Object line) h = cc
line_never (Described first lines) (Object line) h = cc
line_never (Running d) (Object line) h = cc
line_never s (Happens event) h = event_never s event h

read_never : (s : SessionState) (line : Option ScriptLine) → on_read s line ≡ Err (Unbuilt build.Memory) → ⊥
read_never s None h = cc
read_never s (Some line) h = line_never s line h

step_never : (s : SessionState) (text : List ℕ) → step s text ≡ Err (Unbuilt build.Memory) → ⊥
unfolding step
step_never s text h = either (is_silent text) h
  where
    either : (b : Bool) → (if b then Ok ([], s) else on_read s (line_in text)) ≡ Err (Unbuilt build.Memory) → ⊥
    either true k = cc
    either false k = read_never s (line_in text) k

then_never : (n : ℕ) (r : Result (List ℕ × SessionState) Refusal) (rest : SessionState → Played) → (r ≡ Err (Unbuilt build.Memory) → ⊥) →
    ((t : SessionState) → (rest t).1 ≡ Err (Build build.Memory) → ⊥) → (then_play n r rest).1 ≡ Err (Build build.Memory) → ⊥
then_never n (Ok x) rest never more h = more x.1 h
then_never n (Err Bad) rest never more h = cc
then_never n (Err (Unbuilt fault)) rest never more h = never (let same : fault ≡ build.Memory = cc in ap (λ (f : BuildFault). Err (Unbuilt f)) same)

play_never : (n : ℕ) (s : SessionState) (all : List (List ℕ)) → (play n s all).1 ≡ Err (Build build.Memory) → ⊥
play_never n s [] h = cc
play_never n s (x ∷ more) h = then_never n (step s x) (λ t. play (n + 1) t more) (step_never s x) (λ t. play_never (n + 1) t more) h

stops_never : (old new : Option (List ℕ)) (s : SessionState) (all : List (List ℕ)) (f : ReplayFault) → Stops old new s all f → f ≡ Build build.Memory → ⊥
stops_never old new s all (BadLine k) h is = cc
stops_never old new s all (Build b) h is = play_never 1 s all (h.0 ∙ ap Err is)
stops_never old new s all Read h is = cc
stops_never old new s all TooLong h is = cc
stops_never old new s all Write h is = cc
stops_never old new s all Memory h is = cc

fault_never : (fault : BuildFault) → replay_fault fault ≡ Build build.Memory → ⊥
fault_never build.BadInstance h = cc
fault_never build.DuplicateId h = cc
fault_never build.BadName h = cc
fault_never build.DuplicateName h = cc
fault_never build.BadStates h = cc
fault_never build.BadDefault h = cc
fault_never build.BadCapacity h = cc
fault_never build.BadInterval h = cc
fault_never build.BadReplySize h = cc
fault_never build.Memory h = cc

script_never : (old new : Option (List ℕ)) (script : List ℕ) (f : ReplayFault) → ScriptStops old new script f → f ≡ Build build.Memory → ⊥
script_never old new script f (inl h) is = stops_never old new Empty _ f h is
script_never old new script f (inr (t, fault, same, played, refused)) is = fault_never fault (sym same ∙ is)

-- the fault of the lines that were played, and of a whole script
pub cut_never : (old new : Option (List ℕ)) (s : SessionState) (all : List (List ℕ)) (f : ReplayFault) (r : Result (Unit {0}) ReplayFault) → r ≡ Err f → Stops old new s all f →
    r ≡ Err (Build build.Memory) → ⊥
cut_never old new s all f r told h is = stops_never old new s all f h (let same : Err f ≡ Err (Build build.Memory) = sym told ∙ is in cc)

pub whole_never : (old new : Option (List ℕ)) (script : List ℕ) (r : Result (Unit {0}) ReplayFault) → IfErr r (ScriptStops old new script) → r ≡ Err (Build build.Memory) → ⊥
whole_never old new script (Ok x) h is = cc
whole_never old new script (Err f) h is = script_never old new script f h (let same : f ≡ Build build.Memory = cc in same)
