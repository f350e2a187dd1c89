-- What one line of a script does.
use Rattle.std.specs.Prelude.{ℕ, decimal, if◌then◌else◌, List, [], ◌∷◌, ◌++◌, codes, Option, None, Some}
use Rattle.std.specs.Prelude.{Result, Ok, Err}
use Rattle.hex.specs.Hex.{encode_lower}
use Rattle.bac_print.specs.Addresses.{address_text}
use Rattle.bac_device.specs.Answer.{answer}
use Rattle.bac_device.specs.Reply.{receiver_of, reply_octets}
use Rattle.bac_objects.specs.Build.{build_fault, built}
use Rattle.bac_objects.specs.Sampling.{sampled}
use Rattle.bac_device.specs.Clock.{advanced}
use Rattle.bac_objects.specs.State as device
use Rattle.bac_objects.specs.declared.build.BuildFault.{BuildFault}
use Rattle.bac_objects.specs.declared.lines.DeviceLine.{DeviceLine}
use Rattle.bac_objects.specs.declared.lines.ObjectLine.{ObjectLine}
use Rattle.bac_objects.specs.declared.sampling.SampleFault.{SampleFault}
use Rattle.bac_objects.specs.declared.sampling.SampleFault.TheVariants.{NoSuchLog, Disabled, CycleFull}
use Rattle.bac_device.specs.declared.reply.Receiver.{Receiver}
use Rattle.bac_device.specs.declared.reply.Receiver.TheVariants.{Sender, Address}
use Rattle.bac_device.specs.declared.reply.Reply.{Reply}
use Rattle.bac_script.specs.Fault.{Refusal, Bad, Unbuilt}
use Rattle.bac_script.specs.Walk.{walk_text}
use Rattle.bac_script.specs.Script.Line.{ScriptEvent, Received, Clocked, Sampled, Walked, ScriptLine, Device, Object}
use Rattle.bac_script.specs.Script.Line.{Happens}
use Rattle.bac_script.specs.Script.Line.{is_silent, line_in}

-- what the lines so far have made: nothing, a device that is described with its
-- objects in the order of their lines, or one that runs
pub data SessionState : Type 0 where
  Empty : SessionState
  Described : DeviceLine → List ObjectLine → SessionState
  Running : device.State → SessionState

-- what a line prints and the state after it, or why it is refused
abbrev pub Step : Type 0
Step = Result (List ℕ × SessionState) Refusal

-- ---- the device's line

-- it stands once, and before the first event
abbrev pub on_device : SessionState → DeviceLine → Step
on_device Empty line = Ok ([], Described line [])
on_device s line = Err Bad

-- ---- an object's line

-- it stands after the device's, and before the first event
abbrev pub on_object : SessionState → ObjectLine → Step
on_object (Described device lines) line = Ok ([], Described device (lines ++ line ∷ []))
on_object s line = Err Bad

-- ---- an event

-- to whom an answer goes, if that isn't who sent what it answers
abbrev pub receiver_text : Receiver → List ℕ
receiver_text Sender = []
receiver_text (Address address) = codes " to " ++ address_text address

-- what a reply of these octets to this receiver prints, and what none does
abbrev pub answer_text : Option Receiver → List ℕ → List ℕ
answer_text None octets = codes "none" ++ 10 ∷ []
answer_text (Some to) octets = codes "tx " ++ (encode_lower octets ++ (receiver_text to ++ 10 ∷ []))

-- what a datagram prints, and the device after it
abbrev pub answered : Option Reply × device.State → List ℕ × device.State
answered said = (answer_text (receiver_of said.0) (reply_octets said.0), said.1)

-- what an advance of the clock prints: how many samples the logs took, or that it would go back
abbrev pub clock_text : Option ℕ → List ℕ
clock_text None = codes "clock back" ++ 10 ∷ []
clock_text (Some count) = codes "sampled " ++ (decimal count ++ 10 ∷ [])

-- what an advance prints, and the device after it
abbrev pub clocked : device.State → Option (ℕ × device.State) → List ℕ × device.State
clocked device None = (clock_text None, device)
clocked device (Some taken) = (clock_text (Some taken.0), taken.1)

-- what a sample on demand prints: its number, or why the log takes none
abbrev pub sample_text : Result ℕ SampleFault → List ℕ
sample_text (Ok number) = codes "number " ++ (decimal number ++ 10 ∷ [])
sample_text (Err NoSuchLog) = codes "refused: no such log" ++ 10 ∷ []
sample_text (Err Disabled) = codes "refused: disabled" ++ 10 ∷ []
sample_text (Err CycleFull) = codes "refused: cycle full" ++ 10 ∷ []

-- what a sample prints, and the device after it
abbrev pub sample_taken : device.State → Result (ℕ × device.State) SampleFault → List ℕ × device.State
sample_taken device (Ok taken) = (sample_text (Ok taken.0), taken.1)
sample_taken device (Err fault) = (sample_text (Err fault), device)

-- what it prints, and the device after it
abbrev pub happens : device.State → ScriptEvent → List ℕ × device.State
happens device (Received octets) = answered (answer device octets)
happens device (Clocked stamp) = clocked device (advanced device stamp)
happens device (Sampled instance) = sample_taken device (sampled device instance)
happens device (Walked log from steps) = (walk_text device log from steps, device)

-- what an event prints, and the running device
abbrev pub running : List ℕ × device.State → Step
running happened = Ok (happened.0, Running happened.1)

-- the first event builds the device
abbrev pub first_event : Option BuildFault → device.State → ScriptEvent → Step
first_event None device event = running (happens device event)
first_event (Some fault) device event = Err (Unbuilt fault)

-- an event stands after the device's line
abbrev pub on_event : SessionState → ScriptEvent → Step
on_event Empty event = Err Bad
on_event (Described device lines) event = first_event (build_fault device lines) (built device lines) event
on_event (Running device) event = running (happens device event)

-- ---- any line

-- a line, by what it says
abbrev pub on_line : SessionState → ScriptLine → Step
on_line s (Device line) = on_device s line
on_line s (Object line) = on_object s line
on_line s (Happens event) = on_event s event

-- the line that a text says, if it says one
abbrev pub on_read : SessionState → Option ScriptLine → Step
on_read s None = Err Bad
on_read s (Some line) = on_line s line

-- what a text does as a line; an empty line and a comment do nothing
unfoldable pub step : SessionState → List ℕ → Step
step s text = if is_silent text then Ok ([], s) else on_read s (line_in text)

-- what the end of a script finds: a device that no event had built
abbrev pub end_fault : SessionState → Option BuildFault
end_fault Empty = None
end_fault (Described device lines) = build_fault device lines
end_fault (Running device) = None
