-- What the lines of a configuration describe: a device and its objects, and no events. Read from the end.
use Rattle.std.specs.Prelude.{◌≡◌, ℕ, ◌+◌, ◌<◌, ◌≤◌, if◌then◌else◌, List, [], ◌∷◌, ◌++◌, length, Option, None, Some}
use Rattle.std.specs.Prelude.{Result, Ok, Err}
use Rattle.std.specs.Io.KnownBytes.{Consumes}
use Rattle.std.specs.Str.Lines.{lines}
use Rattle.bac_objects.specs.declared.lines.DeviceLine.{DeviceLine}
use Rattle.bac_objects.specs.declared.lines.ObjectLine.{ObjectLine}
use Rattle.bac_script.specs.Script.Line.{ScriptLine, Device, Object, is_silent, line_in}
use Rattle.bac_script.specs.declared.configuration.Configuration.{Configuration}
use Rattle.bac_script.specs.declared.configuration.ConfigurationText.{ConfigurationText}
use Rattle.bac_script.specs.declared.replay.fault.LineFault as line
use Rattle.bac_script.specs.declared.replay.fault.LineFault.{LineFault}
use Rattle.bac_script.specs.declared.replay.fault.ReplayFault.{ReplayFault}
use Rattle.bac_script.specs.declared.replay.fault.ReplayFault.TheVariants.{BadLine, Build, Read, TooLong, Write, Memory}

-- what is described so far: nothing, or a device and its objects in the order of their lines
abbrev pub Plan : Type 0
Plan = Option (DeviceLine × List ObjectLine)

-- the device's line comes first and once, the others after it; none for a bad line
abbrev pub with_line : Plan → ScriptLine → Option Plan
with_line None (Device line) = Some (Some (line, []))
with_line (Some plan) (Object line) = Some (Some (plan.0, plan.1 ++ line ∷ []))
with_line plan other = None

-- the same of a line that was read; none if it couldn't be
abbrev pub with_read : Plan → Option ScriptLine → Option Plan
with_read plan None = None
with_read plan (Some line) = with_line plan line

-- with the line that a text says; an empty line and a comment say nothing
unfoldable pub with_text : Plan → List ℕ → Option Plan
with_text plan text = if is_silent text then Some plan else with_read plan (line_in text)

-- the plan of the next lines, or the number of this line, which is bad
abbrev pub next_plan : ℕ → Option Plan → (Plan → Result Plan ℕ) → Result Plan ℕ
next_plan number None more = Err number
next_plan number (Some plan) more = more plan

-- the lines one after the other, the first one having this number; the number of the first bad line
abbrev pub plan_of : ℕ → Plan → List (List ℕ) → Result Plan ℕ
plan_of number plan [] = Ok plan
plan_of number plan (text ∷ more) = next_plan number (with_text plan text) (λ next. plan_of (number + 1) next more)

-- what the code keeps, as a plan
abbrev pub kept_plan : Option Configuration → Plan
kept_plan None = None
kept_plan (Some c) = Some (c.device, c.objects.items)

-- a line was added, or it is a bad one, unless memory ran out
abbrev pub IsAdded : Option Plan → Result (Unit {0}) LineFault → Plan → Type 0
IsAdded said (Ok done) new = said ≡ Some new
IsAdded said (Err line.TheVariants.Bad) new = said ≡ None
IsAdded said (Err line.TheVariants.Memory) new = Unit {0}
IsAdded said (Err (line.TheVariants.Build fault)) new = ⊥

-- the same of the line with this number
abbrev pub AddsLine : Option Plan → ℕ → Result (Unit {0}) ReplayFault → Plan → Type 0
AddsLine said number (Ok done) new = said ≡ Some new
AddsLine said number (Err (BadLine n)) new = (said ≡ None) × (n ≡ number)
AddsLine said number (Err Memory) new = Unit {0}
AddsLine said number (Err (Build fault)) new = ⊥
AddsLine said number (Err Read) new = ⊥
AddsLine said number (Err TooLong) new = ⊥
AddsLine said number (Err Write) new = ⊥

-- what the lines describe, or the number of the first bad one, unless memory ran out
abbrev pub Describes : Result Plan ℕ → Result (Option Configuration) ReplayFault → Type 0
Describes said (Ok kept) = said ≡ Ok (kept_plan kept)
Describes said (Err (BadLine number)) = said ≡ Err number
Describes said (Err Memory) = Unit {0}
Describes said (Err (Build fault)) = ⊥
Describes said (Err Read) = ⊥
Describes said (Err TooLong) = ⊥
Describes said (Err Write) = ⊥

-- What is read is looked at if it is read to its end and has at most so many
-- octets. `script` is what the reader had, `left` what it has left.
abbrev pub IsConfigured : ℕ → List ℕ → Option (List ℕ) → Result (Option Configuration) ReplayFault → Type 0
IsConfigured limit script left (Err TooLong) = limit < length script
IsConfigured limit script left (Err Read) = (read : List ℕ) × Consumes (Some script) left read × (length read ≤ limit)
IsConfigured limit script left (Err Memory) = Unit {0}
IsConfigured limit script left other = (length script ≤ limit) × Describes (plan_of 1 None (lines script)) other

-- the same, if it is known what the reader had
abbrev pub Configures : ℕ → Option (List ℕ) → Option (List ℕ) → Result (Option Configuration) ReplayFault → Type 0
Configures limit None left result = Unit {0}
Configures limit (Some script) left result = IsConfigured limit script left result

-- the same answer without the text
abbrev pub without_text : Result ConfigurationText ReplayFault → Result (Option Configuration) ReplayFault
without_text (Ok read) = Ok read.configuration
without_text (Err fault) = Err fault
