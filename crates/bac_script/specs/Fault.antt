-- Faults of lines and of replays.
use Rattle.std.specs.Prelude.{ℕ}
use Rattle.bac_objects.specs.declared.build.BuildFault.{BuildFault}
use Rattle.bac_objects.specs.declared.build.BuildFault.TheVariants as build
use Rattle.bac_script.specs.declared.replay.fault.LineFault as line
use Rattle.bac_script.specs.declared.replay.fault.LineFault.{LineFault}
use Rattle.bac_script.specs.declared.replay.fault.ReplayFault.{ReplayFault}
use Rattle.bac_script.specs.declared.replay.fault.ReplayFault.TheVariants.{BadLine, Build, Memory}

-- the fault of a line whose event builds the device
abbrev pub line_fault : BuildFault → LineFault
line_fault build.Memory = line.TheVariants.Memory
line_fault fault = line.TheVariants.Build fault

-- the fault of a replay whose device can't be built
abbrev pub replay_fault : BuildFault → ReplayFault
replay_fault build.Memory = Memory
replay_fault fault = Build fault

-- why a line can't be played: it is none of a script, or stands in the wrong
-- place; or it is the first event, and the device can't be built
pub data Refusal : Type 0 where
  Bad : Refusal
  Unbuilt : BuildFault → Refusal

-- the fault of a script whose line n is refused
abbrev pub at_line : ℕ → Refusal → ReplayFault
at_line n Bad = BadLine n
at_line n (Unbuilt fault) = Build fault

-- the same of what the code answers, which may be that memory ran out
abbrev pub told : ℕ → LineFault → ReplayFault
told n line.TheVariants.Bad = BadLine n
told n (line.TheVariants.Build fault) = Build fault
told n line.TheVariants.Memory = Memory
