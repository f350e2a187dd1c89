-- What is wrong with a file, and how it is told.
use Rattle.std.specs.Prelude.{◌≡◌, ℕ, List, codes}
use Rattle.bac_check.specs.Checked.{ending_status, told_text}
use Rattle.bac_check.specs.declared.checking.Ending.TheVariants.{Uncounted as IsUncounted}
use Rattle.bac_check.specs.declared.checking.Unprinted.{Unprinted}
use Rattle.bac_check.specs.declared.checking.Unprinted.TheVariants as unprinted
use Rattle.bac_check.specs.declared.tally.Uncounted.{Uncounted}
use Rattle.bac_check.specs.declared.tally.Uncounted.TheVariants as uncounted
use Rattle.bac_kept.specs.declared.fault.Fault.{Fault as KeptFault}
use Rattle.bac_kept.specs.declared.fault.Fault.TheVariants as kept
use Rattle.bac_parts.specs.Faults.{AreLinesOf, fault_status, lines_of}
use Rattle.bac_parts.specs.declared.fault.FileFault.TheVariants.{Database}
use Rattle.bac_reading.specs.declared.fault.Fault.{Fault}
use Rattle.bac_reading.specs.declared.fault.Fault.TheVariants as fault
use Rattle.bac_reading.specs.declared.fault.Stop.{Stop}
use Rattle.bac_reading.specs.declared.fault.Stop.TheVariants as stop
use Rattle.bac_reading.specs.declared.fault.Trouble.{Trouble}
use Rattle.bac_reading.specs.declared.fault.Trouble.TheVariants as trouble

-- the exit status of a file with which this is wrong
abbrev pub trouble_status : Trouble → ℕ
trouble_status (trouble.File why) = fault_status why
trouble_status trouble.NoLog = 6
trouble_status (trouble.Check end) = ending_status end

-- the lines that tell what is wrong with the file of this path
abbrev pub AreTroubleLines : Trouble → List ℕ → List ℕ → Type 0
AreTroubleLines (trouble.File why) path text = AreLinesOf why path text
AreTroubleLines trouble.NoLog path text = text ≡ lines_of 6 path (codes "it has no such trend log")
AreTroubleLines (trouble.Check end) path text = text ≡ told_text path end

-- why a part isn't read to its end that isn't printed
abbrev pub stop_of : KeptFault → Stop
stop_of kept.Memory = stop.Fault fault.Memory
stop_of kept.Write = stop.Fault fault.Write
stop_of kept.NoLog = stop.Trouble trouble.NoLog
stop_of (kept.Database error) = stop.Trouble (trouble.File (Database error))

-- what is wrong with an archive whose rows aren't counted; its database's error is told as that says it
abbrev pub of_uncounted : Uncounted → Trouble
of_uncounted (uncounted.Database error) = trouble.File (Database error)
of_uncounted uncounted.Memory = trouble.Check (IsUncounted uncounted.Memory)
of_uncounted (uncounted.Overlap epoch before row) = trouble.Check (IsUncounted (uncounted.Overlap epoch before row))
of_uncounted (uncounted.Backward epoch row) = trouble.Check (IsUncounted (uncounted.Backward epoch row))

-- why what was counted isn't printed
abbrev pub of_unprinted : Unprinted → Fault
of_unprinted unprinted.Memory = fault.Memory
of_unprinted unprinted.Write = fault.Write
