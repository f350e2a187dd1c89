-- The faults of `keep`, `kept` and `check` as those of the program, which has their statuses.
use Rattle.std.specs.Prelude.{ℕ, Result, Ok, Err}
use Rattle.bac_keep_command_line.specs.declared.fault.Fault.{Fault as WordFault}
use Rattle.bac_keep_command_line.specs.declared.fault.Fault.TheVariants as words
use Rattle.bac_keeper.specs.declared.fault.Fault.{Fault as KeepFault}
use Rattle.bac_keeper.specs.declared.fault.Fault.TheVariants as keep
use Rattle.bac_reading.specs.declared.fault.Fault.{Fault as ReadFault}
use Rattle.bac_reading.specs.declared.fault.Fault.TheVariants as read
use Rattle.bac_tools.specs.Ending.{Ending}
use Rattle.bac_tools.specs.declared.fault.Fault.{Fault}
use Rattle.bac_tools.specs.declared.fault.Fault.TheVariants.{BadValue, LongNumber, Unopened, Write, Memory}

-- a fault of `keep`
abbrev pub of_keep : KeepFault → Fault
of_keep (keep.BadValue word) = BadValue word
of_keep (keep.LongNumber word) = LongNumber word
of_keep (keep.Unopened why) = Unopened why
of_keep keep.Write = Write
of_keep keep.Memory = Memory

-- a fault of what reads an archive
abbrev pub of_read : ReadFault → Fault
of_read read.Memory = Memory
of_read read.Write = Write

-- a fault of words
abbrev pub of_words : WordFault → Fault
of_words (words.BadValue word) = BadValue word
of_words (words.LongNumber word) = LongNumber word
of_words words.Memory = Memory

-- how `keep` ends
abbrev pub keep_ending : Result ℕ KeepFault → Ending
keep_ending (Ok status) = Ok status
keep_ending (Err fault) = Err (of_keep fault)

-- how `kept` or `check` ends
abbrev pub read_ending : Result ℕ ReadFault → Ending
read_ending (Ok status) = Ok status
read_ending (Err fault) = Err (of_read fault)
