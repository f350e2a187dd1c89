-- What halts the tool, and what that comes to: the program's own fault, or an archive that is no use. Read `run_halt`
-- and `stop_halt`.
use Rattle.std.specs.Prelude.{◌++◌, List, codes, decimal, ℕ}
use Rattle.bac_drive.specs.declared.driving.Fault.TheVariants as poll
use Rattle.bac_files.specs.declared.not_opened.NotOpened.TheVariants.{Empty}
use Rattle.bac_historian.specs.declared.fault.Fault.{Fault as RunFault}
use Rattle.bac_historian.specs.declared.fault.Fault.TheVariants as run
use Rattle.bac_keep_command_line.specs.declared.fault.Fault.{Fault as WordFault}
use Rattle.bac_keep_command_line.specs.declared.fault.Fault.TheVariants as words
use Rattle.bac_keeping.specs.declared.run.KeepFault.{KeepFault}
use Rattle.bac_keeping.specs.declared.run.KeepFault.TheVariants as keep
use Rattle.bac_keeping.specs.declared.stopping.StopHalt.{StopHalt}
use Rattle.bac_keeping.specs.declared.stopping.StopHalt.TheVariants as stop
use Rattle.bac_parts.specs.declared.fault.FileFault.TheVariants as file
use Rattle.bac_plan.specs.declared.fault.NamingFault.{NamingFault}
use Rattle.bac_plan.specs.declared.fault.NamingFault.TheVariants as naming
use Rattle.bac_plan.specs.declared.fault.PlanFault.{PlanFault}
use Rattle.bac_plan.specs.declared.fault.PlanFault.TheVariants as plan
use Rattle.bac_plan.specs.declared.fault.StopFault.{StopFault}
use Rattle.bac_plan.specs.declared.fault.StopFault.TheVariants as missing
use Rattle.bac_keeper.specs.declared.archive_fault.ArchiveFault.{ArchiveFault}
use Rattle.bac_keeper.specs.declared.archive_fault.ArchiveFault.TheVariants.{Device, DevicesFull, Endless, Log}
use Rattle.bac_keeper.specs.declared.archive_fault.ArchiveFault.TheVariants.{LogsFull, NoDevice, NoLog}
use Rattle.bac_keeper.specs.declared.fault.Fault.{Fault}
use Rattle.bac_keeper.specs.declared.fault.Fault.TheVariants.{BadValue, LongNumber, Memory, Write}
use Rattle.bac_keeper.specs.declared.halts.Halt.{Halt}
use Rattle.bac_keeper.specs.declared.halts.Halt.TheVariants.{Archive, File, Own}

-- the fault of words
abbrev pub of_words : WordFault → Fault
of_words (words.BadValue w) = BadValue w
of_words (words.LongNumber w) = LongNumber w
of_words words.Memory = Memory

-- what is wrong with an archive, and what to do
abbrev pub reason_of : ArchiveFault → List ℕ
reason_of DevicesFull = codes "it has no id left for another device: keep that in another file"
reason_of LogsFull = codes "it has no id left for another trend log: keep that in another file"
reason_of (Device id) = codes "device "
    ++ (decimal id ++ codes " in it has a wrong address, dnet, dadr or instance: correct that with sqlite3")
reason_of (Log id) = codes "trend log "
    ++ (decimal id ++ codes " in it has a wrong instance: correct that with sqlite3")
reason_of NoDevice = codes "it has no such device"
reason_of NoLog = codes "it has no such trend log"
reason_of Endless = codes "its devices are polled without end"

-- what words name gets no row
abbrev pub naming_halt : NamingFault → Halt
naming_halt naming.Memory = Own Memory
naming_halt naming.DevicesFull = Archive DevicesFull
naming_halt naming.LogsFull = Archive LogsFull

-- no site is made of what the archive tells
abbrev pub plan_halt : PlanFault → Halt
plan_halt plan.Memory = Own Memory
plan_halt (plan.Device id) = Archive (Device id)
plan_halt (plan.Log id) = Archive (Log id)

-- a run over an archive halts
abbrev pub keep_halt : KeepFault → Halt
keep_halt (keep.Refused why) = File (file.Refused why)
keep_halt (keep.Untold error) = File (file.Database error)
keep_halt (keep.Naming why) = naming_halt why
keep_halt (keep.Unput error) = File (file.Database error)
keep_halt (keep.Plan why) = plan_halt why
keep_halt (keep.Poll poll.Memory) = Own Memory
keep_halt (keep.Poll (poll.Archive error)) = File (file.Database error)
keep_halt (keep.Poll poll.Output) = Own Write
keep_halt (keep.Poll poll.Errors) = Own Write
keep_halt (keep.Poll poll.Unending) = Archive Endless

-- a run over the files of one halts
abbrev pub run_halt : RunFault → Halt
run_halt (run.File why) = File why
run_halt (run.Run why) = keep_halt why

-- what words name isn't on record
abbrev pub missing_halt : StopFault → Halt
missing_halt missing.Memory = Own Memory
missing_halt (missing.NoDevice place) = Archive NoDevice
missing_halt (missing.NoLog place instance) = Archive NoLog

-- nothing is stopped
abbrev pub stop_halt : StopHalt → Halt
stop_halt stop.Nothing = File (file.Unopened Empty)
stop_halt (stop.Refused why) = File (file.Refused why)
stop_halt (stop.Untold error) = File (file.Database error)
stop_halt (stop.Missing why) = missing_halt why
stop_halt (stop.Unput error) = File (file.Database error)
