-- The program's exit statuses: 0 done; 1 the words, the script or the configuration aren't right; 2 no answer, or a
-- read, a write or a socket failed; 3 the device refused; 4 a reply that doesn't belong; 5 out of memory.
use Rattle.std.specs.Prelude.{ℕ}
use Rattle.bac_link.specs.declared.exchanges.ExchangeFault.{ExchangeFault}
use Rattle.bac_link.specs.declared.exchanges.ExchangeFault.TheVariants as exchange
use Rattle.bac_tools.specs.declared.fault.Fault.{Fault}
use Rattle.bac_tools.specs.declared.fault.Fault.TheVariants.{NotText, BadValue, LongNumber, OtherTool, NoDevice, Script}
use Rattle.bac_tools.specs.declared.fault.Fault.TheVariants.{Unopened, Socket, Refused}
use Rattle.bac_tools.specs.declared.fault.Fault.TheVariants.{NoAnswer, List, Exchange, Flawed, Silent, Declined}
use Rattle.bac_tools.specs.declared.fault.Fault.TheVariants.{Clock, Write, Memory}
use Rattle.bac_script.specs.declared.replay.fault.ReplayFault.{ReplayFault}
use Rattle.bac_script.specs.declared.replay.fault.ReplayFault.TheVariants as replay
use Rattle.bac_command_line.specs.declared.listing.ListFault.{ListFault}
use Rattle.bac_command_line.specs.declared.listing.ListFault.TheVariants as list
use Rattle.bac_walk.specs.declared.outcome.WalkFault.TheVariants as walk
use Rattle.bac_walk.specs.declared.outcome.Why.{Why}
use Rattle.bac_walk.specs.declared.outcome.Why.TheVariants as why

-- of a script that isn't played to its end
abbrev pub script_status : ReplayFault → ℕ
script_status (replay.BadLine number) = 1
script_status (replay.Build fault) = 1
script_status replay.TooLong = 1
script_status replay.Read = 2
script_status replay.Write = 2
script_status replay.Memory = 5

-- of an exchange without the ACK
abbrev pub exchange_status : ExchangeFault → ℕ
exchange_status exchange.TooLong = 1
exchange_status exchange.Lost = 2
exchange_status (exchange.Refused refusal) = 3
exchange_status exchange.BadReply = 4

-- of a list of addresses that isn't read
abbrev pub list_status : ListFault → ℕ
list_status (list.BadLine number) = 1
list_status (list.TooMany number) = 1
list_status list.Empty = 1
list_status list.TooLong = 1
list_status list.Read = 2
list_status list.Memory = 5

-- of any fault
abbrev pub exit_status : Fault → ℕ
exit_status NotText = 1
exit_status (BadValue word) = 1
exit_status (LongNumber word) = 1
exit_status OtherTool = 1
exit_status NoDevice = 1
exit_status (Script refused) = script_status refused.fault
exit_status (Unopened why) = 2
exit_status Socket = 2
exit_status (Refused address) = 2
exit_status (NoAnswer asked) = 2
exit_status (List fault) = list_status fault
exit_status (Exchange address fault) = exchange_status fault
exit_status (Flawed flaw) = 4
exit_status (Silent address) = 2
exit_status (Declined refusal) = 3
exit_status Clock = 2
exit_status Write = 2
exit_status Memory = 5

-- of a walk, by why it ended
abbrev pub walk_status : Why → ℕ
walk_status why.CaughtUp = 0
walk_status why.StepLimit = 0
walk_status (why.Fault walk.Lost) = 2
walk_status (why.Fault (walk.Refused refusal)) = 3
walk_status (why.Fault walk.BadReply) = 4
walk_status why.Memory = 5
