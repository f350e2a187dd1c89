use Rattle.std.proofs.Common.{◌≡◌, false, drop}
use Rattle.clap.specs.Words.{app_of}
use Rattle.clap.specs.declared.builder.command.Command.TheViews.{out-Command}
use Rattle.bac_command_line.specs.Entries.{with_tools}
use Rattle.bac_command_line.proofs.commands.with_tools.Given as goal

abbrev pub invariant-loop-tool : goal.invariant-loop-tool
invariant-loop-tool l =
    (with_tools (app_of l.fn.command) l.tools ≡ with_tools (app_of l.command) (drop l.tool-index l.tools))
    × ((out-Command l.command).has_globals ≡ false)
