use Rattle.std.proofs.Common.{◌≡◌, map, drop}
use Rattle.clap.specs.Words.{app_of}
use Rattle.clap.specs.declared.builder.command.Command.TheViews.{out-Command}
use Rattle.bac_command_line.specs.Commands.{with_rules}
use Rattle.bac_command_line.specs.Entries.{rule_in}
use Rattle.bac_command_line.proofs.entries.with_entries.Given as goal

abbrev pub invariant-loop-entry : goal.invariant-loop-entry
invariant-loop-entry l =
    (with_rules (app_of l.fn.command) (map rule_in l.entries) ≡ with_rules (app_of l.command) (map rule_in (drop l.entry-index l.entries)))
    × ((out-Command l.command).has_globals ≡ (out-Command l.fn.command).has_globals)
