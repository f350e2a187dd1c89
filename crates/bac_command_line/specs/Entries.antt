-- What the entries of a command are for clap, and the tools of the program.
use Rattle.std.specs.Prelude.{List, [], ◌∷◌}
use Rattle.clap.specs.Words.{App, Rule, with_subcommand}
use Rattle.bac_command_line.specs.declared.entries.Entry.{Entry}
use Rattle.bac_command_line.specs.declared.entries.Entry.TheVariants.{Needed, NeededList, Maybe, MaybeList}
use Rattle.bac_command_line.specs.declared.entries.Entry.TheVariants.{Flag, FlagOr, Choice, ChoiceOr}
use Rattle.bac_command_line.specs.declared.commands.Tool.{Tool}
use Rattle.bac_command_line.specs.declared.commands.Tool.TheVariants.{Replay, Wi, Rp, Wp, Log, Logs, Keep, Kept, Check}
use Rattle.bac_command_line.specs.declared.commands.Tool.TheVariants.{Serve}
use Rattle.bac_command_line.specs.Commands.{needed, needed_list, maybe, maybe_list, flag, flag_or, option, option_or}
use Rattle.bac_command_line.specs.Commands.{replay_app, wi_app, rp_app, wp_app, log_app, logs_app, keep_app, kept_app}
use Rattle.bac_command_line.specs.Commands.{check_app, serve_app}

-- the rule of an entry's word
abbrev pub rule_in : Entry → Rule
rule_in (Needed word help) = needed word
rule_in (NeededList word help) = needed_list word
rule_in (Maybe word help) = maybe word
rule_in (MaybeList word help) = maybe_list word
rule_in (Flag word help) = flag word
rule_in (FlagOr word letter help) = flag_or word letter
rule_in (Choice word value help) = option word
rule_in (ChoiceOr word value default help) = option_or word default.now

-- the words of a tool
abbrev pub app_for : Tool → App
app_for Replay = replay_app
app_for Wi = wi_app
app_for Rp = rp_app
app_for Wp = wp_app
app_for Log = log_app
app_for Logs = logs_app
app_for Keep = keep_app
app_for Kept = kept_app
app_for Check = check_app
app_for Serve = serve_app

-- a command with more tools
abbrev pub with_tools : App → List Tool → App
with_tools a [] = a
with_tools a (t ∷ ts) = with_tools (with_subcommand a (app_for t).top) ts
