use Rattle.std.proofs.Common.{rules}
use Rattle.std.proofs.lemmas.Result.{IfOk-weaker}
use Rattle.clap.specs.Words.{new_app}
use Rattle.bac_command_line.specs.Commands.{IsCommand}
use Rattle.bac_command_line.proofs.Extending.{paged}
use Rattle.bac_command_line.proofs.commands.command_of.Goals as goal

pub returns : goal.returns
returns c =
    let start : IsCommand (new_app c.page_of-page.result.name.now) c.after_help-command.result = search rules in
    IfOk-weaker c.with_entries-2.result _ _ (λ r e. paged start c.page_of-page.ensures c.in_ok-command.ensures e) c.with_entries-2.ensures
