use Rattle.std.proofs.Common.{◌∙◌}
use Rattle.bac_command_line.proofs.Extending.{next_word, with_arg}
use Rattle.bac_command_line.proofs.entries.with_entries.Goals as goal

pub loop-entry-preserved : goal.loop-entry-preserved
loop-entry-preserved c =
    let more = with_arg c.loop-entry.command c.in_ok-command.command c.arg_of.result c.arg_of.ensures.local c.in_ok-command.ensures in (
      next_word _ c.args.entries.now c.loop-entry.entry-index _ _ _ _ c.loop-entry-test.true c.arg_of.ensures.rule more c.loop-entry.invariant.0,
      more.globals ∙ c.loop-entry.invariant.1,
    )
