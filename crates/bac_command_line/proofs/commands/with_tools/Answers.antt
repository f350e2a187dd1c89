use Rattle.bac_command_line.proofs.Extending.{next_tool}
use Rattle.bac_command_line.proofs.commands.with_tools.Goals as goal

pub loop-tool-preserved : goal.loop-tool-preserved
loop-tool-preserved c = (
  next_tool _ c.args.tools.now c.loop-tool.tool-index _ _ _ c.loop-tool-test.true c.in_ok-command.ensures c.loop-tool.invariant.0,
  c.in_ok-command.ensures.globals,
)
