use Rattle.std.proofs.Common.{sym, ◌∙◌}
use Rattle.bac_script.proofs.Flaws.{line_at-here}
use Rattle.bac_script.proofs.script.flaw.line_at.Goals as goal

pub returns-then-left-le1 : goal.returns-then-left-le1
returns-then-left-le1 c =
    c.without_return.ensures ∙ sym (c.loop-line.invariant ∙ line_at-here c.loop-line.left c.loop-line.rest.now c.in-Some.line.now c.in-Some.more.now c.in-Some.ensures.parts c.if-left-le1.true)
