use Rattle.std.proofs.Common.{arith, ap, not, ◌∙◌}
use Rattle.bac_resume.proofs.Recorded.{record_here, record_more}
use Rattle.bac_resume.proofs.items.newest_record.Goals as goal

pub returns-then-is_none : goal.returns-then-is_none
returns-then-is_none c =
    record_here c.args.items.now c.loop-item.item-index c.item-item.result (omega arith) c.item-item.is c.loop-item.invariant (c.is_none.ensures ∙ ap not c.if-is_none.true)

pub loop-item-preserved : goal.loop-item-preserved
loop-item-preserved c =
    record_more c.args.items.now c.loop-item.item-index c.item-item.result (omega arith) c.item-item.is c.loop-item.invariant (c.is_none.ensures ∙ ap not c.if-is_none.false)
