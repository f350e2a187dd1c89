use Rattle.std.proofs.Common.{arith}
use Rattle.bac_plan.proofs.Grouped.{each_none}
use Rattle.bac_plan.proofs.groups.no_logs.Goals as goal

pub returns : goal.returns
returns c = λ id less. each_none c.loop.groups.items c.loop.counter id c.loop.invariant (omega arith)
