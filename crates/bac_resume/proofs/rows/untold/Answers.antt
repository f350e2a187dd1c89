use Rattle.std.proofs.Common.{arith}
use Rattle.bac_resume.proofs.Recorded.{each_untold}
use Rattle.bac_resume.proofs.rows.untold.Goals as goal

pub returns : goal.returns
returns c = λ log less. each_untold c.loop.all.items c.loop.counter log c.loop.invariant (omega arith)
