use Rattle.std.proofs.Common.{inr}
use Rattle.bac_keeper.proofs.keeping.run_keep.Goals as goal

pub returns-in-Ok-clause-runs : goal.returns-in-Ok-clause-runs
returns-in-Ok-clause-runs g c = inr (c.in-Ok.order, c.in-Ok.ensures, c.keep_ordered.ensures.runs)
