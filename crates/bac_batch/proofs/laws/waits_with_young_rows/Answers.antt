use Rattle.bac_batch.proofs.Inside.{waits_with_young_rows}
use Rattle.bac_batch.proofs.laws.waits_with_young_rows.Goals as goal

pub returns : goal.returns
returns g c = waits_with_young_rows g.M.Machine.gives g.M.Machine.hears g.M.Machine.reads
