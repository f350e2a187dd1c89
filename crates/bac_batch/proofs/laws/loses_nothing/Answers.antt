use Rattle.bac_batch.proofs.Inside.{loses_nothing}
use Rattle.bac_batch.proofs.laws.loses_nothing.Goals as goal

pub returns : goal.returns
returns g c = loses_nothing g.M.Machine.gives g.M.Machine.hears g.M.Machine.reads
