use Rattle.bac_batch.proofs.Inside.{ends_whole}
use Rattle.bac_batch.proofs.laws.ends_whole.Goals as goal

pub returns : goal.returns
returns g c = ends_whole g.M.Machine.gives g.M.Machine.hears g.M.Machine.reads
