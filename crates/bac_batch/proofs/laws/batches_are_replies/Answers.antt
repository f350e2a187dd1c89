use Rattle.bac_batch.proofs.Replies.{batches_are_replies}
use Rattle.bac_batch.proofs.laws.batches_are_replies.Goals as goal

pub returns : goal.returns
returns g c = batches_are_replies g.M.Machine.gives g.M.Machine.hears g.M.Machine.reads
