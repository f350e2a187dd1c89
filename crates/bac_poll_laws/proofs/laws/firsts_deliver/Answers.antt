use Rattle.bac_poll_laws.proofs.FirstRuns.{firsts}
use Rattle.bac_poll_laws.proofs.laws.firsts_deliver.Goals as goal

pub returns : goal.returns
returns c = firsts
