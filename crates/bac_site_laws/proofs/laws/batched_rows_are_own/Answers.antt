use Rattle.bac_site_laws.proofs.BatchedTracks.{batched_rows_are_own}
use Rattle.bac_site_laws.proofs.laws.batched_rows_are_own.Goals as goal

pub returns : goal.returns
returns c = batched_rows_are_own c.loses_nothing.ensures
