use Rattle.bac_poll_laws.proofs.Keeps.{held_kept}
use Rattle.bac_poll_laws.proofs.laws.held_is_kept.Goals as goal

pub returns : goal.returns
returns c = held_kept
