use Rattle.bac_poll_laws.proofs.Gaps.{gaps_gone}
use Rattle.bac_poll_laws.proofs.laws.gaps_are_gone.Goals as goal

pub returns : goal.returns
returns c = gaps_gone
