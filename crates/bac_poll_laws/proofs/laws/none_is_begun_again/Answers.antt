use Rattle.bac_poll_laws.proofs.Backs.{none_again_begun}
use Rattle.bac_poll_laws.proofs.laws.none_is_begun_again.Goals as goal

pub returns : goal.returns
returns c = none_again_begun
