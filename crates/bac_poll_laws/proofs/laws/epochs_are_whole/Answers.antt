use Rattle.bac_poll_laws.specs.Laws.{IsAmong}
use Rattle.bac_poll_laws.proofs.Once.{whole_epochs}
use Rattle.bac_poll_laws.proofs.laws.epochs_are_whole.Goals as goal

pub returns : goal.returns
returns c = λ shown. whole_epochs (IsAmong shown)
