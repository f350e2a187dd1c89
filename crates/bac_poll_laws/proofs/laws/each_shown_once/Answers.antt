use Rattle.bac_poll_laws.specs.Laws.{IsAmong, IsOneOf}
use Rattle.bac_poll_laws.proofs.Once.{answers}
use Rattle.bac_poll_laws.proofs.laws.each_shown_once.Goals as goal

pub returns : goal.returns
returns c = λ shown fronts one. answers (IsAmong shown) (IsOneOf fronts) one
