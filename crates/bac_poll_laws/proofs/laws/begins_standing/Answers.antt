use Rattle.bac_poll_laws.specs.Laws.{IsAmong, IsOneOf}
use Rattle.bac_poll_laws.proofs.Once.{begins_standing}
use Rattle.bac_poll_laws.proofs.laws.begins_standing.Goals as goal

pub returns : goal.returns
returns c = λ shown fronts. begins_standing (IsAmong shown) (IsOneOf fronts)
