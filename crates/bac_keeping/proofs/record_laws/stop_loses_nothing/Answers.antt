use Rattle.bac_keeping.proofs.Stops.{stop_loses}
use Rattle.bac_keeping.proofs.record_laws.stop_loses_nothing.Goals as goal

pub returns : goal.returns
returns c = stop_loses c.puts_are_one.ensures.lose_nothing
