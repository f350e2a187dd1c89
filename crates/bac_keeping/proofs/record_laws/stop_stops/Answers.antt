use Rattle.bac_keeping.proofs.Stops.{others_stand, stop_stops}
use Rattle.bac_keeping.proofs.record_laws.stop_stops.Goals as goal

pub returns-clause-named : goal.returns-clause-named
returns-clause-named c = stop_stops c.stopped_are_told.ensures c.named_are_stopped.ensures

pub returns-clause-others : goal.returns-clause-others
returns-clause-others c = others_stand c.stopped_are_told.ensures c.others_go_on.ensures
