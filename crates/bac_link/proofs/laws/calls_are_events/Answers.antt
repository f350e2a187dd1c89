use Rattle.bac_link.proofs.Client.{calls_are_events}
use Rattle.bac_link.proofs.laws.calls_are_events.Goals as goal

pub returns : goal.returns
returns c = calls_are_events
