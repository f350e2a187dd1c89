use Rattle.bac_ports.proofs.Client.{exchanges_are_runs}
use Rattle.bac_ports.proofs.laws.exchanges_are_runs.Goals as goal

pub returns : goal.returns
returns g c = exchanges_are_runs g.P.Port.sends g.P.Port.receives _ _
