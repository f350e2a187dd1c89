use Rattle.bac_walk.proofs.Came.{came_delivers}
use Rattle.bac_walk.proofs.laws.came_is_delivered.Goals as goal

pub returns : goal.returns
returns g c = came_delivers g.L.LogLink.asks
