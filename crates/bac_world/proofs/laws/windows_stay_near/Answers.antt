use Rattle.bac_world.proofs.Windows.{windows_near}
use Rattle.bac_world.proofs.laws.windows_stay_near.Goals as goal

pub returns : goal.returns
returns c = windows_near
