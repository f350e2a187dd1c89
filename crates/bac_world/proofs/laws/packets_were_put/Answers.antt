use Rattle.bac_world.proofs.Sources.{packets_were_put}
use Rattle.bac_world.proofs.laws.packets_were_put.Goals as goal

pub returns : goal.returns
returns c = packets_were_put
