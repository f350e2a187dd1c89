use Rattle.bac_world.proofs.Machine.{runs_the_client}
use Rattle.bac_world.proofs.laws.worlds_run_the_client.Goals as goal

pub returns : goal.returns
returns c = runs_the_client
