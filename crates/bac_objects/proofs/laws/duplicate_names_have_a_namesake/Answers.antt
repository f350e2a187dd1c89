use Rattle.bac_objects.proofs.Misfits.{namesake_there}
use Rattle.bac_objects.proofs.laws.duplicate_names_have_a_namesake.Goals as goal

pub returns : goal.returns
returns c = namesake_there
