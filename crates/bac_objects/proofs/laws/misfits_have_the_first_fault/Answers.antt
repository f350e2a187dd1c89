use Rattle.bac_objects.proofs.Misfits.{first_told}
use Rattle.bac_objects.proofs.laws.misfits_have_the_first_fault.Goals as goal

pub returns : goal.returns
returns c = first_told
