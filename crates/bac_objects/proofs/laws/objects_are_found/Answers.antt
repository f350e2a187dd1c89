use Rattle.bac_objects.proofs.Described.{described_found}
use Rattle.bac_objects.proofs.laws.objects_are_found.Goals as goal

pub returns : goal.returns
returns c = described_found
