use Rattle.bac_objects.proofs.Builds.{never_memory}
use Rattle.bac_objects.proofs.laws.lines_need_no_memory.Goals as goal

pub returns : goal.returns
returns c = never_memory
