use Rattle.std.proofs.Common.{subst}
use Rattle.bac_files.specs.Parts.{ArePartsOf}
use Rattle.bac_files.proofs.folder.paths_among.Goals as goal

pub paths_of-requires-clause-order : goal.paths_of-requires-clause-order
paths_of-requires-clause-order g c =
    let (names, gives, are) = c.in-Ok-Some.ensures.found in
    let (oldest, newest) = subst (ArePartsOf names) c.in-Ok-Some.field-0-is are in
    oldest.1 c.in-Ok-Some.numbers.greatest newest.0
