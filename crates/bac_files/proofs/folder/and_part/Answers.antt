use Rattle.std.proofs.Common.{refl, subst}
use Rattle.bac_files.specs.Parts.{ArePartsOf}
use Rattle.bac_files.proofs.PartsFound.{first, greater, lesser, more, no_more}
use Rattle.bac_files.proofs.folder.and_part.Goals as goal

pub returns-in_default : goal.returns-in_default
returns-in_default c names are =
    no_more names c.args.name.now c.args.found (λ number part. c.in_default.not-Some number ((c.number_of.ensures number).1 part)) are

pub returns-in-Some-found : goal.returns-in-Some-found
returns-in-Some-found c names are =
    let found = c.in-Some-found.numbers in
    let number = c.in-Some.number in
    more names c.args.name.now found number c.min.result c.max.result ((c.in-Some.ensures number).0 refl)
    (subst (ArePartsOf names) c.in-Some-found.is are)
    (lesser found.least number c.min.result c.min.ensures) (greater found.greatest number c.max.result c.max.ensures)

pub returns-in-None : goal.returns-in-None
returns-in-None c names are =
    first names c.args.name.now c.in-Some.number ((c.in-Some.ensures c.in-Some.number).0 refl) (subst (ArePartsOf names) c.in-None.is are)
