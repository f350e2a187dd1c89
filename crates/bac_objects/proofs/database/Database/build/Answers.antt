use Rattle.std.proofs.Common.{Option, subst}
use Rattle.bac_objects.specs.Build.{Finds, build_fault}
use Rattle.bac_objects.specs.declared.build.BuildFault.{BuildFault}
use Rattle.bac_objects.proofs.database.Database.build.Goals as goal

pub returns-in-Some-clause-built : goal.returns-in-Some-clause-built
returns-in-Some-clause-built c =
    let P : Option BuildFault → Type 0 = λ o. Finds o (build_fault c.args.device.now c.args.lines.now) in subst P c.in-Some.is c.build_fault.ensures
