use Rattle.std.proofs.Common.{◌≡◌, ap, sym, ◌∙◌, [], Option, None}
use Rattle.std.specs.Option.{option_or}
use Rattle.bac_objects.specs.Build.{device_fault, objects_fault}
use Rattle.bac_objects.specs.declared.build.BuildFault.{BuildFault}
use Rattle.bac_objects.proofs.Builds.{faulty_told}
use Rattle.bac_objects.proofs.mending.misfit.Goals as goal

pub returns-clause-fault : goal.returns-clause-fault
returns-clause-fault c =
    let device = c.args.device.now in
    let lines = c.args.lines.now in
    let faulty = c.in_ok-faulty.faulty in
    let none : device_fault device ≡ None = sym c.fault.ensures ∙ c.in_default.is in
    sym (ap (λ (o : Option BuildFault). option_or o (objects_fault device [] lines)) none ∙ faulty_told device lines faulty.before.now faulty.line.now faulty.fault c.in_ok-faulty.ensures)
