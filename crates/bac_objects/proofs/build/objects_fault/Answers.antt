use Rattle.std.proofs.Common.{Some, sym}
use Rattle.bac_objects.proofs.Builds.{faulty_told, told}
use Rattle.bac_objects.proofs.build.objects_fault.Goals as goal

pub returns-in-Some-Some : goal.returns-in-Some-Some
returns-in-Some-Some c =
    let faulty = c.in-Some-Some.faulty in
    told c.args.device.now c.args.lines.now (Some faulty.fault) (sym (faulty_told c.args.device.now c.args.lines.now faulty.before.now faulty.line.now faulty.fault (rw c.in-Some-Some.field-0-is at c.in-Some-Some.ensures)))

pub returns-in-Some : goal.returns-in-Some
returns-in-Some c =
    let faulty = c.in-Some.faulty in
    told c.args.device.now c.args.lines.now (Some faulty.fault) (sym (faulty_told c.args.device.now c.args.lines.now faulty.before.now faulty.line.now faulty.fault c.in-Some.ensures))
