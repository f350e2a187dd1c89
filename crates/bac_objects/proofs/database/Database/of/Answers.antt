use Rattle.bac_objects.proofs.Kept.{line_sound}
use Rattle.bac_objects.proofs.database.Database.of.Goals as goal

pub invariant_of-result : goal.invariant_of-result
invariant_of-result c = rw c.ticks.ensures.value (line_sound c.args.line.now c.in_ok-copy.field-0 c.args.objects.entries c.requires.line c.ticks.ensures.exists c.requires.objects)

pub returns-clause-sound : goal.returns-clause-sound
returns-clause-sound c = (line_sound c.args.line.now c.in_ok-copy.field-0 c.args.objects.entries c.requires.line c.ticks.ensures.exists c.requires.objects).0
