use Rattle.std.proofs.Common.{◌≡◌, sym, subst, take, None}
use Rattle.std.specs.Map.{lookup}
use Rattle.bac_objects.specs.Build.{id_of}
use Rattle.bac_objects.specs.State.{is_id}
use Rattle.bac_objects.proofs.Builds.{line_sound, fresh}
use Rattle.bac_objects.proofs.build.objects_of.Goals as goal

pub add-requires-clause-within : goal.add-requires-clause-within
add-requires-clause-within c = (line_sound c.args.device.now c.args.lines.now c.loop-line.line-index c.line-item.result c.requires c.loop-line-test.true c.line-item.is).within

pub add-requires-clause-fresh : goal.add-requires-clause-fresh
add-requires-clause-fresh c =
    let sound = line_sound c.args.device.now c.args.lines.now c.loop-line.line-index c.line-item.result c.requires c.loop-line-test.true c.line-item.is in
    subst (λ es. lookup (is_id (id_of c.line-item.result)) es ≡ None) (sym c.loop-line.invariant.made) (fresh (id_of c.line-item.result) (take c.loop-line.line-index c.args.lines.now) sound.other)
