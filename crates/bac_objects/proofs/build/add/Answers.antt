use Rattle.std.proofs.Common.{◌≡◌, ◌∙◌}
use Rattle.bac_objects.specs.Build.{id_of}
use Rattle.bac_objects.proofs.Builds.{added}
use Rattle.bac_objects.proofs.Kept.{added_kept}
use Rattle.bac_objects.proofs.build.add.Goals as goal

pub returns-in-Ok-insert-clause-ok : goal.returns-in-Ok-insert-clause-ok
returns-in-Ok-insert-clause-ok c =
    let line = c.args.line.now in
    let same : c.in-Some.id ≡ id_of line = rw (c.kind.ensures.value, c.instance.ensures) at c.in-Some.ensures.some.0 in
    c.in-Ok-insert.ensures.entries ∙ added c.args.objects.now.entries c.in-Some.id c.in-Ok.name c.in-Ok-body.body line same (c.in-Ok.ensures ∙ c.name.ensures) c.in-Ok-body.ensures.ok c.requires.fresh

pub returns-in-Ok-insert-clause-keeps : goal.returns-in-Ok-insert-clause-keeps
returns-in-Ok-insert-clause-keeps c =
    let line = c.args.line.now in
    let same : c.in-Some.id ≡ id_of line = rw (c.kind.ensures.value, c.instance.ensures) at c.in-Some.ensures.some.0 in
    added_kept c.args.objects.now.entries _ line c.in-Ok-body.body c.requires.kept (c.in-Ok-body.ensures.kept c.requires.within) c.in-Ok-body.ensures.ok
    (c.in-Ok-insert.ensures.entries ∙ added c.args.objects.now.entries c.in-Some.id c.in-Ok.name c.in-Ok-body.body line same (c.in-Ok.ensures ∙ c.name.ensures) c.in-Ok-body.ensures.ok c.requires.fresh)
