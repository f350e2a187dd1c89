use Rattle.std.proofs.Common.{◌≡◌, false, rules, subst, All}
use Rattle.std.proofs.lemmas.List.{take_all}
use Rattle.std.proofs.lemmas.List.Elements.{All-more}
use Rattle.sqlite_schema.specs.declared.schema.View.{View}
use Rattle.bac_archive.proofs.shape.have_no_trigger.Goals as goal

pub loop-view-preserved : goal.loop-view-preserved
loop-view-preserved c =
    All-more (λ (view : View). view.binds ≡ false) c.args.views.now c.loop-view.view-index c.view-item.result (search rules) c.loop-view.invariant
    (subst (λ (view : View). view.binds ≡ false) c.view-item.is (search rules))

pub returns : goal.returns
returns c = (
  λ _. subst (All (λ (view : View). view.binds ≡ false)) (take_all c.loop-view.view-index c.args.views.now c.loop-view-test.false) c.loop-view.invariant,
  λ _. search rules,
)
