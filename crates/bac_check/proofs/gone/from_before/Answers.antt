use Rattle.std.proofs.Common.{◌∙◌, ap, arith, fold, rules}
use Rattle.std.proofs.lemmas.List.{take_all}
use Rattle.bac_check.specs.Lines.{behind}
use Rattle.bac_check.proofs.EachLemmas.{fold_more}
use Rattle.bac_check.proofs.gone.from_before.Goals as goal

pub loop-course-preserved : goal.loop-course-preserved
loop-course-preserved c =
    c.behind-found.ensures ∙ ap (λ n. behind c.args.id n c.course-item.result) c.loop-course.invariant
    ∙ fold_more (behind c.args.id) 0 c.args.courses.now c.loop-course.course-index c.course-item.result (search rules) (search rules)

pub returns : goal.returns
returns c = c.loop-course.invariant ∙ ap (fold (behind c.args.id) 0) (take_all c.loop-course.course-index c.args.courses.now (omega (arith, c.loop-course-test.false)))
