use Rattle.std.proofs.Common.{◌∙◌, ◌++◌, List, ap, arith, flat_map}
use Rattle.std.specs.List.{list_all}
use Rattle.std.proofs.lemmas.List.{take_all}
use Rattle.bac_check.specs.declared.course.Course.{Course}
use Rattle.bac_check.specs.Lines.{is_whole, text_in}
use Rattle.bac_check.proofs.EachLemmas.{all_more, text_more}
use Rattle.bac_check.proofs.lines.push_log.Goals as goal

pub loop-course-preserved : goal.loop-course-preserved
loop-course-preserved c =
    let courses = c.args.courses.now in
    let at = c.loop-course.course-index in
    let course = c.course-item.result in (
      text_more (text_in c.args.name.now c.args.log courses) courses at course c.args.text.now.items c.loop-course.text.items c.push_in.new.text.items
          c.loop-course-test.true c.course-item.is c.loop-course.invariant.0 c.in_ok-so.ensures.text,
      all_more (is_whole c.args.log courses) courses at course c.loop-course.whole c.in_ok-so.so c.loop-course-test.true c.course-item.is
          c.loop-course.invariant.1 c.in_ok-so.ensures.whole,
    )

pub returns-clause-text : goal.returns-clause-text
returns-clause-text c =
    let each = text_in c.args.name.now c.args.log c.args.courses.now in
    c.loop-course.invariant.0
    ∙ ap (λ (l : List Course). c.args.text.now.items ++ flat_map each l) (take_all c.loop-course.course-index c.args.courses.now (omega (arith, c.loop-course-test.false)))

pub returns-clause-whole : goal.returns-clause-whole
returns-clause-whole c =
    c.loop-course.invariant.1
    ∙ ap (list_all (is_whole c.args.log c.args.courses.now)) (take_all c.loop-course.course-index c.args.courses.now (omega (arith, c.loop-course-test.false)))
