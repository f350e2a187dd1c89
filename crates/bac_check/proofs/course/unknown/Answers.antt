use Rattle.std.proofs.Common.{◌∙◌, ap, arith, filter}
use Rattle.std.proofs.lemmas.List.{take_all}
use Rattle.bac_check.specs.Counted.{is_unknown}
use Rattle.bac_check.proofs.course.unknown.Goals as goal

pub returns : goal.returns
returns c = c.loop-one.invariant ∙ ap (filter (is_unknown c.args.courses.now)) (take_all c.loop-one.one-index c.args.begun.now (omega (arith, c.loop-one-test.false)))
