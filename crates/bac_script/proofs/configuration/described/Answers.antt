use Rattle.std.proofs.Common.{arith}
use Rattle.std.proofs.lemmas.Result.{err_from_is_err_and}
use Rattle.bac_script.proofs.ConfigurationLemmas.{plan_of-cut, plan_of-line, Describes-fault}
use Rattle.std.specs.Str.Lines.{lines}
use Rattle.bac_script.specs.Configuration.{kept_plan}
use Rattle.bac_script.proofs.configuration.described.Goals as goal

pub returns-in_err-add_line : goal.returns-in_err-add_line
returns-in_err-add_line c =
    let p = err_from_is_err_and c.from_residual.result c.from_residual.ensures.1 in
    let cut = plan_of-cut _ _ _ c.loop-line.rest.now _ c.in-Some.more.now _ c.loop-line.invariant.0 c.in-Some.ensures.parts c.without_return.ensures in
    rw (p.1, p.2) (Describes-fault _ _ _ (kept_plan c.add_line.new.kept) _ (lines c.in-Some.more.now) cut c.in_err-add_line.field-0.0 c.in_err-add_line.ensures)

pub loop-line-preserved : goal.loop-line-preserved
loop-line-preserved c =
    let cut = plan_of-cut _ _ _ c.loop-line.rest.now _ c.in-Some.more.now _ c.loop-line.invariant.0 c.in-Some.ensures.parts c.without_return.ensures in (
      plan_of-line _ _ _ _ _ (lines c.in-Some.more.now) cut c.in_ok-add_line.ensures,
      omega (arith, c.loop-line.invariant.1, c.in-Some.ensures.shorter),
    )
