use Rattle.std.specs.Str.Lines.{lines}
use Rattle.std.proofs.Common.{None, subst, sym}
use Rattle.bac_script.specs.Reason.{IsUnfit, described}
use Rattle.bac_script.proofs.Unbuilt.{unfit}
use Rattle.bac_script.proofs.replay.fault.Refused.of_build.Goals as goal

pub returns-in-Some-clause-reason : goal.returns-in-Some-clause-reason
returns-in-Some-clause-reason c =
    let plan = described None (lines c.args.script.now) in (
      subst (IsUnfit plan c.args.fault) (sym c.unfit_line.ensures.misfit) (unfit plan c.args.fault c.in-Some.misfit c.in-Some.ensures c.requires),
      c.unfit_line.ensures.numbers,
    )
