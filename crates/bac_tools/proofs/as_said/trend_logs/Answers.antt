use Rattle.std.proofs.Common.{arith, ◌<◌, length, get_or, inl}
use Rattle.std.proofs.lemmas.List.Elements.{Contains-get_or}
use Rattle.bac_tools.proofs.as_said.trend_logs.Goals as goal

pub returns-in-Err-clause-err : goal.returns-in-Err-clause-err
returns-in-Err-clause-err c =
    let less : c.loop-instance.instance-index < length c.args.instances.now = omega arith in
    inl (
      c.in-Err.ensures.err.0,
      (
        get_or c.args.instances.now c.loop-instance.instance-index 0,
        Contains-get_or c.args.instances.now c.loop-instance.instance-index 0 less,
        c.in-Err.ensures.err.1,
      ),
    )
