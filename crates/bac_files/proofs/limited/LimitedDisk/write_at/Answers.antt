use Rattle.std.proofs.Common.{arith}
use Rattle.bac_files.proofs.limited.LimitedDisk.write_at.Goals as goal

pub returns-then-exceeds-clause-faults : goal.returns-then-exceeds-clause-faults
returns-then-exceeds-clause-faults g c =
    let rises = c.refuse.ensures.rises in
    let counted = c.refuse.ensures.counted in
    (omega arith, omega arith)

pub returns-clause-frozen : goal.returns-clause-frozen
returns-clause-frozen g c frozen =
    let (failed, still) = c.write_at.ensures.frozen frozen in (
      failed,
      record {
        frozen = still.frozen;
        same = still.same;
        clean = still.clean;
        no_more = still.no_more;
        no_fewer = still.no_fewer;
      },
    )
