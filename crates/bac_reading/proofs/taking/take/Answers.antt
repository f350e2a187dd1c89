use Rattle.std.proofs.Common.{refl}
use Rattle.bac_reading.proofs.TakingLemmas.{untaken}
use Rattle.bac_reading.proofs.taking.take.Goals as goal

pub returns-in-Err-clause-refused : goal.returns-in-Err-clause-refused
returns-in-Err-clause-refused g c =
    (c.in-Err.why, refl, untaken g.A.Store c.args.conn.now c.take_archive.new.conn c.in-Err.why c.in-Err.ensures.refused)
