use Rattle.std.proofs.Common.{subst₂}
use Rattle.sqlite.specs.Held.{state}
use Rattle.sqlite.specs.State.{ExecutesInside}
use Rattle.bac_archive.proofs.putting.put_one.Goals as goal

pub returns-clause-runs : goal.returns-clause-runs
returns-clause-runs g c clean mode =
    subst₂ (λ t p. ExecutesInside 0 t p (state g.S.Store c.args.tx.now.conn.now) (state g.S.Store c.execute.new.self.conn.now) c.execute.result)
    c.text_of.ensures c.bound_of-count.ensures.values (c.execute.ensures.runs clean mode)
