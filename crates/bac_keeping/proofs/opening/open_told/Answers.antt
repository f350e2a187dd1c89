use Rattle.sqlite.specs.Held.{state}
use Rattle.sqlite.specs.State.{HasCleanDisk}
use Rattle.sqlite.proofs.StateLemmas.{survives_then}
use Rattle.bac_keeping.proofs.Settled.{settled_left}
use Rattle.bac_keeping.proofs.Opened.{left_is}
use Rattle.bac_keeping.proofs.opening.open_told.Goals as goal

pub returns-in-Err-stands-clause-halts : goal.returns-in-Err-stands-clause-halts
returns-in-Err-stands-clause-halts g c clean =
    let mid : HasCleanDisk (state g.S.Store c.open_at.new.conn) = c.stands.ensures.clean clean in (
      c.open_at.new.conn,
      c.in_default.ensures.opened mid,
      c.in-Err-stands.ensures.cause clean,
      left_is (state g.S.Store c.open_at.new.conn) (state g.S.Store c.stands.new.conn) (c.in_default.ensures.committed mid) (c.in-Err-stands.ensures.left clean),
    )

pub returns-in-Err-stands-clause-crash : goal.returns-in-Err-stands-clause-crash
returns-in-Err-stands-clause-crash g c =
    survives_then (state g.S.Store c.args.conn.now) (state g.S.Store c.open_at.new.conn) (state g.S.Store c.stands.new.conn) _ _ _ (λ clean db it. it) (λ clean db none. absurd none)
    c.open_at.ensures.crash c.stands.ensures.crash

pub returns-in-Err-stands-clause-settled : goal.returns-in-Err-stands-clause-settled
returns-in-Err-stands-clause-settled g c clean was is_open =
    let mid : HasCleanDisk (state g.S.Store c.open_at.new.conn) = c.stands.ensures.clean clean in
    settled_left (state g.S.Store c.open_at.new.conn) (state g.S.Store c.stands.new.conn) (c.in_default.ensures.committed mid) (c.in-Err-stands.ensures.left clean) is_open
