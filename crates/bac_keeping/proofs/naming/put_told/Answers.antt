use Rattle.sqlite.specs.Held.{state}
use Rattle.sqlite.specs.State.{HasCleanDisk}
use Rattle.std.proofs.Common.{sym, ◌∙◌}
use Rattle.bac_keeping.proofs.Settled.{settled_left, settled_same}
use Rattle.bac_keeping.proofs.Opened.{left_is}
use Rattle.bac_keeping.proofs.naming.put_told.Goals as goal

pub returns-in-Err-clause-halts : goal.returns-in-Err-clause-halts
returns-in-Err-clause-halts g c clean =
    let early : HasCleanDisk (state g.S.Store c.args.conn.now) = c.put.ensures.clean clean in
    (c.in-Err.ensures.cause clean (c.requires early), λ is_open. (c.in-Err.ensures.neither clean is_open (c.requires early)).0)

pub returns-in-Err-stands-clause-halts : goal.returns-in-Err-stands-clause-halts
returns-in-Err-stands-clause-halts g c clean =
    let mid : HasCleanDisk (state g.S.Store c.put.new.conn) = c.stands.ensures.clean clean in
    let early : HasCleanDisk (state g.S.Store c.args.conn.now) = c.put.ensures.clean mid in
    let done = c.in_default.ensures.all mid (c.requires early) in (
      c.put.new.conn,
      done.0,
      c.in-Err-stands.ensures.cause clean,
      left_is (state g.S.Store c.put.new.conn) (state g.S.Store c.stands.new.conn) done.1 (c.in-Err-stands.ensures.left clean),
    )

pub returns-in-Err-clause-settled : goal.returns-in-Err-clause-settled
returns-in-Err-clause-settled g c clean was is_open =
    let early : HasCleanDisk (state g.S.Store c.args.conn.now) = c.put.ensures.clean clean in
    let same = c.in-Err.ensures.neither clean is_open (c.requires early) in
    same.1 ∙ was ∙ sym same.0

pub returns-in-Ok-clause-settled : goal.returns-in-Ok-clause-settled
returns-in-Ok-clause-settled g c clean was =
    let mid : HasCleanDisk (state g.S.Store c.put.new.conn) = c.stands.ensures.clean clean in
    let early : HasCleanDisk (state g.S.Store c.args.conn.now) = c.put.ensures.clean mid in
    let done = c.in_default.ensures.all mid (c.requires early) in
    settled_same (state g.S.Store c.put.new.conn) (state g.S.Store c.stands.new.conn) done.1 (c.in-Ok.ensures.same clean)

pub returns-in-Err-stands-clause-settled : goal.returns-in-Err-stands-clause-settled
returns-in-Err-stands-clause-settled g c clean was is_open =
    let mid : HasCleanDisk (state g.S.Store c.put.new.conn) = c.stands.ensures.clean clean in
    let early : HasCleanDisk (state g.S.Store c.args.conn.now) = c.put.ensures.clean mid in
    let done = c.in_default.ensures.all mid (c.requires early) in
    settled_left (state g.S.Store c.put.new.conn) (state g.S.Store c.stands.new.conn) done.1 (c.in-Err-stands.ensures.left clean) is_open
