use Rattle.std.proofs.Common.{inr}
use Rattle.sqlite.specs.Held.{state}
use Rattle.bac_reading.proofs.FoundLemmas.{as_found, sought_so}
use Rattle.bac_reading.proofs.last.Seeker.seek.Goals as goal

pub returns-clause-sought : goal.returns-clause-sought
returns-clause-sought g c =
    let old = state g.A.Store c.args.conn.now in
    let mid = state g.A.Store c.take.new.conn in
    let new = state g.A.Store c.seek_taken.new.conn in
    inr (sought_so old mid new (λ clean. (c.in_ok-take.ensures.archive (c.seek_taken.ensures.clean clean)).1.0.now_is) c.seek_taken.result c.args.self.now c.seek_taken.new.self c.seek_taken.ensures.sought)

pub returns-clause-left : goal.returns-clause-left
returns-clause-left g c clean held =
    let taken = c.in_ok-take.ensures.archive (c.seek_taken.ensures.clean clean) in
    as_found g.A.Store c.args.conn.now c.take.new.conn c.seek_taken.new.conn taken.1 taken.2 (c.seek_taken.ensures.left clean) held
