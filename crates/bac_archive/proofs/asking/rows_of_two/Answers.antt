use Rattle.std.proofs.Common.{inl, inr, refl, subst, rules}
use Rattle.sqlite.specs.Effect.{Database}
use Rattle.sqlite.specs.Held.{state}
use Rattle.sqlite.proofs.Callers.{unchanged_then}
use Rattle.bac_archive.specs.Ask.{IsAnswer}
use Rattle.bac_archive.proofs.AskLemmas.{crash_then, has_still, left_then}
use Rattle.bac_archive.proofs.RowsLemmas.{because}
use Rattle.bac_archive.proofs.asking.rows_of_two.Goals as goal

pub returns-clause-told : goal.returns-clause-told
returns-clause-told g c clean has =
    let early = c.rows_of-2.ensures.clean clean in
    let same = c.in_ok-first.ensures.same early has in
    let later = has_still (state g.S.Store c.args.conn.now) (state g.S.Store c.rows_of.new.conn) same has in
    (c.in_ok-first.ensures.told early has, subst (λ (d : Database). IsAnswer c.args.two d.trees c.in_ok-second.second.items) same.0.now_is (c.in_ok-second.ensures.told clean later))

pub returns-clause-same : goal.returns-clause-same
returns-clause-same g c clean has =
    let same = c.in_ok-first.ensures.same (c.rows_of-2.ensures.clean clean) has in
    let later = has_still (state g.S.Store c.args.conn.now) (state g.S.Store c.rows_of.new.conn) same has in
    unchanged_then (state g.S.Store c.args.conn.now) (state g.S.Store c.rows_of.new.conn) (state g.S.Store c.rows_of-2.new.conn) same (c.in_ok-second.ensures.same clean later)

pub returns-clause-left : goal.returns-clause-left
returns-clause-left g c clean has =
    let same = c.in_ok-first.ensures.same (c.rows_of-2.ensures.clean clean) has in
    let later = has_still (state g.S.Store c.args.conn.now) (state g.S.Store c.rows_of.new.conn) same has in
    left_then (state g.S.Store c.args.conn.now) (state g.S.Store c.rows_of.new.conn) (state g.S.Store c.rows_of-2.new.conn) same (c.rows_of-2.ensures.left clean later)

pub returns-clause-crash : goal.returns-clause-crash
returns-clause-crash g c has =
    crash_then (state g.S.Store c.args.conn.now) (state g.S.Store c.rows_of.new.conn) (state g.S.Store c.rows_of-2.new.conn) has c.in_ok-first.ensures.same c.rows_of.ensures.crash c.rows_of-2.ensures.crash

pub returns-in_err-second-clause-left : goal.returns-in_err-second-clause-left
returns-in_err-second-clause-left g c clean has =
    let same = c.in_ok-first.ensures.same (c.rows_of-2.ensures.clean clean) has in
    let later = has_still (state g.S.Store c.args.conn.now) (state g.S.Store c.rows_of.new.conn) same has in
    left_then (state g.S.Store c.args.conn.now) (state g.S.Store c.rows_of.new.conn) (state g.S.Store c.rows_of-2.new.conn) same (c.rows_of-2.ensures.left clean later)

pub returns-in_err-second-clause-crash : goal.returns-in_err-second-clause-crash
returns-in_err-second-clause-crash g c has =
    crash_then (state g.S.Store c.args.conn.now) (state g.S.Store c.rows_of.new.conn) (state g.S.Store c.rows_of-2.new.conn) has c.in_ok-first.ensures.same c.rows_of.ensures.crash c.rows_of-2.ensures.crash

pub returns-in_err-first-clause-cause : goal.returns-in_err-first-clause-cause
returns-in_err-first-clause-cause g c clean has =
    because c.from_residual.result c.in_err-first.field-0.0 _ (search rules) (inl (c.args.conn.now, inl refl, c.in_err-first.ensures.cause clean))

pub returns-in_err-second-clause-cause : goal.returns-in_err-second-clause-cause
returns-in_err-second-clause-cause g c clean has =
    let same = c.in_ok-first.ensures.same (c.rows_of-2.ensures.clean clean) has in
    because c.from_residual-in_err-second.result c.in_err-second.field-0.0 _ (search rules) (inr (c.rows_of.new.conn, inr same, c.in_err-second.ensures.cause clean))
