use Rattle.std.proofs.Common.{inl, inr, subst, rules}
use Rattle.sqlite.specs.Effect.{Database}
use Rattle.sqlite.specs.Held.{state}
use Rattle.sqlite.proofs.Callers.{unchanged_then}
use Rattle.bac_archive.specs.Ask.{IsAnswer}
use Rattle.bac_archive.specs.Known.{AreAnswersTo, FailsToKnow}
use Rattle.bac_archive.specs.declared.asking.Question.TheVariants.{Beginnings}
use Rattle.bac_archive.proofs.AskLemmas.{crash_then, has_still, left_then, on_ok}
use Rattle.bac_archive.proofs.KnownLemmas.{known_of_two}
use Rattle.bac_archive.proofs.RowsLemmas.{because, if_err}
use Rattle.bac_archive.proofs.known.read_known.Goals as goal

pub returns-clause-known : goal.returns-clause-known
returns-clause-known g c clean has =
    let old = state g.S.Store c.args.conn.now in
    let early = c.rows_of.ensures.clean clean in
    let same = c.in_ok-devices.ensures.same early has in
    let one = c.in_ok-devices.ensures.told early has in
    let two = subst (λ (d : Database). IsAnswer Beginnings d.trees c.in_ok-beginnings.beginnings.items) same.0.now_is (c.in_ok-beginnings.ensures.told clean (has_still old (state g.S.Store c.rows_of_two.new.conn) same has)) in
    let are : AreAnswersTo old.now.trees c.as_slice.result.now c.as_slice-2.result.now c.as_slice-3.result.now = rw (c.as_slice.ensures.value, c.as_slice-2.ensures.value, c.as_slice-3.ensures.value) (one.0, one.1, two) in
    c.known_of.ensures.known old.now.trees are

pub returns-clause-cause : goal.returns-clause-cause
returns-clause-cause g c clean has =
    let old = state g.S.Store c.args.conn.now in
    let early = c.rows_of.ensures.clean clean in
    let same = c.in_ok-devices.ensures.same early has in
    let one = c.in_ok-devices.ensures.told early has in
    let two = subst (λ (d : Database). IsAnswer Beginnings d.trees c.in_ok-beginnings.beginnings.items) same.0.now_is (c.in_ok-beginnings.ensures.told clean (has_still old (state g.S.Store c.rows_of_two.new.conn) same has)) in
    let are : AreAnswersTo old.now.trees c.as_slice.result.now c.as_slice-2.result.now c.as_slice-3.result.now = rw (c.as_slice.ensures.value, c.as_slice-2.ensures.value, c.as_slice-3.ensures.value) (one.0, one.1, two) in
    if_err c.known_of.result _ (FailsToKnow g.S.Store c.args.conn.now c.rows_of.new.conn) (c.known_of.ensures.cause old.now.trees are) (λ e unread. inr unread)

pub returns-clause-same : goal.returns-clause-same
returns-clause-same g c clean has =
    let same = c.in_ok-devices.ensures.same (c.rows_of.ensures.clean clean) has in
    let later = has_still (state g.S.Store c.args.conn.now) (state g.S.Store c.rows_of_two.new.conn) same has in
    on_ok c.known_of.result _ (unchanged_then (state g.S.Store c.args.conn.now) (state g.S.Store c.rows_of_two.new.conn) (state g.S.Store c.rows_of.new.conn) same (c.in_ok-beginnings.ensures.same clean later))

pub returns-clause-left : goal.returns-clause-left
returns-clause-left g c clean has =
    let same = c.in_ok-devices.ensures.same (c.rows_of.ensures.clean clean) has in
    let later = has_still (state g.S.Store c.args.conn.now) (state g.S.Store c.rows_of_two.new.conn) same has in
    left_then (state g.S.Store c.args.conn.now) (state g.S.Store c.rows_of_two.new.conn) (state g.S.Store c.rows_of.new.conn) same (c.rows_of.ensures.left clean later)

pub returns-clause-crash : goal.returns-clause-crash
returns-clause-crash g c has =
    crash_then (state g.S.Store c.args.conn.now) (state g.S.Store c.rows_of_two.new.conn) (state g.S.Store c.rows_of.new.conn) has c.in_ok-devices.ensures.same c.rows_of_two.ensures.crash c.rows_of.ensures.crash

pub returns-in_err-beginnings-clause-left : goal.returns-in_err-beginnings-clause-left
returns-in_err-beginnings-clause-left g c clean has =
    let same = c.in_ok-devices.ensures.same (c.rows_of.ensures.clean clean) has in
    let later = has_still (state g.S.Store c.args.conn.now) (state g.S.Store c.rows_of_two.new.conn) same has in
    left_then (state g.S.Store c.args.conn.now) (state g.S.Store c.rows_of_two.new.conn) (state g.S.Store c.rows_of.new.conn) same (c.rows_of.ensures.left clean later)

pub returns-in_err-beginnings-clause-crash : goal.returns-in_err-beginnings-clause-crash
returns-in_err-beginnings-clause-crash g c has =
    crash_then (state g.S.Store c.args.conn.now) (state g.S.Store c.rows_of_two.new.conn) (state g.S.Store c.rows_of.new.conn) has c.in_ok-devices.ensures.same c.rows_of_two.ensures.crash c.rows_of.ensures.crash

pub returns-in_err-devices-clause-cause : goal.returns-in_err-devices-clause-cause
returns-in_err-devices-clause-cause g c clean has =
    because c.from_residual.result c.in_err-devices.field-0.0 _ (search rules) (known_of_two g.S.Store c.args.conn.now c.rows_of_two.new.conn c.in_err-devices.field-0.0 (c.in_err-devices.ensures.cause clean has))

pub returns-in_err-beginnings-clause-cause : goal.returns-in_err-beginnings-clause-cause
returns-in_err-beginnings-clause-cause g c clean has =
    let same = c.in_ok-devices.ensures.same (c.rows_of.ensures.clean clean) has in
    because c.from_residual-in_err-beginnings.result c.in_err-beginnings.field-0.0 _ (search rules) (inl (Beginnings, tt, (c.rows_of_two.new.conn, inr same, c.in_err-beginnings.ensures.cause clean)))
