use Rattle.std.proofs.Common.{◌≡◌, [], ◌∷◌, ◌++◌, inl, inr, refl, length-append, rules, arith, ◌∙◌, subst, sym}
use Rattle.sqlite.specs.State.{HasCleanDisk, IsUnchanged}
use Rattle.sqlite.specs.Held.{state}
use Rattle.sqlite.proofs.Callers.{unchanged_then}
use Rattle.sqlite.specs.declared.error.Error.TheVariants.{SqliteFailure}
use Rattle.sqlite.specs.declared.error.ErrorCode.TheVariants.{OperationInterrupted}
use Rattle.bac_archive.specs.Items.{bound_for, range_text}
use Rattle.bac_archive.proofs.AskLemmas.{left_behind}
use Rattle.bac_archive.proofs.RowsLemmas.{because}
use Rattle.bac_check.specs.Rows.{is_new, items_of}
use Rattle.bac_check.specs.Tallies.{IsTallied}
use Rattle.bac_check.specs.Uncounts.{IsUncounted}
use Rattle.bac_check.specs.declared.tally.Uncounted.TheVariants.{Database}
use Rattle.bac_check.proofs.CourseLemmas.{all_given, ends_more, filter_one_more, first_given, row_fails}
use Rattle.bac_check.proofs.course.count_rows.Goals as goal

pub returns-in-Ok-None-clause-counted : goal.returns-in-Ok-None-clause-counted
returns-in-Ok-None-clause-counted g c clean has =
    let old = state g.A.Store c.args.conn.now in
    let moved = c.next.follows.holds-at-none in
    let now = c.next.follows.lender-at-none.conn.now in
    let range = items_of c.args.epoch in
    let late : HasCleanDisk (state g.A.Store now) = search rules in
    let was = c.rows.invariant.2 (omega (arith, late, moved.survives.clean)) has in
    let shown = (rw (c.in-Ok-None.is, c.in-Ok-None.field-0-is) at (moved.ok late)) (range_text range) (bound_for range) was.0 was.1 in
    (was.0, all_given g.A.Store range old c.rows.rows.conn.now now was.0 has was.2 shown, was.3)

pub rows-preserved : goal.rows-preserved
rows-preserved g c =
    let old = state g.A.Store c.args.conn.now in
    let mid = state g.A.Store c.rows.rows.conn.now in
    let moved = c.next.follows.holds-at-none in
    let now = c.next.follows.lender-at-none.conn.now in
    let range = items_of c.args.epoch in
    let row = c.in-Ok-Some.row.now in (
      moved.same_reference ∙ c.rows.invariant.0,
      λ late. c.rows.invariant.1 (omega (arith, late, moved.survives.clean)),
      λ late has.
          let was = c.rows.invariant.2 (omega (arith, late, moved.survives.clean)) has in
          let given = (rw (c.in-Ok-Some.is, c.in-Ok-Some.field-0-is) at (moved.ok late)) (range_text range) (bound_for range) was.0 was.1 in
          let step = (rw (c.in-Ok-Some.is) at (moved.same late)) in (
            was.0 ++ row ∷ [],
            given,
            unchanged_then old mid (state g.A.Store now) was.2 step,
            λ before it. subst (λ l. IsTallied l c.count_row.new.tally) (filter_one_more (is_new c.args.behind) was.0 row before) (c.in_ok-count_row.ensures.counted _ (was.3 before it)),
            ends_more c.args.tally.now c.rows.tally c.count_row.new.tally was.0 row was.4 c.in_ok-count_row.ensures.newest,
            omega (arith, length-append was.0 (row ∷ []), was.5),
          ),
    )

pub returns-in-Ok-None-clause-same : goal.returns-in-Ok-None-clause-same
returns-in-Ok-None-clause-same g c clean has =
    let old = state g.A.Store c.args.conn.now in
    let mid = state g.A.Store c.rows.rows.conn.now in
    let moved = c.next.follows.holds-at-none in
    let now = c.next.follows.lender-at-none.conn.now in
    let same : now ≡ c.conn-in-Ok-None-1.given.0 = search rules in
    let late : HasCleanDisk (state g.A.Store now) = subst (λ h. HasCleanDisk (state g.A.Store h)) (sym same) clean in
    let was = c.rows.invariant.2 (omega (arith, late, moved.survives.clean)) has in
    subst (λ h. IsUnchanged old (state g.A.Store h)) same (unchanged_then old mid (state g.A.Store now) was.2 (rw (c.in-Ok-None.is) at (moved.same late)))

-- the database gave up on the question
pub returns-in-Err-clause-uncounted : goal.returns-in-Err-clause-uncounted
returns-in-Err-clause-uncounted g c clean has from =
    let old = c.args.conn.now in
    let new = c.items_in.follows.lender-at-none in
    let held = rw c.in-Err.is at c.items_in.follows.holds-at-none in
    let range = items_of c.args.epoch in
    record {
      left = inr (held.left clean has);
      cause = inr (inl (_, old, inl refl, held.cause clean));
    }

-- or on a row
pub returns-in-Err-next-clause-uncounted : goal.returns-in-Err-next-clause-uncounted
returns-in-Err-next-clause-uncounted g c clean has from =
    let old = c.args.conn.now in
    let mid = c.rows.rows.conn.now in
    let moved = c.next.follows.holds-at-none in
    let now = c.next.follows.lender-at-none.conn.now in
    let range = items_of c.args.epoch in
    let same : now ≡ c.conn-in-Err-next-1.given.0 = search rules in
    let late : HasCleanDisk (state g.A.Store now) = subst (λ h. HasCleanDisk (state g.A.Store h)) (sym same) clean in
    let was = c.rows.invariant.2 (omega (arith, late, moved.survives.clean)) has in
    let failed = (rw (c.in-Err-next.is) at (moved.err late)) (range_text range) (bound_for range) was.0 was.1 in
    let it : IsUncounted g.A.Store old now (Database c.in-Err-next.error) = record {
      left = inr (left_behind (state g.A.Store old) (state g.A.Store mid) (state g.A.Store now) c.in-Err-next.error was.2 (rw c.in-Err-next.is at (moved.kept late)));
      cause = inr (inl (range, mid, inr was.2, failed));
    } in
    subst (λ h. IsUncounted g.A.Store old h (Database c.in-Err-next.error)) same it

-- or one isn't counted
pub returns-in_err-count_row-clause-uncounted : goal.returns-in_err-count_row-clause-uncounted
returns-in_err-count_row-clause-uncounted g c clean has from =
    let old = c.args.conn.now in
    let mid = state g.A.Store c.rows.rows.conn.now in
    let moved = c.next.follows.holds-at-none in
    let now = c.next.follows.lender-at-none.conn.now in
    let range = items_of c.args.epoch in
    let row = c.in-Ok-Some.row.now in
    let same : now ≡ c.conn-in_err-count_row-1.given.0 = search rules in
    let late : HasCleanDisk (state g.A.Store now) = subst (λ h. HasCleanDisk (state g.A.Store h)) (sym same) clean in
    let was = c.rows.invariant.2 (omega (arith, late, moved.survives.clean)) has in
    let given = (rw (c.in-Ok-Some.is, c.in-Ok-Some.field-0-is) at (moved.ok late)) (range_text range) (bound_for range) was.0 was.1 in
    let step = (rw (c.in-Ok-Some.is) at (moved.same late)) in
    let it = row_fails g.A.Store c.args.epoch old now was.0 row c.args.behind c.args.tally.now c.rows.tally has (unchanged_then (state g.A.Store old) mid (state g.A.Store now) was.2 step) given was.4 from
    c.in_err-count_row.field-0.0 c.in_err-count_row.ensures.uncounted in
    because c.from_residual.result c.in_err-count_row.field-0.0 (IsUncounted g.A.Store old c.conn-in_err-count_row-1.given.0) (search rules)
    (subst (λ h. IsUncounted g.A.Store old h c.in_err-count_row.field-0.0) same it)

-- or they are too many
pub returns-clause-uncounted : goal.returns-clause-uncounted
returns-clause-uncounted g c clean has from =
    let old = c.args.conn.now in
    let now = c.rows.rows.conn.now in
    let range = items_of c.args.epoch in
    let same : now ≡ c.conn-2-1.given.0 = search rules in
    let late : HasCleanDisk (state g.A.Store now) = subst (λ h. HasCleanDisk (state g.A.Store h)) (sym same) clean in
    let was = c.rows.invariant.2 late has in
    let it : IsUncounted g.A.Store old now (Database (SqliteFailure OperationInterrupted)) = record {
      left = inr (inl was.2);
      cause = inr (inr (inr (refl, range, was.0, first_given g.A.Store range (state g.A.Store old) now was.0 has was.2 was.1, omega (arith, was.5, c.rows-test.false))));
    } in
    subst (λ h. IsUncounted g.A.Store old h (Database (SqliteFailure OperationInterrupted))) same it
