use Rattle.std.proofs.Common.{◌≡◌, ◌+◌, ℕ, [], ◌∷◌, ◌++◌, List, length, length-append, inl, inr, refl, ◌∙◌, arith, rules, subst}
use Rattle.sqlite.specs.State.{FailsToQuery, HasCleanDisk}
use Rattle.sqlite.specs.Held.{state}
use Rattle.sqlite.proofs.Callers.{unchanged_then}
use Rattle.sqlite.proofs.StateLemmas.{survives_then}
use Rattle.sqlite.specs.declared.error.Error.TheVariants.{SqliteFailure}
use Rattle.sqlite.specs.declared.error.ErrorCode.TheVariants.{OperationInterrupted}
use Rattle.bac_archive.specs.Items.{bound_for, range_text}
use Rattle.bac_archive.proofs.RowsLemmas.{because}
use Rattle.bac_kept.proofs.LastLemmas.{fails_then, gaps_more}
use Rattle.bac_kept.proofs.RowsLemmas.{all_given, clean_before, first_given, many_items}
use Rattle.bac_kept.proofs.record.first_record.Goals as goal

one_longer : {X : Type 0} (xs : List X) (x : X) (n : ℕ) → length xs ≡ n → length (xs ++ x ∷ []) ≡ n + 1
one_longer xs x n is = omega (arith, length-append xs (x ∷ []), is)

pub returns-in-Err-clause-fault : goal.returns-in-Err-clause-fault
returns-in-Err-clause-fault g c clean has =
    inr (c.in-Err.error, refl, inl (c.args.conn.now, inl refl, (rw c.in-Err.is at c.items_in.follows.holds-at-none).cause clean))

pub returns-in-Ok-None-clause-found : goal.returns-in-Ok-None-clause-found
returns-in-Ok-None-clause-found g c clean has =
    let old = state g.A.Store c.args.conn.now in
    let mid = state g.A.Store c.rows.rows.conn.now in
    let moved = c.next.follows.holds-at-none in
    let now = c.next.follows.lender-at-none.conn.now in
    let late : HasCleanDisk (state g.A.Store now) = search rules in
    let was = c.rows.invariant.2 (clean_before mid (state g.A.Store now) moved.survives.clean late) has in
    let shown = (rw (c.in-Ok-None.is, c.in-Ok-None.field-0-is) at (moved.ok late)) (range_text c.args.range) (bound_for c.args.range) was.0 was.1 in
    (was.0, was.3, all_given g.A.Store c.args.range old c.rows.rows.conn.now was.0 has was.2 now shown)

pub returns-in-Some-clause-found : goal.returns-in-Some-clause-found
returns-in-Some-clause-found g c clean has =
    let old = state g.A.Store c.args.conn.now in
    let mid = state g.A.Store c.rows.rows.conn.now in
    let moved = c.next.follows.holds-at-none in
    let now = c.next.follows.lender-at-none.conn.now in
    let row = c.in-Ok-Some.row.now in
    let late : HasCleanDisk (state g.A.Store now) = search rules in
    let was = c.rows.invariant.2 (clean_before mid (state g.A.Store now) moved.survives.clean late) has in
    let given = (rw (c.in-Ok-Some.is, c.in-Ok-Some.field-0-is) at (moved.ok late)) (range_text c.args.range) (bound_for c.args.range) was.0 was.1 in
    let step = (rw (c.in-Ok-Some.is) at (moved.same late)) in
    let first = first_given g.A.Store c.args.range old now (was.0 ++ row ∷ []) has (unchanged_then old mid (state g.A.Store now) was.2 step) given in
    (was.0, was.3, row, first, rw c.in-Some.is at c.in_ok-record.ensures.read)

pub rows-preserved : goal.rows-preserved
rows-preserved g c =
    let old = state g.A.Store c.args.conn.now in
    let mid = state g.A.Store c.rows.rows.conn.now in
    let moved = c.next.follows.holds-at-none in
    let now = c.next.follows.lender-at-none.conn.now in
    let row = c.in-Ok-Some.row.now in (
      moved.same_reference ∙ c.rows.invariant.0,
      λ late. c.rows.invariant.1 (clean_before mid (state g.A.Store now) moved.survives.clean late),
      λ late has.
          let was = c.rows.invariant.2 (clean_before mid (state g.A.Store now) moved.survives.clean late) has in
          let given = (rw (c.in-Ok-Some.is, c.in-Ok-Some.field-0-is) at (moved.ok late)) (range_text c.args.range) (bound_for c.args.range) was.0 was.1 in
          let step = (rw (c.in-Ok-Some.is) at (moved.same late)) in (
            was.0 ++ row ∷ [],
            given,
            unchanged_then old mid (state g.A.Store now) was.2 step,
            gaps_more was.0 row was.3 (rw c.in-None.is at c.in_ok-record.ensures.read),
            one_longer was.0 row c.rows.read was.4,
          ),
      λ has. survives_then old mid (state g.A.Store now) _ _ _ (λ _ db none. none) (λ _ db none. none) (c.rows.invariant.3 has) moved.survives,
    )

pub returns-clause-fault : goal.returns-clause-fault
returns-clause-fault g c clean has =
    let old = state g.A.Store c.args.conn.now in
    let late : HasCleanDisk (state g.A.Store c.rows.rows.conn.now) = search rules in
    let was = c.rows.invariant.2 late has in
    let many = many_items c.args.range (old.now.trees 5) was.0 (first_given g.A.Store c.args.range old c.rows.rows.conn.now was.0 has was.2 was.1) in
    inr (SqliteFailure OperationInterrupted, refl, inr (inr (refl, omega (arith, many, was.4, c.rows-test.false))))

pub returns-in-Err-next-clause-fault : goal.returns-in-Err-next-clause-fault
returns-in-Err-next-clause-fault g c clean has =
    let old = state g.A.Store c.args.conn.now in
    let mid = state g.A.Store c.rows.rows.conn.now in
    let moved = c.next.follows.holds-at-none in
    let now = c.next.follows.lender-at-none.conn.now in
    let late : HasCleanDisk (state g.A.Store now) = search rules in
    let was = c.rows.invariant.2 (clean_before mid (state g.A.Store now) moved.survives.clean late) has in
    let failed = (rw (c.in-Err-next.is) at (moved.err late)) (range_text c.args.range) (bound_for c.args.range) was.0 was.1 in
    let same : now ≡ c.conn-in-Err-next-1.given.0 = search rules in
    inr (c.in-Err-next.error, refl, inl (c.rows.rows.conn.now, inr was.2, subst (λ h. FailsToQuery (range_text c.args.range) (bound_for c.args.range) (state g.A.Store c.rows.rows.conn.now) (state g.A.Store h) c.in-Err-next.error) same failed))

pub returns-in_err-record-clause-fault : goal.returns-in_err-record-clause-fault
returns-in_err-record-clause-fault g c clean has =
    let old = state g.A.Store c.args.conn.now in
    let mid = state g.A.Store c.rows.rows.conn.now in
    let moved = c.next.follows.holds-at-none in
    let now = c.next.follows.lender-at-none.conn.now in
    let row = c.in-Ok-Some.row.now in
    let late : HasCleanDisk (state g.A.Store now) = search rules in
    let was = c.rows.invariant.2 (clean_before mid (state g.A.Store now) moved.survives.clean late) has in
    let given = (rw (c.in-Ok-Some.is, c.in-Ok-Some.field-0-is) at (moved.ok late)) (range_text c.args.range) (bound_for c.args.range) was.0 was.1 in
    let step = (rw (c.in-Ok-Some.is) at (moved.same late)) in
    let first = first_given g.A.Store c.args.range old now (was.0 ++ row ∷ []) has (unchanged_then old mid (state g.A.Store now) was.2 step) given in
    because c.from_residual.result c.in_err-record.field-0.0 _ (search rules)
    (fails_then _ _ c.in_err-record.field-0.0 (λ e why. inr (inl (was.0, row, first, why))) c.in_err-record.ensures.fault)
