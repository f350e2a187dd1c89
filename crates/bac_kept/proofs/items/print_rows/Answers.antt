use Rattle.std.proofs.Common.{◌≡◌, ◌+◌, ℕ, [], ◌∷◌, ◌++◌, List, length, length-append, inl, inr, refl, ◌∙◌, arith, rules, subst}
use Rattle.std.proofs.KnownBytes.{Appends-nil, Appends-trans}
use Rattle.sqlite.specs.State.{FailsToQuery, HasCleanDisk, Survives}
use Rattle.sqlite.specs.Held.{state}
use Rattle.sqlite.proofs.Callers.{unchanged_then}
use Rattle.sqlite.proofs.StateLemmas.{survives_then}
use Rattle.sqlite.specs.declared.error.Error.TheVariants.{SqliteFailure}
use Rattle.sqlite.specs.declared.error.ErrorCode.TheVariants.{OperationInterrupted}
use Rattle.bac_archive.specs.Ask.{IsLeft}
use Rattle.bac_archive.specs.Items.{bound_for, range_text}
use Rattle.bac_archive.proofs.AskLemmas.{left_behind}
use Rattle.bac_archive.proofs.RowsLemmas.{because}
use Rattle.bac_print.proofs.Octets.{whole_part}
use Rattle.bac_kept.proofs.RowsLemmas.{all_given, begun_is, clean_before, ends_then, first_given, less_printed, many_items, on_err}
use Rattle.bac_kept.proofs.items.print_rows.Goals as goal

one_longer : {X : Type 0} (xs : List X) (x : X) (n : ℕ) → length xs ≡ n → length (xs ++ x ∷ []) ≡ n + 1
one_longer xs x n is = omega (arith, length-append xs (x ∷ []), is)

pub rows-init : goal.rows-init
rows-init g c = (
  refl,
  c.in-Ok.ensures.clean,
  λ clean has.
      let it = c.in-Ok.ensures.begun clean has in
      ([], it.0, it.1, [], begun_is c.args.style.now c.args.behind c.begun-progress.result c.begun-progress.ensures.0 c.begun-progress.ensures.1 c.begun-progress.ensures.2, Appends-nil (g.O.Write.contents c.args.output.now), refl),
  c.in-Ok.ensures.crash,
)

pub returns-in-Ok-None-clause-ok : goal.returns-in-Ok-None-clause-ok
returns-in-Ok-None-clause-ok g c clean has =
    let old = state g.A.Store c.args.conn.now in
    let mid = state g.A.Store c.rows.rows.conn.now in
    let moved = c.next.follows.holds-at-none in
    let now = c.next.follows.lender-at-none.conn.now in
    let late : HasCleanDisk (state g.A.Store now) = search rules in
    let was = c.rows.invariant.2 (clean_before mid (state g.A.Store now) moved.survives.clean late) has in
    let shown = (rw (c.in-Ok-None.is, c.in-Ok-None.field-0-is) at (moved.ok late)) (range_text c.args.range) (bound_for c.args.range) was.0 was.1 in
    (was.3, (was.0, all_given g.A.Store c.args.range old c.rows.rows.conn.now was.0 has was.2 now shown, was.4.printed, was.4.newest), was.5)

pub returns-in-Err-next-clause-err : goal.returns-in-Err-next-clause-err
returns-in-Err-next-clause-err g c clean has =
    let old = state g.A.Store c.args.conn.now in
    let mid = state g.A.Store c.rows.rows.conn.now in
    let moved = c.next.follows.holds-at-none in
    let now = c.next.follows.lender-at-none.conn.now in
    let late : HasCleanDisk (state g.A.Store now) = search rules in
    let was = c.rows.invariant.2 (clean_before mid (state g.A.Store now) moved.survives.clean late) has in
    (was.3, (was.0, inr (first_given g.A.Store c.args.range old c.rows.rows.conn.now was.0 has was.2 was.1), was.4.printed), whole_part (g.O.Write.contents c.args.output.now) (g.O.Write.contents c.rows.output) was.3 was.5)

pub returns-in_err-progress-clause-err : goal.returns-in_err-progress-clause-err
returns-in_err-progress-clause-err g c clean has =
    let old = state g.A.Store c.args.conn.now in
    let mid = state g.A.Store c.rows.rows.conn.now in
    let moved = c.next.follows.holds-at-none in
    let now = c.next.follows.lender-at-none.conn.now in
    let row = c.in-Ok-Some.row.now in
    let late : HasCleanDisk (state g.A.Store now) = search rules in
    let was = c.rows.invariant.2 (clean_before mid (state g.A.Store now) moved.survives.clean late) has in
    let given = (rw (c.in-Ok-Some.is, c.in-Ok-Some.field-0-is) at (moved.ok late)) (range_text c.args.range) (bound_for c.args.range) was.0 was.1 in
    let step = (rw (c.in-Ok-Some.is) at (moved.same late)) in
    let first = first_given g.A.Store c.args.range old now (was.0 ++ row ∷ []) has (unchanged_then old mid (state g.A.Store now) was.2 step) given in
    on_err c.from_residual.result _
    (less_printed c.args.style.now c.args.behind c.args.range (old.now.trees 5) was.0 row was.3 c.rows.progress (g.O.Write.contents c.args.output.now) (g.O.Write.contents c.rows.output) (g.O.Write.contents c.print_row.new.output) first was.4 was.5
    (c.in_err-progress.ensures.err was.0 was.3 was.4))

pub rows-preserved : goal.rows-preserved
rows-preserved g c =
    let old = state g.A.Store c.args.conn.now in
    let mid = state g.A.Store c.rows.rows.conn.now in
    let moved = c.next.follows.holds-at-none in
    let now = c.next.follows.lender-at-none.conn.now in
    let row = c.in-Ok-Some.row.now in (
      moved.same_reference ∙ c.rows.invariant.0,
      λ late. c.rows.invariant.1 (clean_before mid (state g.A.Store now) moved.survives.clean late),
      λ late has.
          let was = c.rows.invariant.2 (clean_before mid (state g.A.Store now) moved.survives.clean late) has in
          let given = (rw (c.in-Ok-Some.is, c.in-Ok-Some.field-0-is) at (moved.ok late)) (range_text c.args.range) (bound_for c.args.range) was.0 was.1 in
          let step = (rw (c.in-Ok-Some.is) at (moved.same late)) in
          let printed = c.in_ok-progress.ensures.ok was.0 was.3 was.4 in (
            was.0 ++ row ∷ [],
            given,
            unchanged_then old mid (state g.A.Store now) was.2 step,
            was.3 ++ printed.0,
            printed.2,
            Appends-trans (g.O.Write.contents c.args.output.now) (g.O.Write.contents c.rows.output) (g.O.Write.contents c.print_row.new.output) was.3 printed.0 was.5 printed.1,
            one_longer was.0 row c.rows.read was.6,
          ),
      λ has. survives_then old mid (state g.A.Store now) _ _ _ (λ _ db none. none) (λ _ db none. none) (c.rows.invariant.3 has) moved.survives,
    )

pub returns-clause-err : goal.returns-clause-err
returns-clause-err g c clean has =
    let old = state g.A.Store c.args.conn.now in
    let late : HasCleanDisk (state g.A.Store c.rows.rows.conn.now) = search rules in
    let was = c.rows.invariant.2 late has in
    (was.3, (was.0, inr (first_given g.A.Store c.args.range old c.rows.rows.conn.now was.0 has was.2 was.1), was.4.printed), whole_part (g.O.Write.contents c.args.output.now) (g.O.Write.contents c.rows.output) was.3 was.5)

pub returns-clause-fault : goal.returns-clause-fault
returns-clause-fault g c clean has =
    let old = state g.A.Store c.args.conn.now in
    let late : HasCleanDisk (state g.A.Store c.rows.rows.conn.now) = search rules in
    let was = c.rows.invariant.2 late has in
    let many = many_items c.args.range (old.now.trees 5) was.0 (first_given g.A.Store c.args.range old c.rows.rows.conn.now was.0 has was.2 was.1) in
    inr (SqliteFailure OperationInterrupted, refl, inr (inr (refl, omega (arith, many, was.6, c.rows-test.false))))

pub returns-in-Err-clause-fault : goal.returns-in-Err-clause-fault
returns-in-Err-clause-fault g c clean has =
    inr (c.in-Err.error, refl, inl (c.args.conn.now, inl refl, (rw c.in-Err.is at c.items_in.follows.holds-at-none).cause clean))

pub returns-in-Err-next-clause-fault : goal.returns-in-Err-next-clause-fault
returns-in-Err-next-clause-fault g c clean has =
    let old = state g.A.Store c.args.conn.now in
    let mid = state g.A.Store c.rows.rows.conn.now in
    let moved = c.next.follows.holds-at-none in
    let now = c.next.follows.lender-at-none.conn.now in
    let late : HasCleanDisk (state g.A.Store now) = search rules in
    let was = c.rows.invariant.2 (clean_before mid (state g.A.Store now) moved.survives.clean late) has in
    let failed = (rw (c.in-Err-next.is) at (moved.err late)) (range_text c.args.range) (bound_for c.args.range) was.0 was.1 in
    let same : now ≡ c.conn-in-Err-next-1.given.0 = search rules in
    inr (c.in-Err-next.error, refl, inl (c.rows.rows.conn.now, inr was.2, subst (λ h. FailsToQuery (range_text c.args.range) (bound_for c.args.range) (state g.A.Store c.rows.rows.conn.now) (state g.A.Store h) c.in-Err-next.error) same failed))

pub returns-in_err-progress-clause-fault : goal.returns-in_err-progress-clause-fault
returns-in_err-progress-clause-fault g c clean has =
    let old = state g.A.Store c.args.conn.now in
    let mid = state g.A.Store c.rows.rows.conn.now in
    let moved = c.next.follows.holds-at-none in
    let now = c.next.follows.lender-at-none.conn.now in
    let row = c.in-Ok-Some.row.now in
    let late : HasCleanDisk (state g.A.Store now) = search rules in
    let was = c.rows.invariant.2 (clean_before mid (state g.A.Store now) moved.survives.clean late) has in
    let given = (rw (c.in-Ok-Some.is, c.in-Ok-Some.field-0-is) at (moved.ok late)) (range_text c.args.range) (bound_for c.args.range) was.0 was.1 in
    let step = (rw (c.in-Ok-Some.is) at (moved.same late)) in
    let first = first_given g.A.Store c.args.range old now (was.0 ++ row ∷ []) has (unchanged_then old mid (state g.A.Store now) was.2 step) given in
    because c.from_residual.result c.in_err-progress.field-0.0 _ (search rules)
    (ends_then _ _ c.in_err-progress.field-0.0 (λ e why. inr (inl (was.0, row, first, why))) c.in_err-progress.ensures.fault)

pub returns-in_err-progress-clause-crash : goal.returns-in_err-progress-clause-crash
returns-in_err-progress-clause-crash g c has =
    let old = state g.A.Store c.args.conn.now in
    let mid = state g.A.Store c.rows.rows.conn.now in
    let moved = c.next.follows.holds-at-none in
    let now = c.next.follows.lender-at-none.conn.now in
    let same : now ≡ c.conn-in_err-progress-1.given.0 = search rules in
    subst (λ h. Survives old (state g.A.Store h) (λ _. ⊥)) same (survives_then old mid (state g.A.Store now) _ _ _ (λ _ db none. none) (λ _ db none. none) (c.rows.invariant.3 has) moved.survives)

pub returns-in-Ok-None-clause-left : goal.returns-in-Ok-None-clause-left
returns-in-Ok-None-clause-left g c clean has =
    let old = state g.A.Store c.args.conn.now in
    let mid = state g.A.Store c.rows.rows.conn.now in
    let moved = c.next.follows.holds-at-none in
    let now = c.next.follows.lender-at-none.conn.now in
    let late : HasCleanDisk (state g.A.Store now) = search rules in
    let was = c.rows.invariant.2 (clean_before mid (state g.A.Store now) moved.survives.clean late) has in
    let same : now ≡ c.conn-in-Ok-None-1.given.0 = search rules in
    subst (λ h. IsLeft old (state g.A.Store h)) same (inl (unchanged_then old mid (state g.A.Store now) was.2 (rw (c.in-Ok-None.is) at (moved.same late))))

pub returns-in-Err-next-clause-left : goal.returns-in-Err-next-clause-left
returns-in-Err-next-clause-left g c clean has =
    let old = state g.A.Store c.args.conn.now in
    let mid = state g.A.Store c.rows.rows.conn.now in
    let moved = c.next.follows.holds-at-none in
    let now = c.next.follows.lender-at-none.conn.now in
    let late : HasCleanDisk (state g.A.Store now) = search rules in
    let was = c.rows.invariant.2 (clean_before mid (state g.A.Store now) moved.survives.clean late) has in
    let same : now ≡ c.conn-in-Err-next-1.given.0 = search rules in
    subst (λ h. IsLeft old (state g.A.Store h)) same (left_behind old mid (state g.A.Store now) _ was.2 (rw (c.in-Err-next.is) at (moved.kept late)))

pub returns-in_err-progress-clause-left : goal.returns-in_err-progress-clause-left
returns-in_err-progress-clause-left g c clean has =
    let old = state g.A.Store c.args.conn.now in
    let mid = state g.A.Store c.rows.rows.conn.now in
    let moved = c.next.follows.holds-at-none in
    let now = c.next.follows.lender-at-none.conn.now in
    let late : HasCleanDisk (state g.A.Store now) = search rules in
    let was = c.rows.invariant.2 (clean_before mid (state g.A.Store now) moved.survives.clean late) has in
    let same : now ≡ c.conn-in_err-progress-1.given.0 = search rules in
    subst (λ h. IsLeft old (state g.A.Store h)) same (inl (unchanged_then old mid (state g.A.Store now) was.2 (rw (c.in-Ok-Some.is) at (moved.same late))))

pub returns-clause-left : goal.returns-clause-left
returns-clause-left g c clean has =
    let old = state g.A.Store c.args.conn.now in
    let late : HasCleanDisk (state g.A.Store c.rows.rows.conn.now) = search rules in
    let same : c.rows.rows.conn.now ≡ c.conn-2-1.given.0 = search rules in
    subst (λ h. IsLeft old (state g.A.Store h)) same (inl (c.rows.invariant.2 late has).2)
