use Rattle.std.proofs.Common.{map, subst, sym, arith, rules, inr}
use Rattle.std.specs.List.{AllZip}
use Rattle.std.proofs.lemmas.List.{take_all}
use Rattle.sqlite.specs.Effect.{Database as Db}
use Rattle.sqlite.specs.Held.{state}
use Rattle.bac_archive.proofs.RowsLemmas.{because}
use Rattle.bac_check.specs.Counted.{updated_by}
use Rattle.bac_check.specs.Rows.{CountsCourse}
use Rattle.bac_check.specs.Uncounts.{IsUncounted}
use Rattle.bac_check.specs.declared.course.Beginning.{Beginning}
use Rattle.bac_check.specs.declared.tally.Uncounted.TheVariants.{Memory}
use Rattle.bac_check.proofs.AskedLemmas.{as_was_both, has_was, no_memory, still, uncounted_then}
use Rattle.bac_check.proofs.EachLemmas.{zip_more}
use Rattle.bac_check.proofs.course.count_known.Goals as goal

pub loop-course-preserved : goal.loop-course-preserved
loop-course-preserved g c =
    let old = state g.A.Store c.args.conn.now in
    let it = c.in_ok-now.ensures in
    let was = c.loop-course.invariant in (
      λ late. was.0 (it.clean late),
      λ late has.
          let asked = was.1 (it.clean late) has in
          let same = still g.A.Store c.args.conn.now c.loop-course.conn asked.0 in
          let schema = has_was g.A.Store c.args.conn.now c.loop-course.conn asked.0 has in
          let one = subst (λ (d : Db). CountsCourse d.trees (record { begun = c.updated.result; tally = c.course-item.result.tally }) c.in_ok-now.now) same (it.counted late schema) in
          let counted = subst (λ (b : Beginning). CountsCourse old.now.trees (record { begun = b; tally = c.course-item.result.tally }) c.in_ok-now.now) c.updated.ensures one in (
            as_was_both g.A.Store c.args.conn.now c.loop-course.conn c.count_on.new.conn asked.0 (inr (it.same late schema)),
            subst (AllZip (CountsCourse old.now.trees) _) (sym c.in_ok-push.ensures.items)
                (zip_more (CountsCourse old.now.trees) (updated_by c.args.begun.now) c.args.courses.now c.loop-course.course-index c.course-item.result c.loop-course.counted.items c.in_ok-now.now
                (search rules) (search rules) asked.1 counted),
          ),
    )

pub returns-in_err-now-clause-uncounted : goal.returns-in_err-now-clause-uncounted
returns-in_err-now-clause-uncounted g c clean has =
    let asked = c.loop-course.invariant.1 (c.count_on.ensures.clean clean) has in
    because c.from_residual.result c.in_err-now.field-0.0 (IsUncounted g.A.Store c.args.conn.now c.count_on.new.conn) (search rules)
    (uncounted_then g.A.Store c.args.conn.now c.loop-course.conn c.count_on.new.conn c.in_err-now.field-0.0 asked.0
    (c.in_err-now.ensures.uncounted clean (has_was g.A.Store c.args.conn.now c.loop-course.conn asked.0 has)))

pub returns-in_err-push-clause-uncounted : goal.returns-in_err-push-clause-uncounted
returns-in_err-push-clause-uncounted g c clean has =
    let asked = c.loop-course.invariant.1 (c.in_ok-now.ensures.clean clean) has in
    let schema = has_was g.A.Store c.args.conn.now c.loop-course.conn asked.0 has in
    because c.from_residual-in_err-push.result Memory (IsUncounted g.A.Store c.args.conn.now c.count_on.new.conn) (search rules)
    (no_memory g.A.Store c.args.conn.now c.count_on.new.conn (as_was_both g.A.Store c.args.conn.now c.loop-course.conn c.count_on.new.conn asked.0 (inr (c.in_ok-now.ensures.same clean schema))))

pub returns-clause-counted : goal.returns-clause-counted
returns-clause-counted g c clean has =
    let old = state g.A.Store c.args.conn.now in
    subst (λ l. AllZip (CountsCourse old.now.trees) (map (updated_by c.args.begun.now) l) c.loop-course.counted.items)
    (take_all c.loop-course.course-index c.args.courses.now (omega (arith, c.loop-course-test.false))) (c.loop-course.invariant.1 clean has).1
