use Rattle.std.proofs.Common.{false, map, subst, sym, arith, rules, get_or, inr}
use Rattle.std.specs.List.{AllZip}
use Rattle.std.proofs.lemmas.List.{take_all}
use Rattle.sqlite.specs.Effect.{Database as Db}
use Rattle.sqlite.specs.Held.{state}
use Rattle.bac_archive.proofs.RowsLemmas.{because}
use Rattle.bac_check.specs.Counted.{course_of}
use Rattle.bac_check.specs.Rows.{CountsCourse}
use Rattle.bac_check.specs.Uncounts.{IsUncounted}
use Rattle.bac_check.specs.declared.course.Beginning.{Beginning}
use Rattle.bac_check.specs.declared.tally.Uncounted.TheVariants.{Memory}
use Rattle.bac_check.proofs.AskedLemmas.{as_was_both, has_was, no_memory, still, uncounted_then}
use Rattle.bac_check.proofs.EachLemmas.{zip_at}
use Rattle.bac_check.proofs.course.count_new.Goals as goal

-- where there is none
abbrev none : Beginning
none = record { id = 0; number = 0; by_count = false }

pub loop-one-preserved : goal.loop-one-preserved
loop-one-preserved g c =
    let old = state g.A.Store c.args.conn.now in
    let it = c.in_ok-count_on.ensures in
    let was = c.loop-one.invariant in (
      λ late. was.0 (it.clean late),
      λ late has.
          let asked = was.1 (it.clean late) has in
          let same = still g.A.Store c.args.conn.now c.loop-one.conn asked.0 in
          let schema = has_was g.A.Store c.args.conn.now c.loop-one.conn asked.0 has in
          let one = subst (λ (d : Db). CountsCourse d.trees (course_of (get_or c.args.begun.now c.loop-one.one-index none)) c.in_ok-count_on.field-0) same (it.counted late schema) in (
            as_was_both g.A.Store c.args.conn.now c.loop-one.conn c.count_on.new.conn asked.0 (inr (it.same late schema)),
            subst (AllZip (CountsCourse old.now.trees) _) (sym c.in_ok-push.ensures.items)
                (zip_at (CountsCourse old.now.trees) course_of c.args.begun.now c.loop-one.one-index none c.loop-one.counted.items c.in_ok-count_on.field-0
                (search rules) asked.1 one),
          ),
    )

pub returns-in_err-count_on-clause-uncounted : goal.returns-in_err-count_on-clause-uncounted
returns-in_err-count_on-clause-uncounted g c clean has =
    let asked = c.loop-one.invariant.1 (c.count_on.ensures.clean clean) has in
    because c.from_residual.result c.in_err-count_on.field-0.0 (IsUncounted g.A.Store c.args.conn.now c.count_on.new.conn) (search rules)
    (uncounted_then g.A.Store c.args.conn.now c.loop-one.conn c.count_on.new.conn c.in_err-count_on.field-0.0 asked.0
    (c.in_err-count_on.ensures.uncounted clean (has_was g.A.Store c.args.conn.now c.loop-one.conn asked.0 has)))

pub returns-in_err-push-clause-uncounted : goal.returns-in_err-push-clause-uncounted
returns-in_err-push-clause-uncounted g c clean has =
    let asked = c.loop-one.invariant.1 (c.in_ok-count_on.ensures.clean clean) has in
    let schema = has_was g.A.Store c.args.conn.now c.loop-one.conn asked.0 has in
    because c.from_residual-in_err-push.result Memory (IsUncounted g.A.Store c.args.conn.now c.count_on.new.conn) (search rules)
    (no_memory g.A.Store c.args.conn.now c.count_on.new.conn (as_was_both g.A.Store c.args.conn.now c.loop-one.conn c.count_on.new.conn asked.0 (inr (c.in_ok-count_on.ensures.same clean schema))))

pub returns-clause-counted : goal.returns-clause-counted
returns-clause-counted g c clean has =
    let old = state g.A.Store c.args.conn.now in
    subst (λ l. AllZip (CountsCourse old.now.trees) (map (course_of) l) c.loop-one.counted.items)
    (take_all c.loop-one.one-index c.args.begun.now (omega (arith, c.loop-one-test.false))) (c.loop-one.invariant.1 clean has).1
