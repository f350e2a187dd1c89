use Rattle.std.proofs.Common.{◌≡◌, List, true, false, subst, sym, arith, rules}
use Rattle.std.specs.List.{All}
use Rattle.std.proofs.lemmas.List.{take_all}
use Rattle.std.proofs.lemmas.List.Elements.{All-push}
use Rattle.sqlite.specs.Effect.{Database as Db}
use Rattle.sqlite.specs.Held.{state}
use Rattle.bac_archive.proofs.RowsLemmas.{because}
use Rattle.bac_check.specs.Joins.{IsJoined}
use Rattle.bac_check.specs.Uncounts.{IsUncounted}
use Rattle.bac_check.specs.declared.course.Course.{Course}
use Rattle.bac_check.proofs.AskedLemmas.{as_was_both, has_was, still, uncounted_then}
use Rattle.bac_check.proofs.EachLemmas.{take_one}
use Rattle.bac_check.proofs.joins.are_joined.Goals as goal

pub loop-course-preserved : goal.loop-course-preserved
loop-course-preserved g c =
    let old = state g.A.Store c.args.conn.now in
    let course = c.course-item.result in
    let yes : c.in_ok-is_joined.field-0 ≡ true = search rules in
    let taken = take_one c.args.courses.now c.loop-course.course-index course (search rules) (search rules) in (
      λ late. c.loop-course.invariant.0 (c.is_joined.ensures.clean late),
      λ late has.
          let was = c.loop-course.invariant.1 (c.is_joined.ensures.clean late) has in
          let same = still g.A.Store c.args.conn.now c.loop-course.conn was.0 in
          let schema = has_was g.A.Store c.args.conn.now c.loop-course.conn was.0 has in
          let one = subst (IsJoined _ c.args.courses.now course) yes (c.in_ok-is_joined.ensures.told late schema) in (
            as_was_both g.A.Store c.args.conn.now c.loop-course.conn c.is_joined.new.conn was.0 (c.in_ok-is_joined.ensures.same late schema),
            subst (λ l. All (λ course. IsJoined (old.now.trees 5) c.args.courses.now course true) l) (sym taken)
                (All-push (λ course. IsJoined (old.now.trees 5) c.args.courses.now course true) _ course was.1
                (subst (λ (d : Db). IsJoined (d.trees 5) c.args.courses.now course true) same one)),
          ),
    )

pub returns-then-not-branch-clause-told : goal.returns-then-not-branch-clause-told
returns-then-not-branch-clause-told g c late has =
    let courses = c.args.courses.now in
    let course = c.course-item.result in
    let no : c.in_ok-is_joined.field-0 ≡ false = search rules in
    let was = c.loop-course.invariant.1 (c.is_joined.ensures.clean late) has in
    let same = still g.A.Store c.args.conn.now c.loop-course.conn was.0 in
    let schema = has_was g.A.Store c.args.conn.now c.loop-course.conn was.0 has in
    let one = subst (IsJoined _ courses course) no (c.in_ok-is_joined.ensures.told late schema) in (
      course,
      (c.loop-course.course-index, c.loop-course-test.true, sym c.course-item.is),
      subst (λ (d : Db). IsJoined (d.trees 5) courses course false) same one,
    )

pub returns-then-not-branch-clause-same : goal.returns-then-not-branch-clause-same
returns-then-not-branch-clause-same g c late has =
    let was = c.loop-course.invariant.1 (c.is_joined.ensures.clean late) has in
    as_was_both g.A.Store c.args.conn.now c.loop-course.conn c.is_joined.new.conn was.0
    (c.in_ok-is_joined.ensures.same late (has_was g.A.Store c.args.conn.now c.loop-course.conn was.0 has))

pub returns-in_err-is_joined-clause-uncounted : goal.returns-in_err-is_joined-clause-uncounted
returns-in_err-is_joined-clause-uncounted g c late has =
    let was = c.loop-course.invariant.1 (c.is_joined.ensures.clean late) has in
    because c.from_residual.result c.in_err-is_joined.field-0.0 (IsUncounted g.A.Store c.args.conn.now c.is_joined.new.conn) (search rules)
    (uncounted_then g.A.Store c.args.conn.now c.loop-course.conn c.is_joined.new.conn c.in_err-is_joined.field-0.0 was.0
    (c.in_err-is_joined.ensures.uncounted late (has_was g.A.Store c.args.conn.now c.loop-course.conn was.0 has)))

pub returns-clause-told : goal.returns-clause-told
returns-clause-told g c late has =
    let old = state g.A.Store c.args.conn.now in
    let courses = c.args.courses.now in
    subst (λ (l : List Course). All (λ course. IsJoined (old.now.trees 5) courses course true) l)
    (take_all c.loop-course.course-index courses (omega (arith, c.loop-course-test.false))) (c.loop-course.invariant.1 late has).1
