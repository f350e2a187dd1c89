use Rattle.std.proofs.Common.{◌≡◌, ◌∙◌, List, filter, map, rules, subst, sym}
use Rattle.std.specs.List.{AllZip}
use Rattle.sqlite.specs.Effect.{Database as Db}
use Rattle.sqlite.specs.Held.{state}
use Rattle.bac_archive.proofs.RowsLemmas.{because}
use Rattle.bac_check.specs.Counted.{course_of, is_unknown, updated_by}
use Rattle.bac_check.specs.Rows.{CountsCourse}
use Rattle.bac_check.specs.Uncounts.{IsUncounted}
use Rattle.bac_check.specs.declared.course.Beginning.{Beginning}
use Rattle.bac_check.specs.declared.tally.Uncounted.TheVariants.{Memory}
use Rattle.bac_check.proofs.AskedLemmas.{as_was_both, has_was, no_memory, still, uncounted_then}
use Rattle.bac_check.proofs.EachLemmas.{zip_both}
use Rattle.bac_check.proofs.counts.count_all.Goals as goal

pub returns-clause-counted : goal.returns-clause-counted
returns-clause-counted g c clean has =
    let old = c.args.conn.now in
    let mid = c.count_known.new.conn in
    let trees = (state g.A.Store old).now.trees in
    let courses = c.args.courses.now in
    let begun = c.args.begun.now in
    let early = c.count_new.ensures.clean clean in
    let was = c.in_ok-counted.ensures.same early has in
    let known = c.in_ok-counted.ensures.counted early has in
    let more = subst (λ (d : Db). AllZip (CountsCourse d.trees) (map course_of c.as_slice.result.now) c.in_ok-more.more.items) (still g.A.Store old mid was)
    (c.in_ok-more.ensures.counted clean (has_was g.A.Store old mid was has)) in
    let new : c.as_slice.result.now ≡ filter (is_unknown courses) begun = c.as_slice.ensures.value ∙ c.in_ok-new.ensures in
    subst (AllZip (CountsCourse trees) _) (sym c.in_ok-all.ensures)
    (zip_both (CountsCourse trees) (map (updated_by begun) courses) c.in_ok-counted.counted.items (map course_of (filter (is_unknown courses) begun)) c.in_ok-more.more.items known
    (subst (λ (l : List Beginning). AllZip (CountsCourse trees) (map course_of l) c.in_ok-more.more.items) new more))

pub returns-clause-same : goal.returns-clause-same
returns-clause-same g c clean has =
    let old = c.args.conn.now in
    let mid = c.count_known.new.conn in
    let was = c.in_ok-counted.ensures.same (c.count_new.ensures.clean clean) has in
    as_was_both g.A.Store old mid c.count_new.new.conn was (c.in_ok-more.ensures.same clean (has_was g.A.Store old mid was has))

pub returns-in_err-counted-clause-uncounted : goal.returns-in_err-counted-clause-uncounted
returns-in_err-counted-clause-uncounted g c clean has =
    because c.from_residual.result c.in_err-counted.field-0.0 (IsUncounted g.A.Store c.args.conn.now c.count_known.new.conn) (search rules) (c.in_err-counted.ensures.uncounted clean has)

pub returns-in_err-new-clause-uncounted : goal.returns-in_err-new-clause-uncounted
returns-in_err-new-clause-uncounted g c clean has =
    because c.from_residual-in_err-new.result Memory (IsUncounted g.A.Store c.args.conn.now c.count_known.new.conn) (search rules)
    (no_memory g.A.Store c.args.conn.now c.count_known.new.conn (c.in_ok-counted.ensures.same clean has))

pub returns-in_err-more-clause-uncounted : goal.returns-in_err-more-clause-uncounted
returns-in_err-more-clause-uncounted g c clean has =
    let old = c.args.conn.now in
    let mid = c.count_known.new.conn in
    let was = c.in_ok-counted.ensures.same (c.count_new.ensures.clean clean) has in
    because c.from_residual-in_err-more.result c.in_err-more.field-0.0 (IsUncounted g.A.Store old c.count_new.new.conn) (search rules)
    (uncounted_then g.A.Store old mid c.count_new.new.conn c.in_err-more.field-0.0 was (c.in_err-more.ensures.uncounted clean (has_was g.A.Store old mid was has)))

pub returns-in_err-all-clause-uncounted : goal.returns-in_err-all-clause-uncounted
returns-in_err-all-clause-uncounted g c clean has =
    let old = c.args.conn.now in
    let mid = c.count_known.new.conn in
    let was = c.in_ok-counted.ensures.same (c.count_new.ensures.clean clean) has in
    because c.from_residual-in_err-all.result Memory (IsUncounted g.A.Store old c.count_new.new.conn) (search rules)
    (no_memory g.A.Store old c.count_new.new.conn (as_was_both g.A.Store old mid c.count_new.new.conn was (c.in_ok-more.ensures.same clean (has_was g.A.Store old mid was has))))
