use Rattle.std.proofs.Common.{refl, subst, ◌++◌, map, ◌∙◌, sym, rules, inl}
use Rattle.std.specs.List.{filter}
use Rattle.sqlite.specs.Held.{state}
use Rattle.bac_archive.proofs.RowsLemmas.{because}
use Rattle.bac_check.specs.Rows.{is_new, span_of}
use Rattle.bac_check.specs.Tallies.{IsTallied}
use Rattle.bac_check.specs.Uncounts.{IsUncounted}
use Rattle.bac_check.specs.declared.tally.Uncounted.TheVariants.{Memory}
use Rattle.bac_check.proofs.AskedLemmas.{no_memory}
use Rattle.bac_check.proofs.CourseLemmas.{counts_on}
use Rattle.bac_check.proofs.course.count_on.Goals as goal

pub returns-clause-counted : goal.returns-clause-counted
returns-clause-counted g c clean has = record {
  begun = refl;
  counted = λ before was.
      let it = c.in_ok-count_rows.ensures.counted clean has in
      counts_on c.args.begun.id (state g.A.Store c.args.conn.now).now.trees before c.args.tally.now c.count_rows.new.tally it.0 it.1 was
      (subst (λ b. IsTallied (before ++ filter (is_new b) (map span_of it.0)) c.count_rows.new.tally) c.newest_of.ensures (it.2 before (c.in_ok-counted.ensures.counted before was)));
}

pub returns-in_err-count_rows-clause-uncounted : goal.returns-in_err-count_rows-clause-uncounted
returns-in_err-count_rows-clause-uncounted g c clean has =
    because c.from_residual-in_err-count_rows.result c.in_err-count_rows.field-0.0 (IsUncounted g.A.Store c.args.conn.now c.count_rows.new.conn) (search rules)
    (c.in_err-count_rows.ensures.uncounted clean has (c.newest_of.ensures ∙ sym c.in_ok-counted.ensures.newest))

pub returns-in_err-counted-clause-uncounted : goal.returns-in_err-counted-clause-uncounted
returns-in_err-counted-clause-uncounted g c clean has =
    because c.from_residual.result Memory (IsUncounted g.A.Store c.args.conn.now c.args.conn.now) (search rules) (no_memory g.A.Store c.args.conn.now c.args.conn.now (inl refl))
