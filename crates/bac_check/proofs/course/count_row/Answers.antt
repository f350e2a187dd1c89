use Rattle.std.proofs.Common.{◌≡◌, rules, true}
use Rattle.bac_check.specs.Rows.{is_new}
use Rattle.bac_check.proofs.AskedLemmas.{if_err_then}
use Rattle.bac_check.proofs.RowLemmas.{not_taken}
use Rattle.bac_check.proofs.course.count_row.Goals as goal

pub returns-clause-uncounted : goal.returns-clause-uncounted
returns-clause-uncounted c =
    let new : is_new c.args.behind c.in-Ok.span ≡ true = search rules in
    if_err_then c.take.result _ _ c.take.ensures.uncounted (not_taken c.args.epoch c.args.behind c.args.tally.now c.args.row.now c.in-Ok.span c.in-Ok.ensures.read new)
