use Rattle.std.proofs.Common.{◌∙◌, List, map, ap, arith, rules}
use Rattle.std.proofs.lemmas.List.{take_all}
use Rattle.bac_archive.specs.declared.row.BeginningRow.{BeginningRow}
use Rattle.bac_check.specs.Counted.{begun_of}
use Rattle.bac_check.proofs.EachLemmas.{read_more}
use Rattle.bac_check.proofs.course.all_begun.Goals as goal

pub loop-row-preserved : goal.loop-row-preserved
loop-row-preserved c =
    c.in_ok-push.ensures.items
    ∙ read_more begun_of c.loop-row.all.items c.begun_of.result c.args.rows.now c.loop-row.row-index c.row-item.result (search rules) (search rules) c.loop-row.invariant c.begun_of.ensures

pub returns : goal.returns
returns c =
    c.loop-row.invariant ∙ ap (λ (l : List BeginningRow). map begun_of l) (take_all c.loop-row.row-index c.args.rows.now (omega (arith, c.loop-row-test.false)))
