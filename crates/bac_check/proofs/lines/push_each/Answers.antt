use Rattle.std.proofs.Common.{◌∙◌, ◌++◌, List, ap, arith, flat_map}
use Rattle.std.specs.List.{list_all}
use Rattle.std.proofs.lemmas.List.{take_all}
use Rattle.bac_archive.specs.declared.row.LogRow.{LogRow}
use Rattle.bac_check.specs.Lines.{is_all_there, lines_of}
use Rattle.bac_check.proofs.EachLemmas.{all_more, text_more}
use Rattle.bac_check.proofs.lines.push_each.Goals as goal

pub loop-log-preserved : goal.loop-log-preserved
loop-log-preserved c =
    let logs = c.args.logs.now in
    let at = c.loop-log.log-index in (
      text_more (lines_of c.args.counts.now) logs at c.log-item.result c.args.text.now.items c.loop-log.text.items c.push_one.new.text.items
          c.loop-log-test.true c.log-item.is c.loop-log.invariant.0 c.in_ok-so.ensures.text,
      all_more (is_all_there c.args.counts.now) logs at c.log-item.result c.loop-log.whole c.in_ok-so.so c.loop-log-test.true c.log-item.is
          c.loop-log.invariant.1 c.in_ok-so.ensures.whole,
    )

pub returns-clause-text : goal.returns-clause-text
returns-clause-text c =
    let each = lines_of c.args.counts.now in
    c.loop-log.invariant.0
    ∙ ap (λ (l : List LogRow). c.args.text.now.items ++ flat_map each l) (take_all c.loop-log.log-index c.args.logs.now (omega (arith, c.loop-log-test.false)))

pub returns-clause-whole : goal.returns-clause-whole
returns-clause-whole c =
    c.loop-log.invariant.1
    ∙ ap (list_all (is_all_there c.args.counts.now)) (take_all c.loop-log.log-index c.args.logs.now (omega (arith, c.loop-log-test.false)))
