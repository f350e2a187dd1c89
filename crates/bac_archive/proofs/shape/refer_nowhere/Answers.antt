use Rattle.std.proofs.Common.{rules, subst, All}
use Rattle.std.proofs.lemmas.List.{take_all}
use Rattle.std.proofs.lemmas.List.Elements.{All-more}
use Rattle.bac_archive.specs.Schema.{RefersNowhere}
use Rattle.bac_archive.proofs.shape.refer_nowhere.Goals as goal

pub loop-table-preserved : goal.loop-table-preserved
loop-table-preserved c =
    All-more RefersNowhere c.args.tables.now c.loop-table.table-index c.table-item.result (search rules) c.loop-table.invariant
    (subst RefersNowhere c.table-item.is (search rules))

pub returns : goal.returns
returns c = (
  λ _. subst (All RefersNowhere) (take_all c.loop-table.table-index c.args.tables.now c.loop-table-test.false) c.loop-table.invariant,
  λ _. search rules,
)
