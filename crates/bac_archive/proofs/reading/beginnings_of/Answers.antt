use Rattle.std.proofs.Common.{◌∙◌, ap, map, rules}
use Rattle.bac_archive.specs.Ask.{first}
use Rattle.bac_archive.specs.Put.{beginning_columns}
use Rattle.bac_archive.proofs.ReadLemmas.{one_read}
use Rattle.bac_archive.proofs.reading.beginnings_of.Goals as goal

pub loop-row-preserved : goal.loop-row-preserved
loop-row-preserved c =
    ap (map beginning_columns) c.in_ok-push.ensures.items
    ∙ one_read beginning_columns (first 3) c.loop-row.all.items c.in_ok-beginning_of.field-0 c.args.rows.now c.loop-row.row-index c.row-item.result (search rules) (search rules) c.loop-row.invariant c.in_ok-beginning_of.ensures.read
