use Rattle.std.proofs.Common.{subst, sym}
use Rattle.bac_kept.specs.Items.{IsItemText}
use Rattle.bac_kept.specs.Shown.{told_of}
use Rattle.bac_kept.proofs.RowsLemmas.{ok_then}
use Rattle.bac_kept.proofs.items.push_text.Goals as goal

pub returns-in-Csv : goal.returns-in-Csv
returns-in-Csv c =
    let told = told_of c.args.style.now.shown in
    ok_then c.push_row.result _ _
    (λ is. let it = is told c.requires in (it.0, subst (λ f. IsItemText f told c.args.before c.args.item.now it.0) (sym c.in-Csv.is) it.1, it.2)) c.push_row.ensures
