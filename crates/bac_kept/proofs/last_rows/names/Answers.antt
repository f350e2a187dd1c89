use Rattle.std.proofs.Common.{◌≡◌, IfOk, subst, sym}
use Rattle.bac_kept.specs.LastRows.{last_names_text}
use Rattle.bac_kept.proofs.last_rows.names.Goals as goal

pub returns-in-Csv : goal.returns-in-Csv
returns-in-Csv c = subst (λ f. IfOk c.row_of.result (λ text. text.items ≡ last_names_text f)) (sym c.in-Csv.is) c.row_of.ensures
