use Rattle.std.proofs.Common.{Option, refl, subst, sym}
use Rattle.bac_kept.specs.Json.{AreOfItem, gap_json, record_json}
use Rattle.bac_kept.proofs.RowsLemmas.{ok_then}
use Rattle.bac_kept.proofs.json_lines.write_item.Goals as goal

pub returns-in-Some-clause-tokens : goal.returns-in-Some-clause-tokens
returns-in-Some-clause-tokens c =
    let item = c.args.item.now in
    let fields = gap_json item c.in-Some.last in
    let of_item = subst (λ (last : Option _). AreOfItem item last fields) (sym c.in-Some.is) refl in
    ok_then c.write_gap.result _ _ (λ it. (fields, of_item, it)) c.write_gap.ensures.tokens

pub returns-in-None-clause-tokens : goal.returns-in-None-clause-tokens
returns-in-None-clause-tokens c =
    let item = c.args.item.now in
    ok_then c.write_record.result _ _ (λ it.
    let fields = record_json item it.0 in
    (fields, subst (λ (last : Option _). AreOfItem item last fields) (sym c.in-None.is) (it.0, it.1, refl), it.2)) c.write_record.ensures.tokens
