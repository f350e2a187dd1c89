use Rattle.std.proofs.Common.{◌<◌, ◌≤◌, ◌++◌, ◌∙◌, List, [], length, refl, sym, ap, subst, append_assoc, append-nil, arith}
use Rattle.std.proofs.Math.ListN.{drop_of_length-le}
use Rattle.bac_link.specs.declared.item.Item.{Item}
use Rattle.bac_query.specs.Json.{AreJson, IsJson}
use Rattle.bac_query.proofs.Rows.{row_more}
use Rattle.bac_query.proofs.Tables.{split}
use Rattle.bac_query.proofs.json_lines.push_objects.Goals as goal

pub loop-item-preserved : goal.loop-item-preserved
loop-item-preserved c =
    let items = c.args.items.now in
    let i = c.loop-item.item-index in
    let (one, is, more) = c.in_ok-push_object.ensures in
    let (done, grown, so) = c.loop-item.invariant in
    let below : i < length items = omega arith in (
      done ++ one,
      more ∙ ap (λ l. l ++ one) grown ∙ append_assoc c.args.text.now.items done one,
      row_more IsJson items i _ done one (split items i _ _ below refl) is so,
    )

pub returns : goal.returns
returns c =
    let items = c.args.items.now in
    let i = c.loop-item.item-index in
    let (done, grown, so) = c.loop-item.invariant in
    let over : length items ≤ i = omega arith in
    let P : List Item → Type 0 = λ l. AreJson l [] in
    (done ++ [], so [] (subst P (sym (drop_of_length-le items over)) refl), grown ∙ ap (λ l. c.args.text.now.items ++ l) (sym (append-nil done)))
