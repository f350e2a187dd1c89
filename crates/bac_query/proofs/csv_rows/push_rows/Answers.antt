use Rattle.std.proofs.Common.{◌<◌, ◌≤◌, ◌++◌, ◌∙◌, List, [], length, refl, sym, ap, subst, append_assoc, append-nil, arith}
use Rattle.std.proofs.Math.ListN.{drop_of_length-le}
use Rattle.bac_link.specs.declared.item.Item.{Item}
use Rattle.bac_query.specs.Rows.{AreRows, IsRow}
use Rattle.bac_query.proofs.Rows.{row_more}
use Rattle.bac_query.proofs.Tables.{split}
use Rattle.bac_query.proofs.csv_rows.push_rows.Goals as goal

pub loop-item-preserved : goal.loop-item-preserved
loop-item-preserved c =
    let items = c.args.items.now in
    let i = c.loop-item.item-index in
    let row = c.in_ok-row.row.items in
    let (done, grown, so) = c.loop-item.invariant in
    let below : i < length items = omega arith in (
      done ++ row,
      (rw c.as_slice.ensures.value at c.in_ok-extend_from_slice.ensures.items) ∙ ap (λ l. l ++ row) grown ∙ append_assoc c.args.text.now.items done row,
      row_more IsRow items i _ done row (split items i _ _ below refl) c.in_ok-row.ensures so,
    )

pub returns : goal.returns
returns c =
    let items = c.args.items.now in
    let i = c.loop-item.item-index in
    let (done, grown, so) = c.loop-item.invariant in
    let over : length items ≤ i = omega arith in
    let P : List Item → Type 0 = λ l. AreRows l [] in
    (done ++ [], so [] (subst P (sym (drop_of_length-le items over)) refl), grown ∙ ap (λ l. c.args.text.now.items ++ l) (sym (append-nil done)))
