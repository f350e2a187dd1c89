use Rattle.std.proofs.Common.{arith, ◌≡◌, ◌∷◌, [], List, Some, drop, length, map, slice_get, sym, ap, ◌∙◌}
use Rattle.std.specs.Option.{option_map}
use Rattle.std.proofs.lemmas.List.{map-append, take_at}
use Rattle.sqlite_value.specs.Order.{Row as Values}
use Rattle.bac_archive.specs.Put.{beginning_columns, item_columns}
use Rattle.bac_resume.specs.Met.{began_at, with_item_at}
use Rattle.bac_resume.specs.Rows.{LogTold, told_of}
use Rattle.bac_resume.proofs.Rowed.{began_more, begun_of, item_more}
use Rattle.bac_resume.proofs.rows.by_log.Goals as goal

pub loop-row-preserved : goal.loop-row-preserved
loop-row-preserved c = λ log less.
    let kept : length c.begin_at.new.all ≡ c.loop-row.all.len = omega (arith, c.begin_at.auto.all, c.as_mut_slice.ensures.len) in
    ap (λ (l : List LogTold). slice_get l log) (take_at c.begin_at.new.all (drop (length c.begin_at.new.all) c.loop-row.all.items) c.loop-row.all.len kept)
    ∙ c.begin_at.ensures log
    ∙ ap (λ (l : List LogTold). option_map (began_at log (beginning_columns c.in-Some.row)) (slice_get l log)) c.as_mut_slice.ensures.value
    ∙ ap (option_map (began_at log (beginning_columns c.in-Some.row))) (c.loop-row.invariant log less)
    ∙ ap (λ (t : LogTold). Some t) (began_more log (map beginning_columns c.loop-row.yielded) (beginning_columns c.in-Some.row))
    ∙ ap (λ (l : List Values). Some (begun_of l log)) (sym (map-append beginning_columns c.loop-row.yielded (c.in-Some.row ∷ [])))

pub loop-item-preserved : goal.loop-item-preserved
loop-item-preserved c = λ log less.
    let kept : length c.push_at.new.all ≡ c.loop-item.all.len = omega (arith, c.push_at.auto.all, c.as_mut_slice-in-loop-item.ensures.len) in
    let beginnings = map beginning_columns c.args.last.items in
    ap (λ (l : List LogTold). slice_get l log) (take_at c.push_at.new.all (drop (length c.push_at.new.all) c.loop-item.all.items) c.loop-item.all.len kept)
    ∙ c.in_ok-push_at.ensures log
    ∙ ap (λ (l : List LogTold). option_map (with_item_at log (item_columns c.in-Some-item.item)) (slice_get l log)) c.as_mut_slice-in-loop-item.ensures.value
    ∙ ap (option_map (with_item_at log (item_columns c.in-Some-item.item))) (c.loop-item.invariant log less)
    ∙ ap (λ (t : LogTold). Some t) (item_more log beginnings (map item_columns c.loop-item.yielded) (item_columns c.in-Some-item.item))
    ∙ ap (λ (l : List Values). Some (told_of beginnings l log)) (sym (map-append item_columns c.loop-item.yielded (c.in-Some-item.item ∷ [])))
