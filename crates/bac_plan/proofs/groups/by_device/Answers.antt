use Rattle.std.proofs.Common.{arith, ◌≡◌, List, Some, drop, length, slice_get, ap, ◌∙◌}
use Rattle.std.specs.Option.{option_map}
use Rattle.std.proofs.lemmas.List.{take_at}
use Rattle.bac_archive.specs.declared.row.LogRow.{LogRow}
use Rattle.bac_plan.specs.Logs.{with_log_of}
use Rattle.bac_plan.proofs.Grouped.{one_more}
use Rattle.bac_plan.proofs.groups.by_device.Goals as goal

pub loop-log-preserved : goal.loop-log-preserved
loop-log-preserved c = λ id less.
    let kept : length c.push_at.new.groups ≡ c.loop-log.groups.len = omega (arith, c.push_at.auto.groups, c.as_mut_slice.ensures.len) in
    ap (λ (l : List (List LogRow)). slice_get l id) (take_at c.push_at.new.groups (drop (length c.push_at.new.groups) c.loop-log.groups.items) c.loop-log.groups.len kept)
    ∙ c.in_ok-push_at.ensures id
    ∙ ap (λ (l : List (List LogRow)). option_map (with_log_of id c.in-Some.log) (slice_get l id)) c.as_mut_slice.ensures.value
    ∙ ap (option_map (with_log_of id c.in-Some.log)) (c.loop-log.invariant id less)
    ∙ ap (λ (l : List LogRow). Some l) (one_more id c.loop-log.yielded c.in-Some.log)
