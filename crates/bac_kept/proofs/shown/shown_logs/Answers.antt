use Rattle.std.proofs.Common.{◌∙◌, ◌++◌, [], ap, map, rules}
use Rattle.std.specs.List.{cons_option}
use Rattle.bac_kept.specs.Shown.{shown_of, told_of}
use Rattle.bac_kept.proofs.ShownLemmas.{given_one}
use Rattle.bac_kept.proofs.shown.shown_logs.Goals as goal

pub loop-log-preserved : goal.loop-log-preserved
loop-log-preserved c =
    given_one (shown_of c.args.known.now c.args.choice) c.args.known.now.logs.items c.loop-log.log-index c.log-item.result (map told_of c.loop-log.all.items) _ (search rules) (search rules) c.loop-log.invariant
    (c.in_ok-all.ensures ∙ ap (λ o. map told_of c.loop-log.all.items ++ cons_option o []) c.shown_of.ensures)
