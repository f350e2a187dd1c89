use Rattle.std.proofs.Common.{◌∙◌, ap, rules, ◌++◌, ◌∷◌, []}
use Rattle.bac_kept.specs.Csv.{letter}
use Rattle.bac_kept.proofs.ShownLemmas.{mapped_at}
use Rattle.bac_kept.proofs.csv_rows.flags_text.Goals as goal

pub loop-flag-preserved : goal.loop-flag-preserved
loop-flag-preserved c =
    mapped_at letter c.args.flags.now c.loop-flag.flag-index _ c.loop-flag.text.items _ (search rules) c.loop-flag.invariant
    (c.in_ok-push.ensures.items ∙ ap (λ l. c.loop-flag.text.items ++ l ∷ []) c.letter.ensures)
