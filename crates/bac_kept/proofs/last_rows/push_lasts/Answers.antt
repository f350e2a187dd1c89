use Rattle.std.proofs.Common.{◌∙◌, ◌++◌, List, ap, append_assoc, map, option_copied, rules, subst, sym, take}
use Rattle.bac_kept.specs.LastRows.{AreLastTexts, IsLastText}
use Rattle.bac_kept.specs.Lasts.{found_of}
use Rattle.bac_kept.specs.Shown.{Told, told_of}
use Rattle.bac_kept.proofs.LastLemmas.{texts_more}
use Rattle.bac_kept.proofs.PartsLemmas.{more_told}
use Rattle.bac_kept.proofs.last_rows.push_lasts.Goals as goal

pub loop-shown-preserved : goal.loop-shown-preserved
loop-shown-preserved c =
    let it = c.in_ok-push_last.ensures in
    let was = c.loop-shown.invariant in
    let shown = c.shown-item.result in
    let told = told_of shown in
    let last = option_copied c.args.last in
    let found = c.args.found.now in
    let so = map told_of (take c.loop-shown.shown-index c.args.logs.now) in
    let its = subst (λ r. IsLastText c.args.form told r c.silence-silence.result.now it.0) c.found_of-record.ensures it.1 in
    let one = subst (λ s. IsLastText c.args.form told (found_of found told.log.id) s it.0) c.silence-silence.ensures its in (
      was.0 ++ it.0,
      subst (λ (l : List Told). AreLastTexts c.args.form found last l (was.0 ++ it.0)) (sym (more_told c.args.logs.now c.loop-shown.shown-index shown (search rules) (search rules)))
          (texts_more c.args.form found last so told was.0 it.0 was.1 one),
      it.2 ∙ ap (λ l. l ++ it.0) was.2 ∙ append_assoc c.args.text.now.items was.0 it.0,
    )
