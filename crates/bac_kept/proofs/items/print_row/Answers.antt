use Rattle.std.proofs.Common.{◌≡◌, ◌&&◌, ◌++◌, ◌∙◌, ap, inr, refl, sym, true, false, is_none, rules, subst}
use Rattle.std.specs.Io.KnownBytes.{Appends}
use Rattle.bac_archive.proofs.ItemsLemmas.{on_err_then}
use Rattle.bac_print.specs.Output.{AppendsPart}
use Rattle.bac_kept.specs.Seen.{is_newer}
use Rattle.bac_kept.proofs.ItemsLemmas.{held_back, left_out, printed_now, skipped, whole_text}
use Rattle.bac_kept.proofs.RowsLemmas.{both_true, none_of, ok_both, ok_not_err, some_of, still}
use Rattle.bac_kept.proofs.items.print_row.Goals as goal

pub returns-then-not-is_newer-clause-ok : goal.returns-then-not-is_newer-clause-ok
returns-then-not-is_newer-clause-ok g c rows text has =
    let item = c.in-Ok.item in
    let old : is_newer c.args.behind item.epoch item.number ≡ false = search rules in
    still c.args.style.now c.args.behind _ text c.args.progress (g.O.Write.contents c.args.output.now) (skipped c.args.style.now c.args.behind rows c.args.row.now item text c.args.progress c.in-Ok.ensures.read has old)

pub returns-then-is_left_out-clause-ok : goal.returns-then-is_left_out-clause-ok
returns-then-is_left_out-clause-ok g c rows text has =
    let item = c.in-Ok.item in
    let so : is_newer c.args.behind item.epoch item.number ≡ true = search rules in
    let both = both_true c.is_waiting-waits.result (is_none c.args.progress.newest) (sym c.is_left_out.ensures ∙ c.if-is_left_out.true) in
    still c.args.style.now c.args.behind _ text c.args.progress (g.O.Write.contents c.args.output.now)
    (left_out c.args.style.now c.args.behind rows c.args.row.now item text c.args.progress c.in-Ok.ensures.read has so (sym c.is_waiting-waits.ensures ∙ both.0) (none_of c.args.progress.newest both.1))

pub returns-then-waits-clause-ok : goal.returns-then-waits-clause-ok
returns-then-waits-clause-ok g c rows text has =
    let item = c.in-Ok.item in
    let so : is_newer c.args.behind item.epoch item.number ≡ true = search rules in
    let some = some_of c.args.progress.newest (ap (λ w. w && is_none c.args.progress.newest) (sym c.if-waits.true) ∙ sym c.is_left_out.ensures ∙ c.if-is_left_out.false) in
    let one = ok_not_err c.push_text.result _ c.push_text.ensures (sym c.is_err.ensures.value ∙ c.if-is_err.false) in
    still c.args.style.now c.args.behind _ text _ (g.O.Write.contents c.args.output.now)
    (held_back c.args.style.now c.args.behind rows c.args.row.now item text c.args.progress c.in-Ok.ensures.read has one.0 _ some.0 so (sym c.is_waiting-waits.ensures ∙ c.if-waits.true) some.1 one.1 one.2 refl refl)

pub returns-clause-ok : goal.returns-clause-ok
returns-clause-ok g c rows text has =
    let item = c.in-Ok.item in
    let so : is_newer c.args.behind item.epoch item.number ≡ true = search rules in
    let one = ok_not_err c.push_text.result _ c.push_text.ensures (sym c.is_err.ensures.value ∙ c.if-is_err.false) in
    ok_both c.print_held.result _ _ _ c.print_held.ensures.ok c.print_held.ensures.progress
    (λ now written it. (
      c.args.progress.held.items ++ one.0,
      subst (Appends (g.O.Write.contents c.args.output.now) (g.O.Write.contents c.print_held.new.output)) one.2 written,
      printed_now c.args.style.now c.args.behind rows c.args.row.now item text c.args.progress c.in-Ok.ensures.read has one.0 now so (sym c.is_waiting-waits.ensures ∙ c.if-waits.false) one.1 it.0 it.1 it.2,
    ))

pub returns-clause-err : goal.returns-clause-err
returns-clause-err g c rows text has =
    let item = c.in-Ok.item in
    let so : is_newer c.args.behind item.epoch item.number ≡ true = search rules in
    let one = ok_not_err c.push_text.result _ c.push_text.ensures (sym c.is_err.ensures.value ∙ c.if-is_err.false) in
    on_err_then c.print_held.result _ _ c.print_held.ensures.err
    (λ part. (
      c.args.progress.held.items ++ one.0,
      subst (AppendsPart (g.O.Write.contents c.args.output.now) (g.O.Write.contents c.print_held.new.output)) one.2 part,
      inr (whole_text c.args.style.now c.args.behind rows c.args.row.now item text c.args.progress c.in-Ok.ensures.read has one.0 so (sym c.is_waiting-waits.ensures ∙ c.if-waits.false) one.1),
    ))
