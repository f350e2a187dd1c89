use Rattle.std.proofs.Common.{◌++◌, [], refl, sym, subst, append-nil}
use Rattle.std.proofs.KnownBytes.{Appends-trans}
use Rattle.sqlite.specs.Held.{state}
use Rattle.bac_print.specs.Output.{AppendsPart}
use Rattle.bac_print.proofs.Octets.{whole_part}
use Rattle.bac_kept.specs.Items.{PrintsItems, PrintsItemsFront}
use Rattle.bac_kept.specs.Parts.{head_text}
use Rattle.bac_kept.specs.Shown.{told_of}
use Rattle.bac_kept.proofs.PartsLemmas.{no_front, whole_front}
use Rattle.bac_kept.proofs.RowsLemmas.{behind_first, on_err}
use Rattle.bac_kept.proofs.parts.print_log.Goals as goal

pub returns-in_err-print_name-clause-err : goal.returns-in_err-print_name-clause-err
returns-in_err-print_name-clause-err g c clean has =
    let head = head_text c.args.words.now c.args.heads (told_of c.args.shown.now) in
    on_err c.from_residual.result _
    (head ++ [], ([], no_front _ _ _ _, refl), subst (AppendsPart (g.O.Write.contents c.args.output.now) (g.O.Write.contents c.print_name.new.output)) (sym (append-nil head)) c.in_err-print_name.ensures.err)

pub returns-in_err-newest-clause-err : goal.returns-in_err-newest-clause-err
returns-in_err-newest-clause-err g c clean has =
    let told = told_of c.args.shown.now in
    let head = head_text c.args.words.now c.args.heads told in
    let items = (state g.A.Store c.args.conn.now).now.trees 5 in
    let it = c.in_err-newest.ensures.err clean has in
    on_err c.from_residual-in_err-newest.result _ (
      head ++ it.0,
      (it.0, subst (λ b. PrintsItemsFront c.args.words.now told b items it.0) c.newest-behind.ensures it.1, refl),
      behind_first (g.O.Write.contents c.args.output.now) (g.O.Write.contents c.print_name.new.output) (g.O.Write.contents c.print_items.new.output) head it.0 c.in_ok-print_name.ensures.ok it.2,
    )

pub returns-in-Ok-clause-ok : goal.returns-in-Ok-clause-ok
returns-in-Ok-clause-ok g c clean has =
    let told = told_of c.args.shown.now in
    let head = head_text c.args.words.now c.args.heads told in
    let items = (state g.A.Store c.args.conn.now).now.trees 5 in
    let it = c.in_ok-newest.ensures.ok clean has in (
      head ++ it.0,
      (it.0, c.in_ok-newest.newest, subst (λ b. PrintsItems c.args.words.now told b items it.0 c.in_ok-newest.newest) c.newest-behind.ensures it.1, refl, c.in-Ok.ensures),
      Appends-trans (g.O.Write.contents c.args.output.now) (g.O.Write.contents c.print_name.new.output) (g.O.Write.contents c.print_items.new.output) head it.0 c.in_ok-print_name.ensures.ok it.2,
    )

pub returns-in-Err-clause-err : goal.returns-in-Err-clause-err
returns-in-Err-clause-err g c clean has =
    let told = told_of c.args.shown.now in
    let head = head_text c.args.words.now c.args.heads told in
    let items = (state g.A.Store c.args.conn.now).now.trees 5 in
    let it = c.in_ok-newest.ensures.ok clean has in (
      head ++ it.0,
      (it.0, subst (λ b. PrintsItemsFront c.args.words.now told b items it.0) c.newest-behind.ensures (whole_front _ _ _ c.in_ok-newest.newest items it.0 it.1), refl),
      whole_part (g.O.Write.contents c.args.output.now) (g.O.Write.contents c.print_items.new.output) (head ++ it.0)
          (Appends-trans (g.O.Write.contents c.args.output.now) (g.O.Write.contents c.print_name.new.output) (g.O.Write.contents c.print_items.new.output) head it.0 c.in_ok-print_name.ensures.ok it.2),
    )
