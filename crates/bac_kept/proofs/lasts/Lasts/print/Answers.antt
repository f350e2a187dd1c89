use Rattle.std.proofs.Common.{inr, refl, subst}
use Rattle.bac_print.specs.Output.{AppendsPart}
use Rattle.bac_kept.proofs.lasts.Lasts.print.Goals as goal

pub returns-clause-err : goal.returns-clause-err
returns-clause-err g c =
    inr (refl, c.in-Ok.text.items, c.in-Ok.ensures, subst (AppendsPart (g.O.Write.contents c.args.output.now) (g.O.Write.contents c.write_text.new.writer)) c.as_slice.ensures.value c.in-Err.ensures.err)
