use Rattle.std.proofs.Common.{◌≡◌, ◌∙◌, true, sym, subst, rules}
use Rattle.std.specs.Io.KnownBytes.{Appends}
use Rattle.bac_print.specs.Output.{AppendsPart}
use Rattle.bac_kept.specs.Csv.{names_text}
use Rattle.bac_kept.proofs.csv_rows.print_names.Goals as goal

pub returns-in-Ok-write_text-clause-ok : goal.returns-in-Ok-write_text-clause-ok
returns-in-Ok-write_text-clause-ok g c =
    let wanted : c.args.wanted ≡ true = search rules in
    subst (λ b. Appends (g.O.Write.contents c.args.output.now) (g.O.Write.contents c.write_text.new.writer) (names_text b)) (sym wanted)
    (subst (λ t. Appends (g.O.Write.contents c.args.output.now) (g.O.Write.contents c.write_text.new.writer) t) (c.as_slice.ensures.value ∙ c.in-Ok.ensures) c.in-Ok-write_text.ensures.ok)

pub returns-clause-err : goal.returns-clause-err
returns-clause-err g c =
    let wanted : c.args.wanted ≡ true = search rules in
    subst (λ b. AppendsPart (g.O.Write.contents c.args.output.now) (g.O.Write.contents c.write_text.new.writer) (names_text b)) (sym wanted)
    (subst (λ t. AppendsPart (g.O.Write.contents c.args.output.now) (g.O.Write.contents c.write_text.new.writer) t) (c.as_slice.ensures.value ∙ c.in-Ok.ensures) c.in-Err.ensures.err)
