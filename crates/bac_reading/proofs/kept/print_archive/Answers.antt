use Rattle.std.proofs.Common.{inl, inr, map, refl, subst}
use Rattle.std.specs.Io.KnownBytes.{Appends}
use Rattle.std.specs.String.{string_bytes}
use Rattle.bac_files.specs.Parts.{part_rules}
use Rattle.bac_kept.specs.Csv.{names_text}
use Rattle.bac_parts.specs.Visits.{ReadsOn, at_visit}
use Rattle.bac_print.specs.Output.{AppendsPart}
use Rattle.bac_reading.specs.Kept.{printing}
use Rattle.bac_reading.proofs.kept.print_archive.Goals as goal

pub returns-in-Err : goal.returns-in-Err
returns-in-Err g c =
    inl (c.text_fault.result, refl, refl, refl, subst (λ b. AppendsPart (g.O.Write.contents c.args.output.now) (g.O.Write.contents c.print_names.new.output) (names_text b)) c.has_first_row.ensures c.in-Err.ensures.err)

pub returns : goal.returns
returns g c =
    let rules = part_rules g.P.Parts.lists g.P.Parts.holds g.P.Parts.bars in
    let first = g.O.Write.contents c.print_names.new.output in
    inr (record {
      first = first;
      named = subst (λ b. Appends (g.O.Write.contents c.args.output.now) first (names_text b)) c.has_first_row.ensures c.in-Ok.ensures.ok;
      begun = c.new-printer.result;
      fresh = c.new-printer.ensures;
      count = c.read_on.result;
      read = c.read_on.new.visitor;
      output = g.O.Write.contents c.read_on.new.output;
      reads = subst (λ l. ReadsOn (printing rules) (map string_bytes l) c.read_on.result (at_visit c.args.parts.now c.new-printer.result first) (at_visit c.read_on.new.parts c.read_on.new.visitor (g.O.Write.contents c.read_on.new.output)))
          c.as_slice.ensures.value c.read_on.ensures;
      last = c.finish.new.self;
      finishes = c.finish.ensures;
      closes = c.close.ensures;
    })
