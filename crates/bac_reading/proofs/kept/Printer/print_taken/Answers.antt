use Rattle.std.proofs.Common.{◌||◌, Err, ap, false, refl, sym, subst}
use Rattle.std.proofs.KnownBytes.{Appends-trans}
use Rattle.sqlite.specs.Held.{state}
use Rattle.bac_files.specs.Parts.{reading}
use Rattle.bac_kept.proofs.RowsLemmas.{behind_first}
use Rattle.bac_kept.specs.Csv.{names_text}
use Rattle.bac_kept.specs.Faults.{FailsToPrint}
use Rattle.bac_reading.proofs.KeptLemmas.{names_less, unprinted, unwritten}
use Rattle.bac_reading.specs.Kept.{PrintsTaken}
use Rattle.bac_reading.specs.declared.kept.Printer.{Printer}
use Rattle.bac_reading.proofs.kept.Printer.print_taken.Goals as goal

pub print_part-requires : goal.print_part-requires
print_part-requires g c clean = (c.requires clean).schema

pub returns-in-Err-clause-printed : goal.returns-in-Err-clause-printed
returns-in-Err-clause-printed g c =
    let old = c.args.self.now in
    let found = reading (state g.A.Store c.args.conn.now) (state g.A.Store c.args.conn.now) in
    let before = g.O.Write.contents c.args.output.now in
    let after = g.O.Write.contents c.print_names.new.output in
    subst (λ s. PrintsTaken (Err s) old found before after old) (sym c.stop_of.ensures)
    (unwritten old found before after old c.in-Err.why c.in-Err.ensures.fault refl (λ clean. names_less old found before after old (c.requires clean) c.in-Err.ensures.err))

pub returns-in-Ok-print_part-clause-printed : goal.returns-in-Ok-print_part-clause-printed
returns-in-Ok-print_part-clause-printed g c clean =
    let it = c.in-Ok-print_part.ensures.ok clean in
    let before = g.O.Write.contents c.args.output.now in
    let mid = g.O.Write.contents c.print_names.new.output in
    let after = g.O.Write.contents c.print_part.new.output in
    record {
      archive = c.requires (c.print_part.ensures.clean clean);
      known = it.0;
      told = it.1;
      text = it.3;
      is = it.4;
      printed = Appends-trans before mid after (names_text c.args.self.now.names) it.3 c.in-Ok.ensures.ok it.5;
      any = ap (λ b. c.args.self.now.has_any || b) it.2;
      names = refl;
    }

pub returns-in-Err-print_part-clause-printed : goal.returns-in-Err-print_part-clause-printed
returns-in-Err-print_part-clause-printed g c =
    let old = c.args.self.now in
    let found = reading (state g.A.Store c.args.conn.now) (state g.A.Store c.print_part.new.conn) in
    let before = g.O.Write.contents c.args.output.now in
    let mid = g.O.Write.contents c.print_names.new.output in
    let after = g.O.Write.contents c.print_part.new.output in
    let new : Printer = record old { names = false; seen = c.print_part.new.seen } in
    subst (λ s. PrintsTaken (Err s) old found before after new) (sym c.stop_of-in-Err-print_part.ensures)
    (unprinted old found before after new c.in-Err-print_part.why (FailsToPrint g.A.Store old.words.dates c.args.conn.now c.print_part.new.conn) c.in-Err-print_part.ensures.fault refl refl
    (λ clean.
    let it = c.in-Err-print_part.ensures.err clean in
    record {
      archive = c.requires (c.print_part.ensures.clean clean);
      text = it.0;
      is = it.1;
      printed = behind_first before mid after (names_text old.names) it.0 c.in-Ok.ensures.ok it.2;
    }))
