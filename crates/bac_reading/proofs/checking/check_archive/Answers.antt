use Rattle.std.proofs.Common.{map, subst}
use Rattle.std.specs.String.{string_bytes}
use Rattle.bac_files.specs.Parts.{part_rules}
use Rattle.bac_parts.specs.Visits.{ReadsOn, at_visit}
use Rattle.bac_reading.specs.Checking.{counting}
use Rattle.bac_reading.proofs.checking.check_archive.Goals as goal

pub returns : goal.returns
returns g c =
    let rules = part_rules g.P.Parts.lists g.P.Parts.holds g.P.Parts.bars in
    record {
      begun = c.new-checker.result;
      unchecked = c.new-checker.ensures;
      count = c.read_on.result;
      read = c.read_on.new.visitor;
      output = g.O.Write.contents c.read_on.new.output;
      reads = subst (λ l. ReadsOn (counting rules) (map string_bytes l) c.read_on.result (at_visit c.args.parts.now c.new-checker.result (g.O.Write.contents c.args.output.now))
          (at_visit c.read_on.new.parts c.read_on.new.visitor (g.O.Write.contents c.read_on.new.output))) c.as_slice.ensures.value c.read_on.ensures;
      last = c.finish.new.self;
      finishes = c.finish.ensures;
      closes = c.close.ensures;
    }
