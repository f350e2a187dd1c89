use Rattle.std.proofs.Common.{map, subst}
use Rattle.std.specs.String.{string_bytes}
use Rattle.bac_files.specs.Parts.{part_rules}
use Rattle.bac_parts.specs.Visits.{ReadsBack, at_visit}
use Rattle.bac_reading.specs.Last.{seeking}
use Rattle.bac_reading.proofs.last.find_lasts.Goals as goal

pub returns : goal.returns
returns g c =
    let rules = part_rules g.P.Parts.lists g.P.Parts.holds g.P.Parts.bars in
    record {
      begun = c.new-seeker.result;
      unsought = c.new-seeker.ensures;
      place = c.read_back.result;
      read = c.read_back.new.visitor;
      output = g.O.Write.contents c.read_back.new.output;
      reads = subst (λ l. ReadsBack (seeking rules) (map string_bytes l) c.read_back.result (at_visit c.args.parts.now c.new-seeker.result (g.O.Write.contents c.args.output.now))
          (at_visit c.read_back.new.parts c.read_back.new.visitor (g.O.Write.contents c.read_back.new.output))) c.as_slice.ensures.value c.read_back.ensures;
      last = c.finish.new.self;
      finishes = c.finish.ensures;
      closes = c.close.ensures;
    }
