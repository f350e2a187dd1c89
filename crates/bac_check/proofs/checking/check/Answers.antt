use Rattle.std.proofs.Common.{◌∙◌, inl, inr, ap, rules}
use Rattle.bac_archive.proofs.RowsLemmas.{because}
use Rattle.sqlite.specs.Held.{state}
use Rattle.bac_check.specs.Checked.{IsUnprinted, ending_of}
use Rattle.bac_check.specs.Counted.{IsCountOf}
use Rattle.bac_check.proofs.checking.check.Goals as goal

pub returns-in-Ok-clause-checks : goal.returns-in-Ok-clause-checks
returns-in-Ok-clause-checks g c clean has = inl (record {
  counts = c.count.new.self;
  counted = (c.new-counts.result, c.new-counts.ensures, (c.in-Ok.ensures.counted clean has).rows);
  same = c.in-Ok.ensures.same clean has;
  printed = c.in_ok-whole-in-Ok.ensures.printed;
  ended = c.ending_of.ensures ∙ ap ending_of c.in_ok-whole-in-Ok.ensures.whole;
})

pub returns-in_err-whole-in-Ok-clause-refused : goal.returns-in_err-whole-in-Ok-clause-refused
returns-in_err-whole-in-Ok-clause-refused g c clean has =
    let same = c.in-Ok.ensures.same clean has in
    let counted : IsCountOf (state g.A.Store c.args.conn.now).now.trees c.count.new.self = (c.new-counts.result, c.new-counts.ensures, (c.in-Ok.ensures.counted clean has).rows) in
    because _ c.in_err-whole-in-Ok.field-0.0 (λ fault. IsUnprinted g.A.Store c.args.conn.now (g.O.Write.contents c.args.output.now) fault c.count.new.conn (g.O.Write.contents c.print.new.output)) (search rules)
    (elim c.in_err-whole-in-Ok.ensures.refused [
      | inl memory ↦ rw memory.0 (same, memory.1)
      | inr write ↦ rw write.0 (c.count.new.self, counted, same, write.1)
    ])
