use Rattle.std.proofs.Common.{[], ◌∷◌, codes}
use Rattle.bac_json.specs.Lines.{Field, text, whole}
use Rattle.bac_json.proofs.LineLemmas.{field_first, field_last, field_more}
use Rattle.bac_print.specs.Entries.{datum_text, flags_text}
use Rattle.bac_query.specs.Rows.{stamp_text}
use Rattle.bac_query.proofs.Rows.{ok_then}
use Rattle.bac_query.proofs.json_lines.write_record.Goals as goal

pub returns-clause-tokens : goal.returns-clause-tokens
returns-clause-tokens c =
    let entry = c.args.entry.now in
    let old = c.args.line.now.writer.tokens in
    let real = (rw c.value_of.ensures at c.in_ok-real.ensures.tokens) in
    let number : Field = (codes "number", whole c.args.number) in
    let stamp : Field = (codes "stamp", text (stamp_text entry)) in
    let value : Field = (codes "value", real.0) in
    let datum : Field = (codes "datum", text (datum_text entry.datum)) in
    let one = field_first old c.whole.new.self.writer.tokens number (rw c.from.ensures at c.in_ok-whole.ensures.tokens) in
    let two = field_more old c.whole.new.self.writer.tokens c.text.new.self.writer.tokens (number ∷ []) stamp one (rw (c.as_slice.ensures.value, c.in_ok-stamp.ensures) at c.in_ok-text.ensures.tokens) in
    let three = field_more old c.text.new.self.writer.tokens c.real.new.self.writer.tokens (number ∷ stamp ∷ []) value two real.2 in
    let four = field_more old c.real.new.self.writer.tokens c.text-2.new.self.writer.tokens (number ∷ stamp ∷ value ∷ []) datum three (rw (c.as_slice-2.ensures.value, c.in_ok-datum.ensures) at c.in_ok-text-2.ensures.tokens) in
    ok_then c.text-3.result _ _ (λ it. (real.0, real.1, it))
    (field_last c.text-3.result old c.text-2.new.self.writer.tokens c.text-3.new.self.writer.tokens (number ∷ stamp ∷ value ∷ datum ∷ [])
    (codes "flags", text (flags_text entry.flags)) four (rw (c.as_slice-3.ensures.value, c.in_ok-flags.ensures) at c.text-3.ensures.tokens))
