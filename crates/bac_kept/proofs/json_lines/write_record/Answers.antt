use Rattle.std.proofs.Common.{[], ◌∷◌, codes}
use Rattle.bac_json.specs.Lines.{Field, text_or_null, whole}
use Rattle.bac_json.proofs.LineLemmas.{field_first, field_last, field_more}
use Rattle.bac_kept.specs.Csv.{flags_field}
use Rattle.bac_kept.proofs.RowsLemmas.{ok_then}
use Rattle.bac_kept.proofs.json_lines.write_record.Goals as goal

pub returns-clause-tokens : goal.returns-clause-tokens
returns-clause-tokens c =
    let item = c.args.item.now in
    let old = c.args.line.now.writer.tokens in
    let real = c.in_ok-real.ensures.tokens in
    let epoch : Field = (codes "epoch", whole item.epoch) in
    let number : Field = (codes "number", whole item.number) in
    let stamp : Field = (codes "stamp", text_or_null item.stamp.now) in
    let value : Field = (codes "value", real.0) in
    let datum : Field = (codes "datum", text_or_null item.datum.now) in
    let one = field_first old c.whole.new.self.writer.tokens epoch (rw c.from.ensures at c.in_ok-whole.ensures.tokens) in
    let two = field_more old c.whole.new.self.writer.tokens c.whole-2.new.self.writer.tokens (epoch ∷ []) number one (rw c.from-2.ensures at c.in_ok-whole-2.ensures.tokens) in
    let three = field_more old c.whole-2.new.self.writer.tokens c.text_or_null.new.self.writer.tokens (epoch ∷ number ∷ []) stamp two c.in_ok-text_or_null.ensures.tokens in
    let four = field_more old c.text_or_null.new.self.writer.tokens c.real.new.self.writer.tokens (epoch ∷ number ∷ stamp ∷ []) value three real.2 in
    let five = field_more old c.real.new.self.writer.tokens c.text_or_null-2.new.self.writer.tokens (epoch ∷ number ∷ stamp ∷ value ∷ []) datum four c.in_ok-text_or_null-2.ensures.tokens in
    ok_then c.text_or_null-3.result _ _ (λ it. (real.0, real.1, it))
    (field_last c.text_or_null-3.result old c.text_or_null-2.new.self.writer.tokens c.text_or_null-3.new.self.writer.tokens (epoch ∷ number ∷ stamp ∷ value ∷ datum ∷ [])
    (codes "flags", text_or_null (flags_field item.flags.now)) five (rw (c.as_slice.ensures.value, c.in_ok-flags.ensures) at c.text_or_null-3.ensures.tokens))
