use Rattle.std.proofs.Common.{[], ◌∷◌, codes}
use Rattle.bac_json.specs.Lines.{Field, text, text_or_null, whole, whole_or_null}
use Rattle.bac_json.proofs.LineLemmas.{field_first, field_last, field_more}
use Rattle.bac_kept.specs.Csv.{text_or_none}
use Rattle.bac_kept.specs.Heads.{place_text}
use Rattle.bac_kept.specs.Shown.{told_of}
use Rattle.bac_kept.proofs.json_lines.write_log.Goals as goal

pub returns-clause-tokens : goal.returns-clause-tokens
returns-clause-tokens c =
    let told = told_of c.args.shown.now in
    let old = c.args.line.now.writer.tokens in
    let address : Field = (codes "address", text (place_text told.device)) in
    let device : Field = (codes "device", whole_or_null told.device.instance) in
    let log : Field = (codes "trend_log", whole told.log.instance) in
    let name : Field = (codes "name", text_or_null (text_or_none told.log.name)) in
    let source : Field = (codes "source", text_or_null (text_or_none told.log.source)) in
    let one = field_first old c.text.new.self.writer.tokens address (rw (c.as_slice.ensures.value, c.requires.address) at c.in_ok-text.ensures.tokens) in
    let two = field_more old c.text.new.self.writer.tokens c.whole_or_null.new.self.writer.tokens (address ∷ []) device one c.in_ok-whole_or_null.ensures.tokens in
    let three = field_more old c.whole_or_null.new.self.writer.tokens c.whole.new.self.writer.tokens (address ∷ device ∷ []) log two (rw c.from.ensures at c.in_ok-whole.ensures.tokens) in
    let four = field_more old c.whole.new.self.writer.tokens c.text_or_null.new.self.writer.tokens (address ∷ device ∷ log ∷ []) name three (rw c.requires.name at c.in_ok-text_or_null.ensures.tokens) in
    let five = field_more old c.text_or_null.new.self.writer.tokens c.text_or_null-2.new.self.writer.tokens (address ∷ device ∷ log ∷ name ∷ []) source four (rw c.requires.source at c.in_ok-text_or_null-2.ensures.tokens) in
    field_last c.text_or_null-3.result old c.text_or_null-2.new.self.writer.tokens c.text_or_null-3.new.self.writer.tokens (address ∷ device ∷ log ∷ name ∷ source ∷ [])
    (codes "units", text_or_null (text_or_none told.log.units)) five (rw c.requires.units at c.text_or_null-3.ensures.tokens)
