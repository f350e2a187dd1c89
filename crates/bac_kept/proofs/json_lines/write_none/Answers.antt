use Rattle.std.proofs.Common.{[], ◌∷◌, codes}
use Rattle.json.specs.Json.{null}
use Rattle.bac_json.specs.Lines.{Field}
use Rattle.bac_json.proofs.LineLemmas.{field_first, field_last, field_more}
use Rattle.bac_kept.proofs.json_lines.write_none.Goals as goal

pub returns-clause-tokens : goal.returns-clause-tokens
returns-clause-tokens c =
    let old = c.args.line.now.writer.tokens in
    let epoch : Field = (codes "epoch", null) in
    let number : Field = (codes "number", null) in
    let stamp : Field = (codes "stamp", null) in
    let value : Field = (codes "value", null) in
    let datum : Field = (codes "datum", null) in
    let one = field_first old c.none.new.self.writer.tokens epoch c.in_ok-none.ensures.tokens in
    let two = field_more old c.none.new.self.writer.tokens c.none-2.new.self.writer.tokens (epoch ∷ []) number one c.in_ok-none-2.ensures.tokens in
    let three = field_more old c.none-2.new.self.writer.tokens c.none-3.new.self.writer.tokens (epoch ∷ number ∷ []) stamp two c.in_ok-none-3.ensures.tokens in
    let four = field_more old c.none-3.new.self.writer.tokens c.none-4.new.self.writer.tokens (epoch ∷ number ∷ stamp ∷ []) value three c.in_ok-none-4.ensures.tokens in
    let five = field_more old c.none-4.new.self.writer.tokens c.none-5.new.self.writer.tokens (epoch ∷ number ∷ stamp ∷ value ∷ []) datum four c.in_ok-none-5.ensures.tokens in
    field_last c.none-6.result old c.none-5.new.self.writer.tokens c.none-6.new.self.writer.tokens (epoch ∷ number ∷ stamp ∷ value ∷ datum ∷ [])
    (codes "flags", null) five c.none-6.ensures.tokens
