use Rattle.std.proofs.Common.{[], ◌∷◌, codes}
use Rattle.json.specs.Json.{boolean}
use Rattle.bac_json.specs.Lines.{Field, whole}
use Rattle.bac_json.proofs.LineLemmas.{field_first, field_last, field_more}
use Rattle.bac_kept.specs.Json.{is_doubtful}
use Rattle.bac_kept.proofs.json_lines.write_gap.Goals as goal

pub returns-clause-tokens : goal.returns-clause-tokens
returns-clause-tokens c =
    let item = c.args.item.now in
    let old = c.args.line.now.writer.tokens in
    let epoch : Field = (codes "epoch", whole item.epoch) in
    let first : Field = (codes "first", whole item.number) in
    let last : Field = (codes "last", whole c.args.last) in
    let one = field_first old c.whole.new.self.writer.tokens epoch (rw c.from.ensures at c.in_ok-whole.ensures.tokens) in
    let two = field_more old c.whole.new.self.writer.tokens c.whole-2.new.self.writer.tokens (epoch ∷ []) first one (rw c.from-2.ensures at c.in_ok-whole-2.ensures.tokens) in
    let three = field_more old c.whole-2.new.self.writer.tokens c.whole-3.new.self.writer.tokens (epoch ∷ first ∷ []) last two (rw c.from-3.ensures at c.in_ok-whole-3.ensures.tokens) in
    field_last c.flag.result old c.whole-3.new.self.writer.tokens c.flag.new.self.writer.tokens (epoch ∷ first ∷ last ∷ [])
    (codes "doubtful", boolean (is_doubtful item.datum.now)) three (rw c.is_doubtful.ensures at c.flag.ensures.tokens)
