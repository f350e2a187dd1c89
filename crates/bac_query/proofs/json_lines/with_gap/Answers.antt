use Rattle.std.proofs.Common.{◌∙◌, [], ◌∷◌, codes}
use Rattle.bac_json.specs.Lines.{Field, whole}
use Rattle.bac_json.proofs.LineLemmas.{field_first, field_more, line_ended}
use Rattle.bac_query.specs.Json.{gap_json}
use Rattle.bac_query.proofs.json_lines.with_gap.Goals as goal

pub returns : goal.returns
returns c =
    let begun = c.in_ok-line.line.writer.tokens in
    let first : Field = (codes "first", whole c.args.first) in
    let one = field_first begun c.whole.new.self.writer.tokens first (rw c.from.ensures at c.in_ok-whole.ensures.tokens) in
    let two = field_more begun c.whole.new.self.writer.tokens c.whole-2.new.self.writer.tokens (first ∷ []) (codes "last", whole c.args.last) one
    (rw c.from-2.ensures at c.in_ok-whole-2.ensures.tokens) in
    line_ended c.end.result c.whole-2.new.self.writer.before c.args.text.items begun c.whole-2.new.self.writer.tokens (gap_json c.args.first c.args.last)
    c.in_ok-line.ensures.tokens two (c.whole-2.ensures.before ∙ c.whole.ensures.before ∙ c.in_ok-line.ensures.before) c.end.ensures
