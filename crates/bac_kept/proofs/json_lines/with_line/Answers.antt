use Rattle.std.proofs.Common.{◌∙◌, ◌++◌, refl}
use Rattle.bac_json.proofs.LineLemmas.{fields_more, line_ended}
use Rattle.bac_kept.specs.Json.{log_json}
use Rattle.bac_kept.specs.Shown.{told_of}
use Rattle.bac_kept.proofs.JsonLemmas.{if_ok_then}
use Rattle.bac_kept.proofs.json_lines.with_line.Goals as goal

pub returns : goal.returns
returns c =
    let log = log_json (told_of c.args.shown.now) in
    let begun = c.in_ok-line.line.writer.tokens in
    let tokens = c.write_item.new.line.writer.tokens in
    let (fields, are, its) = c.in_ok-write_item.ensures.tokens in
    let all = fields_more begun c.write_log.new.line.writer.tokens tokens log fields c.in_ok-write_log.ensures.tokens its in
    let before = c.write_item.ensures.before ∙ c.write_log.ensures.before ∙ c.in_ok-line.ensures.before in
    if_ok_then c.end.result _ _ (line_ended c.end.result c.write_item.new.line.writer.before c.args.text.items begun tokens (log ++ fields)
    c.in_ok-line.ensures.tokens all before c.end.ensures)
    (λ text it. (_, (fields, are, refl), it))
