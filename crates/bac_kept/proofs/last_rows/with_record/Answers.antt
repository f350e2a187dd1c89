use Rattle.std.proofs.Common.{◌∙◌, ◌++◌, [], ◌∷◌, codes, refl}
use Rattle.bac_json.specs.Lines.{text_or_null}
use Rattle.bac_json.proofs.LineLemmas.{field_first, fields_more, line_ended}
use Rattle.bac_kept.specs.Json.{log_json, record_json}
use Rattle.bac_kept.specs.LastRows.{since_json}
use Rattle.bac_kept.specs.Shown.{told_of}
use Rattle.bac_kept.proofs.JsonLemmas.{if_ok_then}
use Rattle.bac_kept.proofs.last_rows.with_record.Goals as goal

pub returns : goal.returns
returns c =
    let log = log_json (told_of c.args.shown.now) in
    let item = c.item-item.result in
    let begun = c.in_ok-line.line.writer.tokens in
    let named = c.write_log.new.line.writer.tokens in
    let told = c.write_record.new.line.writer.tokens in
    let tokens = c.text_or_null.new.self.writer.tokens in
    let (value, is, its) = c.in_ok-write_record.ensures.tokens in
    let since = since_json c.args.silence.now in
    let more = field_first told tokens (codes "silent_since", text_or_null c.args.silence.now) c.in_ok-text_or_null.ensures.tokens in
    let both = fields_more named told tokens (record_json item value) since its more in
    let all = fields_more begun named tokens log (record_json item value ++ since) c.in_ok-write_log.ensures.tokens both in
    let before = c.text_or_null.ensures.before ∙ c.write_record.ensures.before ∙ c.write_log.ensures.before ∙ c.in_ok-line.ensures.before in
    if_ok_then c.end.result _ _ (line_ended c.end.result c.text_or_null.new.self.writer.before c.args.text.items begun tokens (log ++ (record_json item value ++ since))
    c.in_ok-line.ensures.tokens all before c.end.ensures)
    (λ text it. (_, (item, c.item-item.ensures.record, c.item-item.ensures.copy, value, is, refl), it))
