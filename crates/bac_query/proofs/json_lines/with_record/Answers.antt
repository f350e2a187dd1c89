use Rattle.std.proofs.Common.{◌∙◌}
use Rattle.bac_json.proofs.LineLemmas.{line_ended}
use Rattle.bac_query.specs.Json.{record_json}
use Rattle.bac_query.proofs.Rows.{if_ok_then}
use Rattle.bac_query.proofs.json_lines.with_record.Goals as goal

pub returns : goal.returns
returns c =
    let (value, is, its) = c.in_ok-write_record.ensures.tokens in
    if_ok_then c.end.result _ _ (line_ended c.end.result c.write_record.new.line.writer.before c.args.text.items c.in_ok-line.line.writer.tokens c.write_record.new.line.writer.tokens
    (record_json c.args.number c.args.entry.now value) c.in_ok-line.ensures.tokens its (c.write_record.ensures.before ∙ c.in_ok-line.ensures.before) c.end.ensures)
    (λ text it. (value, is, it))
