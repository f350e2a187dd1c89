use Rattle.std.proofs.Common.{◌≡◌, false, rules}
use Rattle.std.specs.Float.{float_is_finite}
use Rattle.bac_json.specs.Lines.{IsFinite}
use Rattle.bac_json.proofs.LineLemmas.{not_finite, null_field}
use Rattle.bac_json.proofs.line.Line.number.Goals as goal

pub returns-clause-tokens : goal.returns-clause-tokens
returns-clause-tokens c =
    let infinite : float_is_finite c.args.real ≡ false = search rules in
    null_field c.none.result (IsFinite (float_is_finite c.args.real) c.args.real) c.args.key.now c.args.self.now.writer.tokens
    c.none.new.self.writer.tokens (not_finite c.args.real (float_is_finite c.args.real) infinite) c.none.ensures.tokens
