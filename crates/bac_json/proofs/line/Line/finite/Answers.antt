use Rattle.bac_json.proofs.LineLemmas.{number_field}
use Rattle.bac_json.proofs.line.Line.finite.Goals as goal

pub returns-clause-tokens : goal.returns-clause-tokens
returns-clause-tokens c =
    number_field c.float.result c.args.real c.args.key.now c.args.self.now.writer.tokens c.key.new.self.tokens c.float.new.self.tokens
    c.in_ok-key.ensures.ok c.float.ensures.ok
