use Rattle.std.proofs.Common.{refl, subst, sym}
use Rattle.json.specs.Json as json
use Rattle.bac_json.specs.Lines.{IsReal}
use Rattle.bac_json.proofs.LineLemmas.{null_field}
use Rattle.bac_json.proofs.line.Line.real.Goals as goal

pub returns-in-None-clause-tokens : goal.returns-in-None-clause-tokens
returns-in-None-clause-tokens c =
    null_field c.none.result (IsReal c.args.real) c.args.key.now c.args.self.now.writer.tokens
    c.none.new.self.writer.tokens (subst (λ r. IsReal r json.null) (sym c.in-None.is) refl) c.none.ensures.tokens
