use Rattle.bac_json.proofs.LineLemmas.{ended_line}
use Rattle.bac_json.proofs.line.Line.end.Goals as goal

pub returns : goal.returns
returns c = ended_line c.closed.result c.args.self c.closed.ensures
