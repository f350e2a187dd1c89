use Rattle.std.proofs.Common.{ap, ◌∙◌}
use Rattle.clap.specs.Words.{first_of, rows_of, found_of}
use Rattle.clap.proofs.WalkLemmas.{first_value-rows}
use Rattle.bac_command_line.proofs.rows.text.Goals as goal

pub returns : goal.returns
returns c =
    c.get_str.ensures ∙ first_value-rows (found_of c.args.matches.now) c.name.result.now
    ∙ ap (λ id. first_of id (rows_of (found_of c.args.matches.now))) c.name.ensures
