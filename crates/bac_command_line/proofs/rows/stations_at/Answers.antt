use Rattle.std.proofs.Common.{ap, subst, unwrap_or, [], ◌∙◌}
use Rattle.clap.specs.Words.{all_of, rows_of, found_of}
use Rattle.clap.proofs.WalkLemmas.{raw_values-rows}
use Rattle.bac_command_line.specs.Rows.{stations_in}
use Rattle.bac_command_line.specs.Steps.{Makes}
use Rattle.bac_command_line.proofs.rows.stations_at.Goals as goal

pub returns-in-Some : goal.returns-in-Some
returns-in-Some c =
    let found = found_of c.args.matches.now in
    let same = c.in-Some.ensures ∙ raw_values-rows found c.name.result.now ∙ ap (λ id. all_of id (rows_of found)) c.name.ensures in
    subst (λ texts. Makes (stations_in (unwrap_or texts [])) c.stations_in.result) same c.stations_in.ensures

pub returns-in-None : goal.returns-in-None
returns-in-None c =
    let found = found_of c.args.matches.now in
    let same = c.in-None.ensures ∙ raw_values-rows found c.name.result.now ∙ ap (λ id. all_of id (rows_of found)) c.name.ensures in
    subst (λ texts. Makes (stations_in (unwrap_or texts [])) c.stations_in-in-None.result) same c.stations_in-in-None.ensures
