use Rattle.std.proofs.Common.{◌≡◌, ap, subst, unwrap_or, IfOk, [], ◌∙◌}
use Rattle.clap.specs.Words.{all_of, rows_of, found_of}
use Rattle.bac_command_line.specs.Groups.{group_at, groups_from}
use Rattle.clap.proofs.WalkLemmas.{raw_values-rows}
use Rattle.bac_command_line.proofs.keeping.groups_behind.Goals as goal

pub returns-in-Some : goal.returns-in-Some
returns-in-Some c =
    let found = found_of c.args.matches.now in
    let same = c.in-Some.ensures ∙ raw_values-rows found c.name.result.now ∙ ap (λ id. all_of id (rows_of found)) c.name.ensures in
    subst (λ texts. IfOk c.groups_of.result (λ groups. groups ≡ groups_from (group_at c.args.address.now) (unwrap_or texts []))) same c.groups_of.ensures

pub returns-in-None : goal.returns-in-None
returns-in-None c =
    let found = found_of c.args.matches.now in
    let same = c.in-None.ensures ∙ raw_values-rows found c.name.result.now ∙ ap (λ id. all_of id (rows_of found)) c.name.ensures in
    subst (λ texts. IfOk c.groups_of-in-None.result (λ groups. groups ≡ groups_from (group_at c.args.address.now) (unwrap_or texts []))) same c.groups_of-in-None.ensures
