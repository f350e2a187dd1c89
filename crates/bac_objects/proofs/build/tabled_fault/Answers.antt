use Rattle.std.proofs.Common.{◌≡◌, [], rules}
use Rattle.bac_objects.proofs.build.tabled_fault.Goals as goal

pub returns : goal.returns
returns c =
    let no_ids : c.in_ok-ids.ids.keys ≡ [] = search rules in
    let no_names : c.in_ok-names.names.keys ≡ [] = search rules in
    c.looked_up_fault.ensures no_ids no_names
