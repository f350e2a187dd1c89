use Rattle.std.proofs.Common.{◌≡◌, map, drop}
use Rattle.bac_command_line.specs.Rows.{instances_in}
use Rattle.bac_command_line.proofs.Gathering.{ahead}
use Rattle.bac_command_line.proofs.instances.instances_in.Given as goal

abbrev pub invariant-loop-text : goal.invariant-loop-text
invariant-loop-text l =
    instances_in (map (λ text. text.now) l.texts) ≡ ahead l.list.items (instances_in (map (λ text. text.now) (drop l.text-index l.texts)))
