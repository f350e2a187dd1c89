use Rattle.std.proofs.Common.{◌≡◌, ◌++◌, map, drop}
use Rattle.bac_command_line.specs.Groups.{group_at, groups_from}
use Rattle.bac_command_line.proofs.keeping.groups_of.Given as goal

-- the groups so far, and what the one that has begun comes to with the words that are left
abbrev pub invariant-loop-word : goal.invariant-loop-word
invariant-loop-word l =
    groups_from (group_at l.address) (map (λ word. word.now) l.words)
    ≡ l.list.items ++ groups_from l.group (map (λ word. word.now) (drop l.word-index l.words))
