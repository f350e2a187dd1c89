use Rattle.std.proofs.Common.{◌≡◌, map, take}
use Rattle.bac_answers.specs.declared.entry.Entry.TheVariants.{Added}
use Rattle.bac_answers.proofs.listing.added.Given as goal

-- the logs so far are told
abbrev pub invariant-loop-log : goal.invariant-loop-log
invariant-loop-log l = l.entries.items ≡ map Added (take l.log-index l.logs)
