use Rattle.std.proofs.Common.{◌≡◌, ◌++◌, flat_map, take}
use Rattle.std.specs.List.{list_all}
use Rattle.bac_check.specs.Lines.{is_all_there, lines_of}
use Rattle.bac_check.proofs.lines.push_each.Given as goal

-- the lines of the logs so far, and whether nothing is missing of them
abbrev pub invariant-loop-log : goal.invariant-loop-log
invariant-loop-log l = (l.text.items ≡ l.fn.text.items ++ flat_map (lines_of l.counts) (take l.log-index l.logs))
    × (l.whole ≡ list_all (is_all_there l.counts) (take l.log-index l.logs))
