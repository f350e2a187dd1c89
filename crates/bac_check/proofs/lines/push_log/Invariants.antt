use Rattle.std.proofs.Common.{◌≡◌, ◌++◌, flat_map, take}
use Rattle.std.specs.List.{list_all}
use Rattle.bac_check.specs.Lines.{is_whole, text_in}
use Rattle.bac_check.proofs.lines.push_log.Given as goal

-- the lines of the epochs so far, and whether nothing is missing of them
abbrev pub invariant-loop-course : goal.invariant-loop-course
invariant-loop-course l = (l.text.items ≡ l.fn.text.items ++ flat_map (text_in l.name l.log l.courses) (take l.course-index l.courses))
    × (l.whole ≡ list_all (is_whole l.log l.courses) (take l.course-index l.courses))
