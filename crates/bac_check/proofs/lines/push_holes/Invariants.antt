use Rattle.std.proofs.Common.{◌≡◌, ◌++◌, flat_map, take}
use Rattle.bac_check.specs.Lines.{hole_line}
use Rattle.bac_check.proofs.lines.push_holes.Given as goal

-- the lines of the holes so far
abbrev pub invariant-loop-hole : goal.invariant-loop-hole
invariant-loop-hole l = l.text.items ≡ l.fn.text.items ++ flat_map hole_line (take l.hole-index l.holes)
