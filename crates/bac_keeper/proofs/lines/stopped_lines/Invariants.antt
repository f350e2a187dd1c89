use Rattle.std.proofs.Common.{◌≡◌, flat_map, take}
use Rattle.bac_keeper.specs.Lines.{stopped_line}
use Rattle.bac_keeper.proofs.lines.stopped_lines.Given as goal

abbrev pub invariant-loop-row : goal.invariant-loop-row
invariant-loop-row l = l.text.items ≡ flat_map (stopped_line l.devices) (take l.row-index l.rows)
