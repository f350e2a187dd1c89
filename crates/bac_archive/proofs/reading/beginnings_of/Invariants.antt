use Rattle.std.proofs.Common.{◌≡◌, map, take}
use Rattle.bac_archive.specs.Ask.{first}
use Rattle.bac_archive.specs.Put.{beginning_columns}
use Rattle.bac_archive.proofs.reading.beginnings_of.Given as goal

abbrev pub invariant-loop-row : goal.invariant-loop-row
invariant-loop-row l = map beginning_columns l.all.items ≡ map (first 3) (take l.row-index l.rows)
