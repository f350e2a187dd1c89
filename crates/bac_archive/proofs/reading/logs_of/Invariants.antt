use Rattle.std.proofs.Common.{◌≡◌, map, take}
use Rattle.bac_archive.specs.Ask.{first}
use Rattle.bac_archive.specs.Put.{log_columns}
use Rattle.bac_archive.proofs.reading.logs_of.Given as goal

abbrev pub invariant-loop-row : goal.invariant-loop-row
invariant-loop-row l = map log_columns l.all.items ≡ map (first 10) (take l.row-index l.rows)
