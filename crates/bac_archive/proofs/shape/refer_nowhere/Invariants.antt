use Rattle.std.proofs.Common.{take, All}
use Rattle.bac_archive.specs.Schema.{RefersNowhere}
use Rattle.bac_archive.proofs.shape.refer_nowhere.Given as goal

abbrev pub invariant-loop-table : goal.invariant-loop-table
invariant-loop-table l = All RefersNowhere (take l.table-index l.tables)
