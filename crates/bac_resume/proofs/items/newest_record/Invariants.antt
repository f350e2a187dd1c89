use Rattle.std.proofs.Common.{◌≡◌, drop, map}
use Rattle.bac_archive.specs.Put.{item_columns}
use Rattle.bac_resume.specs.Stands.{newest_record}
use Rattle.bac_resume.proofs.items.newest_record.Given as goal

-- those so far are gaps
abbrev pub invariant-loop-item : goal.invariant-loop-item
invariant-loop-item l = newest_record (map item_columns (drop l.item-index l.items)) ≡ newest_record (map item_columns l.items)
