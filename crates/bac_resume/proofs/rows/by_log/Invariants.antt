use Rattle.std.proofs.Common.{◌≡◌, ℕ, ◌<◌, Some, map, slice_get}
use Rattle.bac_archive.specs.Put.{beginning_columns, item_columns}
use Rattle.bac_resume.specs.Rows.{told_of}
use Rattle.bac_resume.proofs.Rowed.{begun_of}
use Rattle.bac_resume.proofs.rows.by_log.Given as goal

-- so far each log has what the beginnings that were taken tell of it
abbrev pub invariant-loop-row : goal.invariant-loop-row
invariant-loop-row l = (log : ℕ) → log < l.logs → slice_get l.all.items log ≡ Some (begun_of (map beginning_columns l.yielded) log)

-- and the items that were taken
abbrev pub invariant-loop-item : goal.invariant-loop-item
invariant-loop-item l =
    (log : ℕ) → log < l.logs → slice_get l.all.items log ≡ Some (told_of (map beginning_columns l.fn.last.items) (map item_columns l.yielded) log)
