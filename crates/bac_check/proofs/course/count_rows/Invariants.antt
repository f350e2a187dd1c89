use Rattle.std.proofs.Common.{length, ◌≡◌, ◌++◌, List, map}
use Rattle.std.specs.List.{filter}
use Rattle.sqlite_value.specs.Order.{Row as Values}
use Rattle.sqlite.specs.State.{HasCleanDisk, IsUnchanged}
use Rattle.sqlite.specs.Held.{state}
use Rattle.bac_archive.specs.Items.{ReadsItems}
use Rattle.bac_archive.specs.Schema.{HasArchive}
use Rattle.bac_check.specs.Rows.{is_new, items_of, span_of}
use Rattle.bac_check.specs.Tallies.{IsTallied}
use Rattle.bac_check.specs.declared.tally.Span.{Span}
use Rattle.bac_check.proofs.CourseLemmas.{EndsIn}
use Rattle.bac_check.proofs.course.count_rows.Given as goal

-- the rows that were given so far are counted, and what was counted ends at one of them or where it did before
abbrev pub invariant-rows : goal.invariant-rows
invariant-rows g l =
    let old = state g.A.Store l.fn.conn in
    let now = state g.A.Store l.rows.conn.now in
    (l.rows.conn.ghost_name ≡ l.initial.rows.conn.ghost_name) × (HasCleanDisk now → HasCleanDisk old)
    × (HasCleanDisk now → HasArchive old.now.schema
    → (given : List Values) × ReadsItems g.A.Store (items_of l.fn.epoch) l.rows.conn.now given × IsUnchanged old now
    × ((before : List Span) → IsTallied before l.fn.tally → IsTallied (before ++ filter (is_new l.fn.behind) (map span_of given)) l.tally)
    × EndsIn l.fn.tally given l.tally × (length given ≡ l.read))
