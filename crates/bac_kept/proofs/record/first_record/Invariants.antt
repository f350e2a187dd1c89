use Rattle.std.proofs.Common.{◌≡◌, List, length}
use Rattle.std.specs.List.{AllByRecursion}
use Rattle.sqlite_value.specs.Order.{Row as Values}
use Rattle.sqlite.specs.State.{HasCleanDisk, IsUnchanged, Survives}
use Rattle.sqlite.specs.Held.{state}
use Rattle.bac_archive.specs.Items.{ReadsItems}
use Rattle.bac_archive.specs.Schema.{HasArchive}
use Rattle.bac_kept.specs.Records.{IsGap}
use Rattle.bac_kept.proofs.record.first_record.Given as goal

-- the rows that were given so far are gaps, and nothing is committed
abbrev pub invariant-rows : goal.invariant-rows
invariant-rows g l =
    let old = state g.A.Store l.fn.conn in
    let now = state g.A.Store l.rows.conn.now in
    (l.rows.conn.ghost_name ≡ l.initial.rows.conn.ghost_name) × (HasCleanDisk now → HasCleanDisk old)
    × (HasCleanDisk now → HasArchive old.now.schema
    → (given : List Values) × ReadsItems g.A.Store l.fn.range l.rows.conn.now given × IsUnchanged old now
    × AllByRecursion IsGap given × (length given ≡ l.read))
    × (HasArchive old.now.schema → Survives old now (λ _. ⊥))
