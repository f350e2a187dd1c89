use Rattle.std.proofs.Common.{◌≡◌, List, length}
use Rattle.std.specs.Io.KnownBytes.{Appends}
use Rattle.sqlite_value.specs.Order.{Row as Values}
use Rattle.sqlite.specs.State.{HasCleanDisk, IsUnchanged, Survives}
use Rattle.sqlite.specs.Held.{state}
use Rattle.bac_archive.specs.Items.{ReadsItems}
use Rattle.bac_archive.specs.Schema.{HasArchive}
use Rattle.bac_kept.specs.Items.{HasPrinted}
use Rattle.bac_kept.proofs.items.print_rows.Given as goal

-- the rows of the items that were given so far are printed, and nothing is committed
abbrev pub invariant-rows : goal.invariant-rows
invariant-rows g l =
    let old = state g.A.Store l.fn.conn in
    let now = state g.A.Store l.rows.conn.now in
    (l.rows.conn.ghost_name ≡ l.initial.rows.conn.ghost_name) × (HasCleanDisk now → HasCleanDisk old)
    × (HasCleanDisk now → HasArchive old.now.schema
    → (given : List Values) × ReadsItems g.A.Store l.fn.range l.rows.conn.now given × IsUnchanged old now
    × (text : List _) × HasPrinted l.fn.style l.fn.behind given text l.progress
    × Appends (g.O.Write.contents l.fn.output) (g.O.Write.contents l.output) text × (length given ≡ l.read))
    × (HasArchive old.now.schema → Survives old now (λ _. ⊥))
