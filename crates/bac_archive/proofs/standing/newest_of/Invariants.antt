use Rattle.std.proofs.Common.{◌≡◌, List, [], length}
use Rattle.sqlite_value.specs.Order.{Row as Values}
use Rattle.sqlite.specs.State.{HasCleanDisk, IsUnchanged, Survives}
use Rattle.sqlite.specs.Held.{state}
use Rattle.sqlite.specs.Given.{HasGiven}
use Rattle.bac_archive.specs.Ask.{asked, first}
use Rattle.bac_archive.specs.Put.{item_columns}
use Rattle.bac_archive.specs.Read.{numbers}
use Rattle.bac_archive.specs.Stands.{is_last}
use Rattle.bac_archive.specs.declared.asking.Question.TheVariants.{Items}
use Rattle.bac_archive.proofs.NewestLemmas.{Told}
use Rattle.bac_archive.proofs.standing.newest_of.Given as goal

abbrev pub invariant-rows : goal.invariant-rows
invariant-rows g l =
    let old = state g.S.Store l.fn.conn in
    let now = state g.S.Store l.rows.conn.now in
    (l.rows.conn.ghost_name ≡ l.initial.rows.conn.ghost_name) × Survives old now (λ _. ⊥)
    × (HasCleanDisk now → ((given : List Values) × HasGiven g.S.Store (asked Items) [] l.rows.conn.now given
    × Told numbers 3 (is_last l.last) item_columns (first 6) given l.found × (length given ≡ l.read)) × IsUnchanged old now)
