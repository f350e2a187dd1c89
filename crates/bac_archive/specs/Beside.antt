-- What may stand beside an archive.
use Rattle.std.specs.Prelude.{◌≡◌, ◌↔◌, true, false}
use Rattle.sqlite_schema.specs.declared.schema.Table.{Table}
use Rattle.sqlite_schema.specs.declared.schema.Index.{Index}
use Rattle.sqlite_schema.specs.declared.schema.View.{View}
use Rattle.sqlite_schema.specs.declared.schema.Schema.{Schema}
use Rattle.sqlite_catalog.specs.Change.{with_table, with_index, with_view}
use Rattle.bac_archive.specs.Schema.{HasArchive, RefersNowhere, lets_in}

-- A schema of an archive is one still with a table more exactly if that has no foreign key; with an index more exactly
-- if that lets the archive's rows in; and with a view more exactly if that is no trigger.
abbrev pub StandBeside : Type 0
StandBeside = (s : Schema) → HasArchive s
    → ((t : Table) → HasArchive (with_table s t) ↔ RefersNowhere t)
    × (((i : Index) → HasArchive (with_index s i) ↔ (lets_in i ≡ true))
    × ((v : View) → HasArchive (with_view s v) ↔ (v.binds ≡ false)))
