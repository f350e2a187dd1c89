-- What `bac check` means that ends with 0, and what it prints then. Read `FindsEach`; of one file, `IsWhole`.
use Rattle.std.specs.Prelude.{◌≡◌, ℕ, List, map, None, Ok}
use Rattle.std.specs.List.{Contains}
use Rattle.sqlite_value.specs.Order.{Row as Columns}
use Rattle.sqlite.specs.Effect.{Database}
use Rattle.bac_archive.specs.Archive.{IsArchive}
use Rattle.bac_archive.specs.Items.{AreItems}
use Rattle.bac_archive.specs.Known.{IsKnown}
use Rattle.bac_archive.specs.declared.known.Known.{Known}
use Rattle.bac_archive.specs.declared.row.BeginningRow.{BeginningRow}
use Rattle.bac_archive.specs.declared.row.LogRow.{LogRow}
use Rattle.bac_check.specs.Joins.{log_of}
use Rattle.bac_check.specs.Rows.{items_of, span_of}
use Rattle.bac_check.specs.Whole.{HasEach}
use Rattle.bac_files.specs.Parts.{Listing, PartRules, Reading}
use Rattle.bac_print.specs.Output.{Held}
use Rattle.bac_reading.specs.Laws.{CountsEach}
use Rattle.bac_reading.specs.Listing.{is_folder, newest_of, parts_of}
use Rattle.bac_reading.specs.Taking.{IsClean}

-- ---- of a file or a folder

-- The archive of this name is a file, or a folder of parts: each is one, but the newest of several, which may have
-- nothing, and goes on where the part before it ends. Its rows are counted, no number is missing, and what is counted
-- is printed.
abbrev pub FindsEach : {Q : Type 0} → PartRules Q → List ℕ → (before after : Held) → (p q : Q) → Type 0
FindsEach {Q = Q} rules name before after p q =
    (listing : Listing) × (listed : Q) × rules.lists p name listing listed
    × (paths : List (List ℕ)) × (parts_of name listing ≡ Ok paths)
    × CountsEach rules (newest_of 2 (is_folder listing) paths) paths before after listed q

-- ---- of a file

-- Of an epoch each number is in one row, and in no other: from the one at which it began up to the last that is in a
-- row.
abbrev pub HasEachNumber : Database → BeginningRow → Type 0
HasEachNumber db b = (rows : List Columns) × AreItems (items_of b.id) (db.trees 5) rows
    × HasEach b.number (map span_of rows)

-- A database is an archive, and of each epoch that has begun of each log that is on record each number is there.
abbrev pub IsWhole : Database → Type 0
IsWhole db = IsArchive db × (known : Known) × IsKnown db.trees known
    × ((log : LogRow) (b : BeginningRow) → Contains known.logs.items log → Contains known.beginnings.items b
    → log_of b.id ≡ log.id → HasEachNumber db b)

-- if the archive of this name is a file, that is whole
abbrev pub FindsWhole : {Q : Type 0} → PartRules Q → List ℕ → Q → Q → Type 0
FindsWhole {Q = Q} rules name p q =
    (listing : Listing) × (listed : Q) × rules.lists p name listing listed
    × (listing ≡ Ok None → (found : Reading) × rules.holds listed name found q × (IsClean found → IsWhole found.found))
