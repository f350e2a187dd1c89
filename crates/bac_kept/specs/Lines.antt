-- The lines of items.
use Rattle.std.specs.Prelude.{ℕ, ◌==◌, ◌+◌, ◌*◌, if◌then◌else◌, List, [], ◌∷◌, ◌++◌, codes, decimal}
use Rattle.std.specs.Prelude.{Option, None, Some, find}
use Rattle.std.specs.String.{string_bytes}
use Rattle.sqlite_value.specs.Order.{Row as Values, column}
use Rattle.bac_archive.specs.Items.{epoch_in, last_at, number_in, text_at}
use Rattle.bac_archive.specs.Stands.{epochs}
use Rattle.bac_archive.specs.declared.row.BeginningRow.{BeginningRow}
use Rattle.bac_kept.specs.Shown.{Told}

-- behind the numbers of a gap that may be none what its datum says
abbrev pub doubt : List ℕ → List ℕ
doubt [] = []
doubt (c ∷ datum) = 32 ∷ (c ∷ datum)

-- the line of an item: a gap up to its last number, or a record with its stamp, datum and flags
unfoldable pub item_line : ℕ → Option ℕ → List ℕ → List ℕ → List ℕ → List ℕ
item_line number (Some last) stamp datum flags =
    codes "gap " ++ (decimal number ++ (32 ∷ (decimal last ++ (doubt datum ++ 10 ∷ []))))
item_line number None stamp datum flags =
    decimal number ++ (32 ∷ (stamp ++ (32 ∷ (datum ++ (32 ∷ (flags ++ 10 ∷ []))))))

-- the line of a row of items
abbrev pub row_line : Values → List ℕ
row_line row =
    let text = λ (at : ℕ). text_at (column row at) in
    item_line (number_in row) (last_at (column row 1)) (text 2) (text 4) (text 5)

-- why an epoch begins, as its beginning says it, or `began anew`
abbrev pub why_of : Option BeginningRow → List ℕ
why_of None = codes "began anew"
why_of (Some b) = elim b.why [ None ↦ codes "began anew" | Some text ↦ string_bytes text ]

-- the same of the epoch of a log, by the id of its beginning
abbrev pub why_in : Told → ℕ → List ℕ
why_in told epoch = why_of (find (λ b. b.id == told.log.id * epochs + epoch) told.beginnings)

-- why an epoch begins, if an item of another one is before
unfoldable pub anew_if : Told → Option ℕ → ℕ → List ℕ
anew_if told None epoch = []
anew_if told (Some before) epoch = if before == epoch then [] else why_in told epoch ++ 10 ∷ []

-- the lines of a row, behind an item of this epoch
abbrev pub row_lines : Told → Option ℕ → Values → List ℕ
row_lines told before row = anew_if told before (epoch_in row) ++ row_line row

-- the lines of rows, one after the other
abbrev pub rows_lines : Told → Option ℕ → List Values → List ℕ
rows_lines told before [] = []
rows_lines told before (row ∷ rows) = row_lines told before row ++ rows_lines told (Some (epoch_in row)) rows
