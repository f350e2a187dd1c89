-- The lines of what a walk of a trend log delivers.
use Rattle.std.specs.Prelude.{ℕ, ◌-◌, ◌==◌, if◌then◌else◌, List, [], ◌∷◌, ◌++◌}
use Rattle.bac_link.specs.declared.item.Item.{Item}
use Rattle.bac_link.specs.declared.item.Item.TheVariants.{Gap, Logged}
use Rattle.bac_print.specs.Entries.{gap_line, record_line}

-- the number before another: before 1 comes 4294967295
abbrev pub number_before : ℕ → ℕ
number_before n = if n == 1 then 4294967295 else n - 1

-- a record with its number; of a gap the first and the last of the numbers that are missing
abbrev pub item_line : Item → List ℕ
item_line (Gap first before) = gap_line first (number_before before)
item_line (Logged number entry) = record_line number entry

-- one line after the other
abbrev pub items_text : List Item → List ℕ
items_text [] = []
items_text (item ∷ items) = item_line item ++ items_text items
