-- The rows of `bac log --csv` (RFC 4180).
use Rattle.std.specs.Prelude.{◌≡◌, ℕ, true, false, List, [], ◌∷◌, ◌++◌, codes, decimal, Option, None, Some}
use Rattle.std.specs.Float.Ieee.{Float, binary64, is_nan}
use Rattle.ryu.specs.Parse.{parse_float}
use Rattle.csv.specs.Writing.{default_writer, row_text}
use Rattle.bac_wire.specs.Stamp.{date_octets, time_octets}
use Rattle.bac_log.specs.declared.entry.Entry.{Entry}
use Rattle.bac_link.specs.declared.item.Item.{Item}
use Rattle.bac_link.specs.declared.item.Item.TheVariants.{Gap, Logged}
use Rattle.bac_print.specs.Entries.{datum_text, flags_text}
use Rattle.bac_print.specs.Moments.{day_text, time_text}
use Rattle.bac_query.specs.Items.{number_before}
use Rattle.bac_values.specs.Numbers.{value_of}

-- the first row
abbrev pub names_row : List ℕ
names_row = row_text default_writer
    (codes "number" ∷ codes "stamp" ∷ codes "value" ∷ codes "datum" ∷ codes "flags" ∷ [])

-- the date and time of a record, as its line has them
abbrev pub stamp_text : Entry → List ℕ
stamp_text entry = day_text (date_octets entry.date) ++ (84 ∷ time_text (time_octets entry.time))

-- in place of the datum of a gap the first of the numbers that are missing, and the last
abbrev pub gap_text : ℕ → ℕ → List ℕ
gap_text first last = codes "gap " ++ (decimal first ++ (32 ∷ decimal last))

-- a text that reads back as this number; nothing where there is none, or it is no number
abbrev pub IsValueText : Option Float → List ℕ → Type 0
IsValueText None text = text ≡ []
IsValueText (Some value) text =
    (is_nan value ≡ true → text ≡ []) × (is_nan value ≡ false → parse_float binary64 text ≡ Some value)

-- the fields of an item: its number, of a gap the first; stamp, value, datum and flags
abbrev pub AreFields : Item → List (List ℕ) → Type 0
AreFields (Gap first before) fields =
    fields ≡ decimal first ∷ [] ∷ [] ∷ gap_text first (number_before before) ∷ [] ∷ []
AreFields (Logged number entry) fields =
    (value : List ℕ) × IsValueText (value_of entry.datum) value
    × (fields ≡ decimal number ∷ stamp_text entry ∷ value ∷ datum_text entry.datum ∷ flags_text entry.flags ∷ [])

-- the row of an item: its fields, quoted as RFC 4180 quotes them, and a line feed
abbrev pub IsRow : Item → List ℕ → Type 0
IsRow item row = (fields : List (List ℕ)) × AreFields item fields × (row ≡ row_text default_writer fields)

-- such a text for each item, one after the other
abbrev pub AreTexts : (Item → List ℕ → Type 0) → List Item → List ℕ → Type 0
AreTexts is [] text = text ≡ []
AreTexts is (item ∷ items) text =
    (one : List ℕ) × (rest : List ℕ) × (text ≡ one ++ rest) × is item one × AreTexts is items rest

-- a row for each
abbrev pub AreRows : List Item → List ℕ → Type 0
AreRows = AreTexts IsRow
