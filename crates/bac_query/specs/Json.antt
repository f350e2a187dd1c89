-- The lines of `bac log --json`: an object for each record and each gap, under the names of the CSV's columns.
use Rattle.std.specs.Prelude.{◌≡◌, ℕ, List, [], ◌∷◌, codes}
use Rattle.json.specs.Json.{Json}
use Rattle.bac_json.specs.Lines.{Field, IsReal, line_of, text, whole}
use Rattle.bac_log.specs.declared.entry.Entry.{Entry}
use Rattle.bac_link.specs.declared.item.Item.{Item}
use Rattle.bac_link.specs.declared.item.Item.TheVariants.{Gap, Logged}
use Rattle.bac_print.specs.Entries.{datum_text, flags_text}
use Rattle.bac_query.specs.Items.{number_before}
use Rattle.bac_query.specs.Rows.{AreTexts, stamp_text}
use Rattle.bac_values.specs.Numbers.{value_of}

-- a record: its number is null where it has none that JSON has
abbrev pub record_json : ℕ → Entry → Json → List Field
record_json number entry value =
    (codes "number", whole number) ∷ (codes "stamp", text (stamp_text entry)) ∷ (codes "value", value)
    ∷ (codes "datum", text (datum_text entry.datum)) ∷ (codes "flags", text (flags_text entry.flags)) ∷ []

-- a gap: the first of the numbers that are missing, and the last
abbrev pub gap_json : ℕ → ℕ → List Field
gap_json first last = (codes "first", whole first) ∷ (codes "last", whole last) ∷ []

-- the line of an item
abbrev pub IsJson : Item → List ℕ → Type 0
IsJson (Gap first before) line = line ≡ line_of (gap_json first (number_before before))
IsJson (Logged number entry) line =
    (value : Json) × IsReal (value_of entry.datum) value × (line ≡ line_of (record_json number entry value))

-- a line for each item, one after the other
abbrev pub AreJson : List Item → List ℕ → Type 0
AreJson = AreTexts IsJson
