-- The lines of JSON: an object for each record and each gap, under the names of the CSV's columns and, of a gap, of the
-- view `gaps`.
use Rattle.std.specs.Prelude.{◌≡◌, ℕ, Bool, true, false, List, [], ◌∷◌, ◌++◌, codes, Option, None, Some}
use Rattle.json.specs.Json.{Json, boolean, null}
use Rattle.bac_archive.specs.declared.items.Item.{Item}
use Rattle.bac_json.specs.Lines.{Field, IsReal, line_of, text, text_or_null, whole, whole_or_null}
use Rattle.bac_kept.specs.Csv.{flags_field, text_or_none}
use Rattle.bac_kept.specs.Heads.{place_text}
use Rattle.bac_kept.specs.Shown.{Told}

-- what each line of a log has
abbrev pub log_json : Told → List Field
log_json told =
    (codes "address", text (place_text told.device)) ∷ (codes "device", whole_or_null told.device.instance)
    ∷ (codes "trend_log", whole told.log.instance) ∷ (codes "name", text_or_null (text_or_none told.log.name))
    ∷ (codes "source", text_or_null (text_or_none told.log.source))
    ∷ (codes "units", text_or_null (text_or_none told.log.units)) ∷ []

-- a record: its number is null where it has none that JSON has
abbrev pub record_json : Item → Json → List Field
record_json item value =
    (codes "epoch", whole item.epoch) ∷ (codes "number", whole item.number)
    ∷ (codes "stamp", text_or_null item.stamp.now) ∷ (codes "value", value)
    ∷ (codes "datum", text_or_null item.datum.now)
    ∷ (codes "flags", text_or_null (flags_field item.flags.now)) ∷ []

-- the datum of a gap tells that it may be none
abbrev pub is_doubtful : List ℕ → Bool
is_doubtful [] = false
is_doubtful (octet ∷ datum) = true

-- a gap: its first and its last number, and whether it may be none
abbrev pub gap_json : Item → ℕ → List Field
gap_json item last =
    (codes "epoch", whole item.epoch) ∷ (codes "first", whole item.number) ∷ (codes "last", whole last)
    ∷ (codes "doubtful", boolean (is_doubtful item.datum.now)) ∷ []

-- either of them
abbrev pub AreOfItem : Item → Option ℕ → List Field → Type 0
AreOfItem item None fields = (value : Json) × IsReal item.value value × (fields ≡ record_json item value)
AreOfItem item (Some last) fields = fields ≡ gap_json item last

-- the line of an item
abbrev pub IsJson : Told → Item → List ℕ → Type 0
IsJson told item text = (fields : List Field) × AreOfItem item item.last fields
    × (text ≡ line_of (log_json told ++ fields))

-- no record of a log
abbrev pub none_json : List Field
none_json =
    (codes "epoch", null) ∷ (codes "number", null) ∷ (codes "stamp", null) ∷ (codes "value", null)
    ∷ (codes "datum", null) ∷ (codes "flags", null) ∷ []
