-- The rows of CSV.
use Rattle.std.specs.Prelude.{◌≡◌, ◌==◌, ℕ, Bool, true, false, if◌then◌else◌, List, [], ◌∷◌, ◌++◌, codes, decimal, map}
use Rattle.std.specs.Prelude.{Option}
use Rattle.std.specs.Prelude.{None, Some, String}
use Rattle.std.specs.Float.Ieee.{Float, binary64}
use Rattle.std.specs.String.{string_bytes}
use Rattle.ryu.specs.Parse.{parse_float}
use Rattle.bac_form.specs.declared.form.Form.{Form}
use Rattle.bac_form.specs.declared.form.Form.TheVariants.{Lines, Csv, Json}
use Rattle.csv.specs.Writing.{default_writer, row_text}
use Rattle.bac_archive.specs.declared.items.Item.{Item}
use Rattle.bac_kept.specs.Heads.{place_text}
use Rattle.bac_kept.specs.Lines.{doubt}
use Rattle.bac_kept.specs.Shown.{Told}
use Rattle.bac_kept.specs.declared.csv_rows.ItemFields.{ItemFields}
use Rattle.bac_kept.specs.declared.csv_rows.LogFields.{LogFields}

-- the first row
abbrev pub names : List (List ℕ)
names = codes "address" ∷ codes "device" ∷ codes "trend_log" ∷ codes "name" ∷ codes "source" ∷ codes "units"
    ∷ codes "epoch" ∷ codes "number" ∷ codes "stamp" ∷ codes "value" ∷ codes "datum" ∷ codes "flags" ∷ []

-- the first row stands before the logs as CSV alone
abbrev pub has_names : Form → Bool
has_names Lines = false
has_names Csv = true
has_names Json = false

-- what is written before the logs: the first row, or nothing
abbrev pub names_text : Bool → List ℕ
names_text wanted = if wanted then row_text default_writer names else []

-- in place of the datum of a gap its numbers, and behind them what that says
abbrev pub datum_field : ℕ → Option ℕ → List ℕ → List ℕ
datum_field number None datum = datum
datum_field number (Some last) datum = codes "gap " ++ (decimal number ++ (32 ∷ (decimal last ++ doubt datum)))

-- a flag as the letter T or F, and any other character as it is
abbrev pub letter : ℕ → ℕ
letter c = if c == 48 then 70 else (if c == 49 then 84 else c)

-- the flags of a record as letters, so that nobody takes them for a number
abbrev pub flags_field : List ℕ → List ℕ
flags_field flags = map letter flags

-- a text that reads back as this number, or none
abbrev pub IsValueText : Option Float → List ℕ → Type 0
IsValueText None text = text ≡ []
IsValueText (Some value) text = parse_float binary64 text ≡ Some value

-- the instance of a device, or nothing
abbrev pub number_text : Option ℕ → List ℕ
number_text None = []
number_text (Some number) = decimal number

-- a text, or nothing
abbrev pub text_or_none : {A : Type 0} → Option (String A) → List ℕ
text_or_none None = []
text_or_none (Some text) = string_bytes text

-- the texts of a log that stand in each of its rows
pub record AreFieldsOf (told : Told) (fields : LogFields) : Type 0 where
  pub address : fields.address.items ≡ place_text told.device
  pub device : fields.device.items ≡ number_text told.device.instance
  pub instance : fields.instance.items ≡ decimal told.log.instance
  pub name : fields.name.now ≡ text_or_none told.log.name
  pub source : fields.source.now ≡ text_or_none told.log.source
  pub units : fields.units.now ≡ text_or_none told.log.units

-- the texts of an item
pub record AreItemFields (item : Item) (fields : ItemFields) : Type 0 where
  pub epoch : fields.epoch.items ≡ decimal item.epoch
  pub number : fields.number.items ≡ decimal item.number
  pub value : IsValueText item.value fields.value.items
  pub datum : fields.datum.items ≡ datum_field item.number item.last item.datum.now
  pub flags : fields.flags.items ≡ flags_field item.flags.now

-- the fields of an item of a log, with the text of its value
abbrev pub item_fields : Told → Item → List ℕ → List (List ℕ)
item_fields told item value =
    place_text told.device ∷ number_text told.device.instance ∷ decimal told.log.instance
    ∷ text_or_none told.log.name ∷ text_or_none told.log.source ∷ text_or_none told.log.units
    ∷ decimal item.epoch ∷ decimal item.number ∷ item.stamp.now ∷ value
    ∷ datum_field item.number item.last item.datum.now ∷ flags_field item.flags.now ∷ []

-- the text of the row of an item: the fields of what it says, quoted as RFC 4180 quotes them, and a line feed
abbrev pub IsRow : Told → Item → List ℕ → Type 0
IsRow told item text = (value : List ℕ) × IsValueText item.value value
    × (text ≡ row_text default_writer (item_fields told item value))
