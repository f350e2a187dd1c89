-- What is printed of the newest records of logs.
use Rattle.std.specs.Prelude.{◌≡◌, ℕ, List, [], ◌∷◌, ◌++◌, codes, decimal, Option}
use Rattle.std.specs.Prelude.{None, Some}
use Rattle.csv.specs.Writing.{default_writer, row_text}
use Rattle.bac_archive.specs.declared.items.Item.{Item}
use Rattle.bac_form.specs.declared.form.Form.{Form}
use Rattle.bac_form.specs.declared.form.Form.TheVariants.{Lines, Csv, Json}
use Rattle.bac_json.specs.Lines.{Field, IsReal, line_of, text_or_null}
use Rattle.json.specs.Json as json
use Rattle.bac_kept.specs.Json.{log_json, none_json, record_json}
use Rattle.bac_kept.specs.Csv.{IsValueText, item_fields, names, number_text, text_or_none}
use Rattle.bac_kept.specs.Heads.{place_text}
use Rattle.bac_kept.specs.Lasts.{found_of, last_logs}
use Rattle.bac_kept.specs.Records.{IsCopyOf}
use Rattle.bac_kept.specs.Shown.{Told}
use Rattle.bac_kept.specs.Silence.{answer_of, last_answer, silence, silence_end}
use Rattle.bac_kept.specs.declared.lasts.Found.{Found}
use Rattle.bac_kept.specs.declared.lasts.Lasts.{Lasts}
use Rattle.bac_kept.specs.declared.record.Record.{Record}
use Rattle.bac_kept.specs.declared.words.Words.{Words}

-- ---- in lines

-- the number of a record, its stamp and its datum
abbrev pub record_text : Option Record → List ℕ
record_text None = codes "no record"
record_text (Some r) = decimal r.number ++ (32 ∷ (r.stamp.items ++ (32 ∷ r.datum.items)))

-- the line of a log: where it is and its instance, its newest record, and since when its device is silent
unfoldable pub last_line : Told → Option Record → List ℕ → List ℕ
last_line told kept since = place_text told.device ++ (32 ∷ (decimal told.log.instance ++ (32 ∷ (record_text kept
    ++ (silence_end (answer_of told.device) since ++ 10 ∷ [])))))

-- ---- as CSV

-- the first row: that of records, and one column more
abbrev pub last_names_text : Form → List ℕ
last_names_text Lines = []
last_names_text Csv = row_text default_writer (names ++ codes "silent_since" ∷ [])
last_names_text Json = []

-- the fields of a log without a record
abbrev pub none_fields : Told → List ℕ → List (List ℕ)
none_fields told since =
    place_text told.device ∷ number_text told.device.instance ∷ decimal told.log.instance
    ∷ text_or_none told.log.name ∷ text_or_none told.log.source ∷ text_or_none told.log.units
    ∷ [] ∷ [] ∷ [] ∷ [] ∷ [] ∷ [] ∷ since ∷ []

-- the text of the row of a record: its fields, and since when its device is silent
abbrev pub IsRecordRow : Told → Record → List ℕ → List ℕ → Type 0
IsRecordRow told kept since text = (item : Item) × (item.last ≡ None) × IsCopyOf item kept
    × (value : List ℕ) × IsValueText item.value value
    × (text ≡ row_text default_writer (item_fields told item value ++ since ∷ []))

-- the text of the row of a log, with its newest record
abbrev pub IsLastRow : Told → Option Record → List ℕ → List ℕ → Type 0
IsLastRow told None since text = text ≡ row_text default_writer (none_fields told since)
IsLastRow told (Some kept) since text = IsRecordRow told kept since text

-- ---- as JSON

-- since when the device is silent
abbrev pub since_json : List ℕ → List Field
since_json since = (codes "silent_since", text_or_null since) ∷ []

-- the line of a record: its object, and since when its device is silent
abbrev pub IsRecordJson : Told → Record → List ℕ → List ℕ → Type 0
IsRecordJson told kept since text = (item : Item) × (item.last ≡ None) × IsCopyOf item kept
    × (value : json.Json) × IsReal item.value value
    × (text ≡ line_of (log_json told ++ (record_json item value ++ since_json since)))

-- the line of a log, with its newest record, or null in its place
abbrev pub IsLastJson : Told → Option Record → List ℕ → List ℕ → Type 0
IsLastJson told None since text = text ≡ line_of (log_json told ++ (none_json ++ since_json since))
IsLastJson told (Some kept) since text = IsRecordJson told kept since text

-- ---- in each form

-- the text of a log
abbrev pub IsLastText : Form → Told → Option Record → List ℕ → List ℕ → Type 0
IsLastText Lines told kept since text = text ≡ last_line told kept since
IsLastText Csv told kept since text = IsLastRow told kept since text
IsLastText Json told kept since text = IsLastJson told kept since text

-- the texts of logs, one after the other, where devices answered last at this moment
abbrev pub AreLastTexts : Form → List Found → Option (List ℕ) → List Told → List ℕ → Type 0
AreLastTexts form found last [] text = text ≡ []
AreLastTexts form found last (told ∷ more) text = (one : List ℕ) × (rest : List ℕ) × (text ≡ one ++ rest)
    × IsLastText form told (found_of found told.log.id) (silence last (answer_of told.device)) one
    × AreLastTexts form found last more rest

-- the text of the logs that are chosen and aren't stopped; as CSV behind the row of names
abbrev pub PrintsLasts : Words → Lasts → List ℕ → Type 0
PrintsLasts words lasts text = (rows : List ℕ) × (text ≡ last_names_text words.form ++ rows)
    × AreLastTexts words.form lasts.found.items (last_answer lasts.known.devices.items)
    (last_logs lasts.known words.choice) rows
