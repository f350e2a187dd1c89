-- What is printed of the items of a log.
use Rattle.std.specs.Prelude.{◌≡◌, ◌⊎◌, ◌&&◌, not, is_some, if◌then◌else◌, ℕ, pos, Bool, true, false}
use Rattle.std.specs.Prelude.{List, [], ◌∷◌, ◌++◌, Option, None, Some}
use Rattle.std.specs.List.{filter, list_any}
use Rattle.sqlite_value.specs.Order.{Row as Values, column}
use Rattle.bac_archive.specs.Items.{AreFirst, AreItems, IsItem, epoch_in, id_of, last_at}
use Rattle.bac_archive.specs.declared.items.Item.{Item}
use Rattle.bac_archive.specs.declared.items.Range.{Range}
use Rattle.bac_archive.specs.declared.items.Range.TheVariants.{Oldest, Dated}
use Rattle.bac_print.specs.Output.{AppendsPart, Held}
use Rattle.bac_form.specs.declared.form.Form.{Form}
use Rattle.bac_form.specs.declared.form.Form.TheVariants.{Lines, Csv, Json}
use Rattle.bac_kept.specs.Csv.{IsRow}
use Rattle.bac_kept.specs.Json.{IsJson}
use Rattle.bac_kept.specs.Lines.{anew_if, item_line, row_lines}
use Rattle.bac_kept.specs.Seen.{epoch_of, is_new, newest_of}
use Rattle.bac_kept.specs.Shown.{Told, told_of}
use Rattle.bac_kept.specs.declared.items.Progress.{Progress}
use Rattle.bac_kept.specs.declared.items.Style.{Style}
use Rattle.bac_kept.specs.declared.seen.Newest.{Newest}
use Rattle.bac_kept.specs.declared.words.Dates.{Dates}
use Rattle.bac_kept.specs.declared.words.Words.{Words}

-- ---- which items

-- the items of a log; of dates the records that have them, and each gap
abbrev pub range_of : ℕ → Option Dates → Range
range_of log None = Oldest (pos (id_of log 0 0)) (pos (id_of log 32767 4294967295))
range_of log (Some dates) =
    Dated (pos (id_of log 0 0)) (pos (id_of log 32767 4294967295)) dates.since dates.before

-- where dates are named, a gap is shown between two records alone
abbrev pub waits : Bool → Values → Bool
waits dated row = dated && is_some (last_at (column row 1))

-- one of these rows is shown by itself
abbrev pub has_sure : Bool → List Values → Bool
has_sure dated rows = list_any (λ row. not (waits dated row)) rows

-- Of these rows those that are shown by themselves, and each other one if such a one stands before it, or before all of
-- these, and one behind it.
abbrev pub between : Bool → Bool → List Values → List Values
between dated before [] = []
between dated before (row ∷ rows) =
    if waits dated row && not (before && has_sure dated rows) then between dated before rows
    else row ∷ between dated true rows

-- of the rows that lie behind an item, which was printed
abbrev pub shown_rows : Bool → Option Newest → List Values → List Values
shown_rows dated behind rows = between dated (is_some behind) (filter (is_new behind) rows)

-- ---- their text

-- the text of an item, behind one of an epoch: its lines, its row of CSV, or its line of JSON
abbrev pub IsItemText : Form → Told → Option ℕ → Item → List ℕ → Type 0
IsItemText Lines told before item text = text ≡ anew_if told before item.epoch
    ++ item_line item.number item.last item.stamp.now item.datum.now item.flags.now
IsItemText Csv told before item text = IsRow told item text
IsItemText Json told before item text = IsJson told item text

-- the text of a row
abbrev pub IsRowText : Form → Told → Option ℕ → Values → List ℕ → Type 0
IsRowText Lines told before row text = text ≡ row_lines told before row
IsRowText Csv told before row text = (item : Item) × IsItem row item × IsRow told item text
IsRowText Json told before row text = (item : Item) × IsItem row item × IsJson told item text

-- the text of rows, one after the other
abbrev pub AreTexts : Form → Told → Option ℕ → List Values → List ℕ → Type 0
AreTexts form told before [] text = text ≡ []
AreTexts form told before (row ∷ rows) text = (one : List ℕ) × (rest : List ℕ) × (text ≡ one ++ rest)
    × IsRowText form told before row one × AreTexts form told (Some (epoch_in row)) rows rest

-- how the items of a log are written: in which form, whether dates are named, and of which log
pub record Manner : Type 0 where
  pub form : Form
  pub dated : Bool
  pub told : Told

-- as words say it
abbrev pub manner : Words → Told → Manner
manner words told = record { form = words.form; dated = is_some words.dates; told = told }

-- the text of the items of a range that lie behind one, by rising ids, and the newest that is shown
abbrev pub PrintsRows : Manner → Range → Option Newest → List Values → List ℕ → Option Newest → Type 0
PrintsRows m range behind items text newest = (rows : List Values) × AreItems range items rows
    × AreTexts m.form m.told (epoch_of behind) (shown_rows m.dated behind rows) text
    × (newest ≡ newest_of behind (shown_rows m.dated behind rows))

-- the text of the first of them
abbrev pub PrintsFirst : Manner → Range → Option Newest → List Values → List ℕ → Type 0
PrintsFirst m range behind items text = (rows : List Values) × ((rows ≡ []) ⊎ AreFirst range items rows)
    × AreTexts m.form m.told (epoch_of behind) (shown_rows m.dated behind rows) text

-- the text of the items of a log, or of those of dates
abbrev pub PrintsItems : Words → Told → Option Newest → List Values → List ℕ → Option Newest → Type 0
PrintsItems words told behind items text newest =
    PrintsRows (manner words told) (range_of told.log.id words.dates) behind items text newest

-- the text of the first of these
abbrev pub PrintsItemsFront : Words → Told → Option Newest → List Values → List ℕ → Type 0
PrintsItemsFront words told behind items text =
    PrintsFirst (manner words told) (range_of told.log.id words.dates) behind items text

-- ---- how far they are printed

-- as a log is written
abbrev pub manner_of : Style → Manner
manner_of style = record { form = style.form; dated = style.dated; told = told_of style.shown }

-- rows from the first on that is shown by itself, or all, where such a one stands before them
abbrev pub led : Bool → Bool → List Values → List Values
led dated true rows = rows
led dated false [] = []
led dated false (row ∷ rows) = if waits dated row then led dated false rows else row ∷ rows

-- The text of the first rows of a log is printed; those behind these that wait have their text at hand.
pub record HasPrinted (style : Style) (behind : Option Newest) (rows : List Values) (text : List ℕ)
    (progress : Progress) : Type 0 where
  pub printed : AreTexts style.form (told_of style.shown) (epoch_of behind) (shown_rows style.dated behind rows) text
  pub newest : progress.newest ≡ newest_of behind (shown_rows style.dated behind rows)
  pub late : List Values
  pub all : shown_rows style.dated behind rows ++ late
      ≡ led style.dated (is_some behind) (filter (is_new behind) rows)
  pub waiting : AreTexts style.form (told_of style.shown) (epoch_of progress.newest) late progress.held.items
  pub epoch : progress.epoch ≡ epoch_of (newest_of progress.newest late)

-- a front of the text of one row more comes to the output
abbrev pub PrintsLess : Style → Option Newest → List Values → Values → List ℕ → Held → Held → Type 0
PrintsLess style behind rows row text old new = (more : List ℕ) × AppendsPart old new more
    × ((more ≡ []) ⊎ AreTexts style.form (told_of style.shown) (epoch_of behind)
    (shown_rows style.dated behind (rows ++ row ∷ [])) (text ++ more))
