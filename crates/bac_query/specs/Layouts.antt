-- The forms in which the records of a trend log are printed: lines, whose last tells how the walk ended; and rows of
-- CSV or lines of JSON, which are records and gaps alone.
use Rattle.std.specs.Prelude.{◌≡◌, ℕ, List, ◌++◌, Ok, Err}
use Rattle.std.specs.Io.KnownBytes.{Appends, Keeps}
use Rattle.bac_link.specs.declared.item.Item.{Item}
use Rattle.bac_print.specs.Output.{AppendsPart, Held}
use Rattle.bac_query.specs.Ends.{end_line}
use Rattle.bac_query.specs.Items.{items_text}
use Rattle.bac_query.specs.Reading.{Answer}
use Rattle.bac_query.specs.Json.{AreJson}
use Rattle.bac_query.specs.Rows.{AreRows, names_row}
use Rattle.bac_query.specs.declared.fault.QueryFault.TheVariants.{Exchange, Write, Memory}
use Rattle.bac_form.specs.declared.form.Form.{Form}
use Rattle.bac_form.specs.declared.form.Form.TheVariants.{Lines, Csv, Json}
use Rattle.bac_walk.specs.declared.outcome.Why.{Why}

-- the row of names was written; or a front part of it, or nothing without memory for it; before lines and JSON stands
-- nothing
abbrev pub BeginsWith : Form → Answer → Held → Held → Type 0
BeginsWith Lines result old new = (result ≡ Ok tt) × (new ≡ old)
BeginsWith Csv (Ok done) old new = Appends old new names_row
BeginsWith Csv (Err Write) old new = AppendsPart old new names_row
BeginsWith Csv (Err Memory) old new = Keeps old new
BeginsWith Csv (Err (Exchange fault)) old new = ⊥
BeginsWith Json result old new = (result ≡ Ok tt) × (new ≡ old)

-- the text of these items was written
abbrev pub AppendsItems : Form → List Item → Held → Held → Type 0
AppendsItems Lines items old new = Appends old new (items_text items)
AppendsItems Csv items old new = (text : List ℕ) × AreRows items text × Appends old new text
AppendsItems Json items old new = (text : List ℕ) × AreJson items text × Appends old new text

-- a front part of it was written
abbrev pub AppendsItemsPart : Form → List Item → Held → Held → Type 0
AppendsItemsPart Lines items old new = AppendsPart old new (items_text items)
AppendsItemsPart Csv items old new =
    (first : List Item) × (rest : List Item) × (items ≡ first ++ rest)
    × ((text : List ℕ) × AreRows first text × AppendsPart old new text)
AppendsItemsPart Json items old new =
    (first : List Item) × (rest : List Item) × (items ≡ first ++ rest)
    × ((text : List ℕ) × AreJson first text × AppendsPart old new text)

-- the line of the end was written; rows and JSON have none
abbrev pub AppendsEnd : Form → Why → ℕ → Held → Held → Type 0
AppendsEnd Lines why next old new = Appends old new (end_line why next)
AppendsEnd Csv why next old new = Keeps old new
AppendsEnd Json why next old new = Keeps old new

-- a front part of it was written: they have none that could be refused
abbrev pub AppendsEndPart : Form → Why → ℕ → Held → Held → Type 0
AppendsEndPart Lines why next old new = AppendsPart old new (end_line why next)
AppendsEndPart Csv why next old new = ⊥
AppendsEndPart Json why next old new = ⊥

-- the text of these items and then the line of the end were written
abbrev pub AppendsAll : Form → List Item → Why → ℕ → Held → Held → Type 0
AppendsAll Lines items why next old new = Appends old new (items_text items ++ end_line why next)
AppendsAll Csv items why next old new = AppendsItems Csv items old new
AppendsAll Json items why next old new = AppendsItems Json items old new

-- a front part of that was written
abbrev pub AppendsAllPart : Form → List Item → Why → ℕ → Held → Held → Type 0
AppendsAllPart Lines items why next old new = AppendsPart old new (items_text items ++ end_line why next)
AppendsAllPart Csv items why next old new = AppendsItemsPart Csv items old new
AppendsAllPart Json items why next old new = AppendsItemsPart Json items old new
