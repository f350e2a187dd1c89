-- Rows are met, one after the other.
use Rattle.std.specs.Prelude.{ℕ, ◌/◌, ◌==◌, ◌++◌, ◌∷◌, if◌then◌else◌, [], Option, None, Some}
use Rattle.sqlite_value.specs.Order.{Row as Values, column}
use Rattle.bac_archive.specs.Items.{number_at}
use Rattle.bac_archive.specs.Read.{numbers}
use Rattle.bac_archive.specs.Stands.{epochs, is_in}
use Rattle.bac_resume.specs.Rows.{LogTold, items_of}

-- the first of two, or the second where there is no first one
abbrev pub first_of : Option Values → Values → Option Values
first_of None row = Some row
first_of (Some first) row = Some first

-- a beginning of the log is met: the first one is its last
abbrev pub began : LogTold → Values → LogTold
began told row = record told { begins = first_of told.begins row }

-- a beginning of a log is met
abbrev pub began_at : (log : ℕ) → Values → LogTold → LogTold
began_at log row told = if is_in epochs log row then began told row else told

-- an item is met
abbrev pub with_item : LogTold → Values → LogTold
with_item told item = record told { newest = told.newest ++ items_of told.begins (item ∷ []) }

-- the log of an item
abbrev pub log_in : Values → ℕ
log_in item = number_at (column item 0) / numbers / epochs

-- an item of a log is met
abbrev pub with_item_at : (log : ℕ) → Values → LogTold → LogTold
with_item_at log item told = if log_in item == log then with_item told item else told
