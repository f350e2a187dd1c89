-- What an archive tells of each log: the rows of `stands`, by the log that they are of.
use Rattle.std.specs.Prelude.{ℕ, List, [], Option, None, Some, slice_get}
use Rattle.std.specs.List.{filter}
use Rattle.sqlite_value.specs.Order.{Row as Values, column}
use Rattle.bac_archive.specs.Items.{number_at}
use Rattle.bac_archive.specs.Read.{numbers}
use Rattle.bac_archive.specs.Stands.{epochs, is_in}

-- what an archive tells of a log: its last beginning, and the newest items of the epoch that begins there, newest first
pub record LogTold : Type 0 where
  pub begins : Option Values
  pub newest : List Values

-- nothing
abbrev pub untold : LogTold
untold = record { begins = None; newest = [] }

-- the first of these beginnings that is of a log
abbrev pub begins_of : (log : ℕ) → List Values → Option Values
begins_of log beginnings = slice_get (filter (is_in epochs log) beginnings) 0

-- the items of the epoch that begins there
abbrev pub items_of : Option Values → List Values → List Values
items_of None items = []
items_of (Some begins) items = filter (is_in numbers (number_at (column begins 0))) items

-- what these beginnings and items tell of a log
abbrev pub told_of : List Values → List Values → (log : ℕ) → LogTold
told_of beginnings items log = record {
  begins = begins_of log beginnings;
  newest = items_of (begins_of log beginnings) items;
}
