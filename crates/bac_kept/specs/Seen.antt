-- What was printed of the parts of an archive before.
use Rattle.std.specs.Prelude.{◌≡◌, ◌&&◌, ◌||◌, ◌==◌, nat_lt, nat_eq, ℕ, Bool, true, if◌then◌else◌}
use Rattle.std.specs.Prelude.{List, [], ◌∷◌, Option, None, Some, option_map, unwrap_or}
use Rattle.indexmap.specs.IndexMap.{get}
use Rattle.sqlite_value.specs.Order.{Row as Values}
use Rattle.bac_archive.specs.Items.{epoch_in, number_in}
use Rattle.bac_kept.specs.declared.seen.Newest.{Newest}
use Rattle.bac_kept.specs.declared.seen.Seen.{Seen}

-- an item with this epoch and number lies behind another, if there is one
abbrev pub is_newer : Option Newest → ℕ → ℕ → Bool
is_newer None epoch number = true
is_newer (Some last) epoch number = nat_lt last.epoch epoch || (last.epoch == epoch && nat_lt last.number number)

-- a row does
abbrev pub is_new : Option Newest → Values → Bool
is_new behind row = is_newer behind (epoch_in row) (number_in row)

-- the item of a row
abbrev pub item_at : Values → Newest
item_at row = record { epoch = epoch_in row; number = number_in row }

-- the last item of rows, or the one before them
abbrev pub newest_of : Option Newest → List Values → Option Newest
newest_of newest [] = newest
newest_of newest (row ∷ rows) = newest_of (Some (item_at row)) rows

-- its epoch
abbrev pub epoch_of : Option Newest → Option ℕ
epoch_of newest = option_map (λ (item : Newest). item.epoch) newest

-- the newest item of a log that was printed, by the id of the log's row
abbrev pub newest_in : Seen → ℕ → Option Newest
newest_in seen log = unwrap_or (get nat_eq seen.newest log) None

-- of this log it is this one now, and of the others as before
abbrev pub Notes : Seen → ℕ → Option Newest → Seen → Type 0
Notes old log newest new = (id : ℕ) → newest_in new id ≡ (if id == log then newest else newest_in old id)
