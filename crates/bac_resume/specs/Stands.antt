-- Where a log stands by the items of its last epoch, the newest first. An item is a record, or a gap up to a last
-- number.
use Rattle.std.specs.Prelude.{ℕ, ◌==◌, ◌&&◌, not, Bool, false, if◌then◌else◌, List, [], ◌∷◌, Option, None, Some}
use Rattle.std.specs.List.{slice_get}
use Rattle.std.specs.Option.{is_some, unwrap_or}
use Rattle.sqlite_value.specs.Order.{Row as Values, column}
use Rattle.bac_archive.specs.Items.{last_at, number_in}
use Rattle.bac_link.specs.Ordinals.{number_after}
use Rattle.bac_poll.specs.Turns.{number_before}

-- whether an item is a gap
abbrev pub is_gap : Values → Bool
is_gap item = is_some (last_at (column item 1))

-- the last number of an item: of a record its own
abbrev pub last_number : Values → ℕ
last_number item = unwrap_or (last_at (column item 1)) (number_in item)

-- The number that comes next: the one behind the newest item; where there is none, that with which the epoch begins.
abbrev pub next_of : (begins : ℕ) → List Values → ℕ
next_of begins [] = begins
next_of begins (item ∷ items) = number_after (last_number item) 1

-- whether the last number that an epoch can have is kept, of a record or in a gap: the next one is of the next epoch
abbrev pub is_full : List Values → Bool
is_full [] = false
is_full (item ∷ items) = last_number item == 4294967295

-- whether an item is the record of a number
abbrev pub is_record_of : ℕ → Values → Bool
is_record_of number item = not (is_gap item) && (number_in item == number)

-- The records right before a number, the newest first: one of each number, up to where a gap lies.
abbrev pub known_before : (next : ℕ) → List Values → List Values
known_before next [] = []
known_before next (item ∷ items) =
    if is_record_of (number_before next) item then item ∷ known_before (number_before next) items else []

-- the one so many places before the newest of these
abbrev pub known_at : (next : ℕ) → List Values → (back : ℕ) → Option Values
known_at next items back = slice_get (known_before next items) back

-- the newest record among items
abbrev pub newest_record : List Values → Option Values
newest_record [] = None
newest_record (item ∷ items) = if is_gap item then newest_record items else Some item
