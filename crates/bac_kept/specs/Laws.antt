-- Laws of what is printed.
use Rattle.std.specs.Prelude.{◌≡◌, ◌⊎◌, Bool, true, false, List, [], ◌∷◌, ◌++◌, Option, None, Some}
use Rattle.std.specs.List.{AllByRecursion}
use Rattle.sqlite_value.specs.Order.{Row as Values}
use Rattle.bac_kept.specs.Items.{shown_rows}
use Rattle.bac_kept.specs.Seen.{is_new, item_at, newest_of}
use Rattle.bac_kept.specs.declared.seen.Newest.{Newest}

-- ---- of one log: what is printed of its rows in parts, one part after the other

-- rows rise by epoch and number, from behind an item on
abbrev pub Rise : Option Newest → List Values → Type 0
Rise behind [] = Unit {0}
Rise behind (row ∷ rows) = (is_new behind row ≡ true) × Rise (Some (item_at row)) rows

-- what is printed of the rows in parts, behind an item
abbrev pub printed_of : Bool → Option Newest → List (List Values) → List Values
printed_of dated behind [] = []
printed_of dated behind (rows ∷ parts) =
    shown_rows dated behind rows ++ printed_of dated (newest_of behind (shown_rows dated behind rows)) parts

-- a row is one of these
abbrev pub IsOneOf : Values → List Values → Type 0
IsOneOf row [] = ⊥
IsOneOf row (other ∷ rows) = (row ≡ other) ⊎ IsOneOf row rows

-- one of these parts has it
abbrev pub IsIn : Values → List (List Values) → Type 0
IsIn row [] = ⊥
IsIn row (rows ∷ parts) = IsOneOf row rows ⊎ IsIn row parts

-- Of parts in each of which a log's rows rise, what is printed rises, so no item is printed twice, whether dates are
-- named or not.
abbrev pub PartsPrintEachOnce : Type 0
PartsPrintEachOnce = (dated : Bool) (parts : List (List Values)) → AllByRecursion (Rise None) parts
    → Rise None (printed_of dated None parts)

-- Where no dates are named, a row that isn't printed doesn't lie behind one that is.
abbrev pub PartsPrintEach : Type 0
PartsPrintEach = (parts : List (List Values)) → AllByRecursion (Rise None) parts
    → (row : Values) → IsIn row parts → IsOneOf row (printed_of false None parts)
    ⊎ ((last : Values) × IsOneOf last (printed_of false None parts) × (is_new (Some (item_at last)) row ≡ false))
