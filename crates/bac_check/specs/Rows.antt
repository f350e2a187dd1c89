-- The rows of an epoch in an archive, or in its parts.
use Rattle.std.specs.Prelude.{◌≡◌, ◌≢◌, ℕ, pos, ◌+◌, ◌*◌, nat_lt, Bool, true, if◌then◌else◌, List, ◌++◌, map, codes}
use Rattle.std.specs.Prelude.{Option, Some, None}
use Rattle.std.specs.List.{filter, list_all}
use Rattle.std.specs.Str.{bytes_eq}
use Rattle.sqlite_value.specs.Order.{Row as Values, column}
use Rattle.sqlite_trees.specs.Tree.{Trees}
use Rattle.sqlite.specs.declared.error.Error.{Error}
use Rattle.sqlite.specs.declared.error.Error.TheVariants.{SqliteFailure}
use Rattle.sqlite.specs.declared.error.ErrorCode.TheVariants.{OutOfMemory}
use Rattle.bac_archive.specs.Items.{AreItems, IsReadable, last_at, number_in, text_at}
use Rattle.bac_archive.specs.Read.{numbers}
use Rattle.bac_archive.specs.declared.items.Range.{Range}
use Rattle.bac_archive.specs.declared.items.Range.TheVariants.{Oldest}
use Rattle.bac_check.specs.Holes.{end_of}
use Rattle.bac_check.specs.Tallies.{IsTallied}
use Rattle.bac_check.specs.declared.course.Course.{Course}
use Rattle.bac_check.specs.declared.tally.Span.{Span}

-- how many epochs all logs have: an epoch's id, that of its beginning, is below
abbrev pub all_epochs : ℕ
all_epochs = 2147483648

-- the items of an epoch whose numbers are from one to another, by rising ids
abbrev pub between : ℕ → ℕ → ℕ → Range
between epoch first last =
    if nat_lt epoch all_epochs then Oldest (pos (epoch * numbers + first)) (pos (epoch * numbers + last))
    else Oldest (pos 1) (pos 0)

-- all items of an epoch
abbrev pub items_of : ℕ → Range
items_of epoch = between epoch 0 4294967295

-- what an item's row covers, and, of a gap, whether it may be none
abbrev pub span_of : Values → Span
span_of row = record {
  number = number_in row;
  last = last_at (column row 1);
  doubtful = bytes_eq (text_at (column row 4)) (codes "or began anew");
}

-- memory is wanting, or the row of an item can't be read
abbrev pub IsUnreadable : Values → Error → Type 0
IsUnreadable row e = e ≢ SqliteFailure OutOfMemory → ¬ IsReadable row

-- a row lies behind all of these
abbrev pub is_behind : List Span → Span → Bool
is_behind spans new = list_all (λ old. nat_lt (end_of old) new.number) spans

-- The rows of an epoch, with those of one more part of its archive, but for the ones that it took over.
abbrev pub CountsOn : ℕ → List Span → Trees → List Span → Type 0
CountsOn epoch before part spans = (rows : List Values) × AreItems (items_of epoch) (part 5) rows
    × (spans ≡ before ++ filter (is_behind before) (map span_of rows))

-- a row lies behind the one that was counted last, if there is one
abbrev pub is_new : Option Span → Span → Bool
is_new None span = true
is_new (Some newest) span = nat_lt (end_of newest) span.number

-- An epoch's rows of one more part are counted; which epoch it is stays.
pub record CountsCourse (part : Trees) (old new : Course) : Type 0 where
  pub begun : new.begun ≡ old.begun
  pub counted : (before : List Span) → IsTallied before old.tally
      → (spans : List Span) × CountsOn old.begun.id before part spans × IsTallied spans new.tally
