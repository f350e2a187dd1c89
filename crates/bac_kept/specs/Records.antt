-- The newest record of a log.
use Rattle.std.specs.Prelude.{◌≡◌, ◌⊎◌, ℕ, pos, List, [], ◌∷◌, ◌++◌, Option, None, Some}
use Rattle.std.specs.List.{AllByRecursion}
use Rattle.sqlite_value.specs.Order.{Row as Values, column}
use Rattle.sqlite_value.specs.declared.value.Value.TheVariants.{Int}
use Rattle.sqlite.specs.declared.error.Error.{Error}
use Rattle.bac_archive.specs.Items.{AreFirst, AreItems, IsItem, id_of}
use Rattle.bac_archive.specs.declared.items.Item.{Item}
use Rattle.bac_archive.specs.declared.items.Range.{Range}
use Rattle.bac_archive.specs.declared.items.Range.TheVariants.{Newest}
use Rattle.bac_kept.specs.declared.fault.Fault.{Fault}
use Rattle.bac_kept.specs.declared.fault.Fault.TheVariants.{Database, Memory}
use Rattle.bac_kept.specs.declared.record.Record.{Record}

-- all items of a log, the newest first
abbrev pub all_of : ℕ → Range
all_of log = Newest (pos (id_of log 0 0)) (pos (id_of log 32767 4294967295))

-- a record says what an item does
pub record IsCopyOf (item : Item) (kept : Record) : Type 0 where
  pub epoch : kept.epoch ≡ item.epoch
  pub number : kept.number ≡ item.number
  pub stamp : kept.stamp.items ≡ item.stamp.now
  pub value : kept.value ≡ item.value
  pub datum : kept.datum.items ≡ item.datum.now
  pub flags : kept.flags.items ≡ item.flags.now

-- a row is a gap's
abbrev pub IsGap : Values → Type 0
IsGap row = (last : ℕ) × (column row 1 ≡ Int (pos last))

-- a row is this record's
abbrev pub IsRecord : Values → Record → Type 0
IsRecord row kept = (item : Item) × IsItem row item × (item.last ≡ None) × IsCopyOf item kept

-- a row is a gap's, or this record's
abbrev pub IsReadAs : Values → Option Record → Type 0
IsReadAs row None = IsGap row
IsReadAs row (Some kept) = IsRecord row kept

-- the first record of a range of items, before which are gaps alone; or the range has gaps alone
abbrev pub IsFirstIn : Range → List Values → Option Record → Type 0
IsFirstIn range items None = (gaps : List Values) × AllByRecursion IsGap gaps × AreItems range items gaps
IsFirstIn range items (Some kept) = (gaps : List Values) × AllByRecursion IsGap gaps
    × (row : Values) × AreFirst range items (gaps ++ row ∷ []) × IsRecord row kept

-- it isn't found: memory is wanting, or the database answers by an error, for this cause
abbrev pub FailsBy : (Error → Type 0) → Fault → Type 0
FailsBy why fault = (fault ≡ Memory) ⊎ ((e : Error) × (fault ≡ Database e) × why e)
