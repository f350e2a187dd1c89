-- Rows are put: all of a batch, or none.
use Rattle.std.specs.Prelude.{◌≡◌, ◌⊎◌, ⊤, ℕ, ℤ, pos, Bool, true, false, not, if◌then◌else◌, ◌==◌, ◌&&◌}
use Rattle.std.specs.Prelude.{List, [], ◌∷◌, ◌++◌, map, flat_map, fold, drop, take, length}
use Rattle.std.specs.Prelude.{codes, Err, IsTrue, None, is_some}
use Rattle.std.specs.List.{AllByRecursion, Contains, list_any}
use Rattle.std.specs.Ordering.{is_eq}
use Rattle.std.specs.String.{string_bytes}
use Rattle.sqlite_value.specs.declared.value.Value.TheVariants.{Null, Int, Real, Text}
use Rattle.sqlite_value.specs.Order.{Row as Values, column, value_cmp}
use Rattle.sqlite_schema.specs.declared.schema.Table.{Table}
use Rattle.sqlite_rules.specs.Edit.{id_in, is_taken}
use Rattle.sqlite_rules.specs.Cast.{cast_all}
use Rattle.sqlite_trees.specs.Tree.{Trees, rowid, put_row, without_rowid}
use Rattle.sqlite_trees.specs.declared.store.Store.{Ghosts}
use Rattle.sqlite.specs.Values.{or_null, bound_value}
use Rattle.sqlite.specs.declared.error.Error.{Error}
use Rattle.sqlite.specs.declared.error.Error.TheVariants.{SqliteFailure}
use Rattle.sqlite.specs.declared.error.ErrorCode.TheVariants.{TransactionState}
use Rattle.sqlite.specs.Effect.{Database}
use Rattle.sqlite.specs.State.{State, ExecutesInside}
use Rattle.sqlite.specs.Held.{Held, state}
use Rattle.sqlite.specs.Steps.{FailsToCommit}
use Rattle.bac_archive.specs.Schema.{HasArchive, devices, logs, items, beginnings}
use Rattle.bac_archive.specs.declared.row.Put.{Put}
use Rattle.bac_archive.specs.declared.row.Put.TheVariants.{NewDevice, Device, NewLog, Log, Beginning, Lowered, Item}
use Rattle.bac_archive.specs.declared.row.DeviceRow.{DeviceRow}
use Rattle.bac_archive.specs.declared.row.LogRow.{LogRow}
use Rattle.bac_archive.specs.declared.row.BeginningRow.{BeginningRow}
use Rattle.bac_archive.specs.declared.row.ItemRow.{ItemRow}

-- ---- a row as its columns, its id first

-- 1 or 0
abbrev pub flag : Bool → ℤ
flag is = pos (if is then 1 else 0)

-- of a device
abbrev pub device_columns : DeviceRow → Values
device_columns d = Int (pos d.id) ∷ Text (string_bytes d.address) ∷ Int (pos d.dnet) ∷ Text (string_bytes d.dadr)
    ∷ or_null (λ n. Int (pos n)) d.instance ∷ or_null (λ t. Text (string_bytes t)) d.name
    ∷ or_null (λ n. Int (pos n)) d.revision ∷ Int (flag d.whole) ∷ Int (flag d.stopped)
    ∷ or_null (λ t. Text (string_bytes t)) d.answered ∷ or_null Int d.offset ∷ []

-- of a log
abbrev pub log_columns : LogRow → Values
log_columns l = Int (pos l.id) ∷ Int (pos l.device) ∷ Int (pos l.instance)
    ∷ or_null (λ t. Text (string_bytes t)) l.name ∷ or_null (λ t. Text (string_bytes t)) l.source
    ∷ or_null (λ t. Text (string_bytes t)) l.units ∷ or_null (λ t. Text (string_bytes t)) l.description
    ∷ or_null (λ t. Text (string_bytes t)) l.restart ∷ or_null (λ n. Int (pos n)) l.revision ∷ Int (flag l.stopped) ∷ []

-- of a record or a gap
abbrev pub item_columns : ItemRow → Values
item_columns i = Int i.id ∷ or_null (λ n. Int (pos n)) i.last ∷ or_null (λ b. Text b.items) i.stamp
    ∷ or_null Real i.value ∷ or_null (λ b. Text b.items) i.datum ∷ or_null (λ b. Text b.items) i.flags ∷ []

-- of a beginning
abbrev pub beginning_columns : BeginningRow → Values
beginning_columns b = Int (pos b.id) ∷ Int (pos b.number) ∷ or_null (λ t. Text (string_bytes t)) b.why ∷ []

-- what is bound for these columns
abbrev pub bound_columns : Values → Values
bound_columns row = take 1 row ++ map bound_value (drop 1 row)

-- ---- a put

-- its row as its columns
abbrev pub columns_of : Put → Values
columns_of (NewDevice d) = device_columns d
columns_of (Device d) = device_columns d
columns_of (NewLog l) = log_columns l
columns_of (Log l) = log_columns l
columns_of (Beginning b) = beginning_columns b
columns_of (Lowered b) = beginning_columns b
columns_of (Item i) = item_columns i

-- what is bound for it
abbrev pub given : Put → Values
given put = bound_columns (columns_of put)

-- an item that is a record, and no gap: it has no last number
abbrev pub is_record : Put → Bool
is_record (Item i) = not (is_some i.last)
is_record (NewDevice d) = false
is_record (Device d) = false
is_record (NewLog l) = false
is_record (Log l) = false
is_record (Beginning b) = false
is_record (Lowered b) = false

-- what is bound for a record, without a last number, and as many NULLs for a row of another table
abbrev pub given_record : Put → Values
given_record (Item i) = take 1 (given (Item i)) ++ drop 2 (given (Item i))
given_record (NewDevice d) = Null ∷ Null ∷ Null ∷ Null ∷ Null ∷ []
given_record (Device d) = Null ∷ Null ∷ Null ∷ Null ∷ Null ∷ []
given_record (NewLog l) = Null ∷ Null ∷ Null ∷ Null ∷ Null ∷ []
given_record (Log l) = Null ∷ Null ∷ Null ∷ Null ∷ Null ∷ []
given_record (Beginning b) = Null ∷ Null ∷ Null ∷ Null ∷ Null ∷ []
given_record (Lowered b) = Null ∷ Null ∷ Null ∷ Null ∷ Null ∷ []

-- the table that it is of, at its place
abbrev pub table_of : Put → Table
table_of (NewDevice d) = record devices { tree = 1 }
table_of (Device d) = record devices { tree = 1 }
table_of (NewLog l) = record logs { tree = 3 }
table_of (Log l) = record logs { tree = 3 }
table_of (Item i) = record items { tree = 5 }
table_of (Beginning b) = record beginnings { tree = 6 }
table_of (Lowered b) = record beginnings { tree = 6 }

-- its row as it is kept, where the key stands in the place of the rowid alone
abbrev pub row_of : Put → Values
row_of put = rowid (given put) ∷ Null ∷ cast_all (drop 1 (table_of put).columns) (drop 1 (given put))

-- whether it is new, or takes the place of the row with its id
abbrev pub is_new : Put → Bool
is_new (Device d) = false
is_new (Log l) = false
is_new (Lowered b) = false
is_new _ = true

-- the rows of a table with this one in place of the one with its id; where there is none, as they were
abbrev pub replaced : Values → List Values → List Values
replaced row rows = if is_taken rows row then put_row row (without_rowid (id_in (rowid row)) rows) else rows

-- a beginning is known by the count alone
abbrev pub is_counted : Values → Bool
is_counted beginning = is_eq (value_cmp (column beginning 3) (Text (codes "counted")))

-- the rows of beginnings with this one in place of the one with its id, if that was counted; if it wasn't, or there is
-- none, as they were
abbrev pub lowered : Values → List Values → List Values
lowered row rows =
    if list_any (λ r. is_eq (value_cmp (rowid r) (rowid row)) && is_counted r) rows
    then put_row row (without_rowid (id_in (rowid row)) rows) else rows

-- the rows of its table, once it is put
abbrev pub with_row : Put → List Values → List Values
with_row (NewDevice d) rows = put_row (row_of (NewDevice d)) rows
with_row (Device d) rows = replaced (row_of (Device d)) rows
with_row (NewLog l) rows = put_row (row_of (NewLog l)) rows
with_row (Log l) rows = replaced (row_of (Log l)) rows
with_row (Beginning b) rows = put_row (row_of (Beginning b)) rows
with_row (Lowered b) rows = lowered (row_of (Lowered b)) rows
with_row (Item i) rows = put_row (row_of (Item i)) rows

-- the rows of the table at this place, once it is put
abbrev pub after : ℕ → List Values → Put → List Values
after tree rows put = if (table_of put).tree == tree then with_row put rows else rows

-- and once all of these are, one after the other
abbrev pub left : ℕ → List Values → List Put → List Values
left tree = fold (after tree)

-- if this is new in the table at this place, no row has its id
abbrev pub IsFree : ℕ → List Values → Put → Type 0
IsFree tree rows put = (table_of put).tree ≡ tree → is_new put ≡ true → is_taken rows (row_of put) ≡ false

-- so it is of each of these, as its turn comes
abbrev pub AreFree : ℕ → List Values → List Put → Type 0
AreFree tree rows [] = ⊤
AreFree tree rows (put ∷ puts) = IsFree tree rows put × AreFree tree (after tree rows put) puts

-- Each table of a database has the rows that these puts leave, and nothing else is changed.
pub record IsPut (old new : Database) (puts : List Put) : Type 0 where
  pub schema : new.schema ≡ old.schema
  pub rows : AllByRecursion (λ t. new.trees t.tree ≡ left t.tree (old.trees t.tree) puts) old.schema.tables
  pub once : AllByRecursion (λ t. AreFree t.tree (old.trees t.tree) puts) old.schema.tables

-- inside a transaction: nothing is committed yet
pub record Puts (old new : State) (puts : List Put) : Type 0 where
  pub put : IsPut old.now new.now puts
  pub mode : new.in_transaction ≡ true
  pub committed : new.committed ≡ old.committed

-- ---- the statements

-- the one that puts a new device
abbrev pub device_text : List ℕ
device_text =
    codes "INSERT INTO devices (id, address, dnet, dadr, instance, name, revision, whole, stopped, "
    ++ codes "answered, offset) VALUES (?1, ?2, ?3, ?4, ?5, ?6, ?7, ?8, ?9, ?10, ?11)"

-- the one that puts a new log
abbrev pub log_text : List ℕ
log_text =
    codes "INSERT INTO logs (id, device, instance, name, source, units, description, restart, revision, "
    ++ codes "stopped) VALUES (?1, ?2, ?3, ?4, ?5, ?6, ?7, ?8, ?9, ?10)"

-- the one that puts an item
abbrev pub item_text : List ℕ
item_text = codes "INSERT INTO items (id, last, stamp, value, datum, flags) VALUES (?1, ?2, ?3, ?4, ?5, ?6)"

-- the one that puts a beginning
abbrev pub beginning_text : List ℕ
beginning_text = codes "INSERT INTO beginnings (id, number, why) VALUES (?1, ?2, ?3)"

-- the one that puts a device in place of the one with its id
abbrev pub change_device_text : List ℕ
change_device_text =
    codes "UPDATE devices SET address = ?2, dnet = ?3, dadr = ?4, instance = ?5, name = ?6, revision = ?7, "
    ++ codes "whole = ?8, stopped = ?9, answered = ?10, offset = ?11 WHERE id = ?1"

-- the one that puts a log so
abbrev pub change_log_text : List ℕ
change_log_text =
    codes "UPDATE logs SET device = ?2, instance = ?3, name = ?4, source = ?5, units = ?6, description = "
    ++ codes "?7, restart = ?8, revision = ?9, stopped = ?10 WHERE id = ?1"

-- the one that puts a beginning in place of the one with its id, if that was counted
abbrev pub lower_text : List ℕ
lower_text = codes "UPDATE beginnings SET number = ?2, why = ?3 WHERE id = ?1 AND why = 'counted'"

-- the statement of a put
abbrev pub text_of : Put → List ℕ
text_of (NewDevice d) = device_text
text_of (Device d) = change_device_text
text_of (NewLog l) = log_text
text_of (Log l) = change_log_text
text_of (Beginning b) = beginning_text
text_of (Lowered b) = lower_text
text_of (Item i) = item_text

-- the one that puts so many records, one after the other
abbrev pub many_text : List ℕ
many_text =
    codes "INSERT INTO items (id, stamp, value, datum, flags) VALUES (?, ?, ?, ?, ?), (?, ?, ?, ?, ?), "
    ++ codes "(?, ?, ?, ?, ?), (?, ?, ?, ?, ?), (?, ?, ?, ?, ?), (?, ?, ?, ?, ?), (?, ?, ?, ?, ?), (?, ?, ?, ?, ?), "
    ++ codes "(?, ?, ?, ?, ?), (?, ?, ?, ?, ?), (?, ?, ?, ?, ?), (?, ?, ?, ?, ?), (?, ?, ?, ?, ?), (?, ?, ?, ?, ?), "
    ++ codes "(?, ?, ?, ?, ?), (?, ?, ?, ?, ?), (?, ?, ?, ?, ?), (?, ?, ?, ?, ?), (?, ?, ?, ?, ?), (?, ?, ?, ?, ?), "
    ++ codes "(?, ?, ?, ?, ?), (?, ?, ?, ?, ?), (?, ?, ?, ?, ?), (?, ?, ?, ?, ?), (?, ?, ?, ?, ?), (?, ?, ?, ?, ?), "
    ++ codes "(?, ?, ?, ?, ?), (?, ?, ?, ?, ?), (?, ?, ?, ?, ?), (?, ?, ?, ?, ?), (?, ?, ?, ?, ?), (?, ?, ?, ?, ?)"

-- as many records as one statement puts
abbrev pub AreMany : List Put → Type 0
AreMany these =
    (items : List ItemRow) × (length items ≡ 32) × AllByRecursion (λ i. i.last ≡ None) items × (these ≡ map Item items)

-- one row, or so many records
abbrev pub AreAtOnce : List Put → Type 0
AreAtOnce these = ((put : Put) × (these ≡ put ∷ [])) ⊎ AreMany these

-- the one that these rows are put by: that of the row itself, or of several records
abbrev pub text_of_all : List Put → List ℕ
text_of_all (put ∷ []) = text_of put
text_of_all puts = many_text

-- and what is bound there
abbrev pub given_all : List Put → Values
given_all (put ∷ []) = given put
given_all puts = flat_map given_record puts

-- ---- why it is not done

-- it gives up on some of these, which one statement puts, when those before them are put
pub record GivesUp {S : Type 0} (g : Ghosts S) (old new : Held S) (puts : List Put) (e : Error) : Type 0 where
  pub before : List Put
  pub these : List Put
  pub behind : List Put
  pub at : puts ≡ before ++ these ++ behind
  pub mid : Held S
  pub done : Puts (state g old) (state g mid) before
  pub why : ExecutesInside 0 (text_of_all these) (given_all these) (state g mid) (state g new) (Err e)

-- Why a batch isn't put: a transaction is open already; or the database gives up on one of its rows, or on the commit.
abbrev pub FailsToPut : {S : Type 0} → Ghosts S → Held S → List Put → Error → Type 0
FailsToPut {S = S} g old puts e =
    (IsTrue (state g old).in_transaction × (e ≡ SqliteFailure TransactionState))
    ⊎ (((new : Held S) × GivesUp g (record old { in_transaction = true }) new puts e)
    ⊎ ((mid : Held S) × (new : Held S) × Puts (state g (record old { in_transaction = true })) (state g mid) puts
    × FailsToCommit (state g mid) (state g new) e))

-- ---- laws

-- two batches, one after the other, are one
abbrev pub PutsJoin : Type 0
PutsJoin = (a b c : Database) (xs ys : List Put) → IsPut a b xs → IsPut b c ys → IsPut a c (xs ++ ys)

-- no two of these rows have one id
abbrev pub HaveOwnIds : List Values → Type 0
HaveOwnIds rows = (one two : Values) → Contains rows one → Contains rows two
    → is_eq (value_cmp (rowid one) (rowid two)) ≡ true → one ≡ two

-- What these trees had is there in those: each item as it was; of each beginning the id, and but of one that was
-- counted the whole row, where no two beginnings had one id.
pub record LoseNothing (old new : Trees) : Type 0 where
  pub items : (row : Values) → Contains (old 5) row → Contains (new 5) row
  pub ids : (row : Values) (id : ℤ) → Contains (old 6) row → rowid row ≡ Int id
      → (later : Values) × Contains (new 6) later × (rowid later ≡ Int id)
  pub beginnings : HaveOwnIds (old 6) → (row : Values) → Contains (old 6) row → is_counted row ≡ false
      → Contains (new 6) row

-- so it is whatever was put: no beginning is replaced that wasn't counted
abbrev pub PutsLoseNothing : Type 0
PutsLoseNothing = (old new : Database) (puts : List Put) → HasArchive old.schema → IsPut old new puts
    → LoseNothing old.trees new.trees

-- the version stays, whatever was put
abbrev pub PutsKeepVersion : Type 0
PutsKeepVersion = (old new : Database) (puts : List Put) → HasArchive old.schema → IsPut old new puts
    → new.trees 0 ≡ old.trees 0
