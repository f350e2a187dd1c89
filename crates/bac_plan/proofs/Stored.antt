-- The rows of devices and of logs as they are stored, and shown again.
use Rattle.std.proofs.Common.{◌≡◌, ℕ, ℤ, pos, ◌==◌, Bool, true, false, List, [], ◌∷◌, ◌++◌, map, drop, take, Option, None, Some, String, refl, ap, ap₂, subst, ◌∙◌, arith}
use Rattle.std.specs.declared.alloc.Global.{Global}
use Rattle.std.specs.String.{string_bytes}
use Rattle.sqlite_value.specs.declared.value.Value.{Value}
use Rattle.sqlite_value.specs.declared.value.Value.TheVariants.{Int, Null, Text}
use Rattle.sqlite_value.specs.Order.{Row as Values, column}
use Rattle.sqlite.specs.Values.{bound_value, or_null}
use Rattle.sqlite_schema.specs.declared.schema.Column.{Column}
use Rattle.sqlite_schema.specs.declared.schema.Kind.TheVariants as kind
use Rattle.sqlite_rules.specs.Cast.{cast, cast_all}
use Rattle.sqlite_trees.specs.Tree.{rowid}
use Rattle.bac_archive.specs.Ask.{shown}
use Rattle.bac_archive.specs.Put.{AreFree, IsFree, after, bound_columns, flag, left, log_columns}
use Rattle.bac_archive.specs.Schema.{devices, logs}
use Rattle.bac_archive.specs.declared.row.DeviceRow.{DeviceRow}
use Rattle.bac_archive.specs.declared.row.LogRow.{LogRow}
use Rattle.bac_archive.specs.declared.row.Put.{Put}
use Rattle.bac_archive.specs.declared.row.Put.TheVariants.{NewDevice, Device, NewLog, Log, Beginning, Lowered, Item}
use Rattle.bac_archive.proofs.KeepLemmas.{last_is}
use Rattle.bac_archive.proofs.RowsLemmas.{cast_int, cast_null}
use Rattle.bac_device_poller.specs.Puts.{put_as}
use Rattle.bac_device_poller.specs.Rows.{DeviceAs, columns_of_device, device_as}
use Rattle.bac_plan.proofs.Changed.{AreFreeIn, IsFreeIn, left_in}

-- as these columns are stored in a table
abbrev pub stored : List Column → Values → Values
stored columns row = rowid (bound_columns row) ∷ Null ∷ cast_all (drop 1 columns) (drop 1 (bound_columns row))

text_is : (text : Option (String Global)) → cast kind.Text (bound_value (or_null (λ t. Text (string_bytes t)) text)) ≡ or_null (λ t. Text (string_bytes t)) text
text_is None = refl
text_is (Some t) = refl

whole_is : (n : Option ℤ) → cast kind.Integer (bound_value (or_null Int n)) ≡ or_null Int n
whole_is None = cast_null
whole_is (Some n) = cast_int n

both : {a b : Value} {xs ys : Values} → a ≡ b → xs ≡ ys → ◌≡◌ {A = Values} (a ∷ xs) (b ∷ ys)
both p q = ap₂ (λ (v : Value) (vs : Values). v ∷ vs) p q

-- the row of a device, with another revision and other flags
abbrev pub turned : (revision : Option ℕ) (whole stopped : Bool) → DeviceRow → DeviceAs
turned revision whole stopped d = record (device_as d) { revision = revision; whole = whole; stopped = stopped }

pub device_kept : (d : DeviceRow) (revision : Option ℕ) (whole stopped : Bool) → shown 10 (stored devices.columns (columns_of_device (turned revision whole stopped d))) ≡ columns_of_device (turned revision whole stopped d)
device_kept d revision whole stopped =
    both refl (both refl (both (cast_int (pos d.dnet)) (both refl (both (last_is d.instance) (both (text_is d.name) (both (last_is revision)
    (both (cast_int (flag whole)) (both (cast_int (flag stopped)) (both (text_is d.answered) (both (whole_is d.offset) refl))))))))))

-- the columns of a log, which is stopped, or isn't
abbrev pub with_flag : Bool → LogRow → Values
with_flag stopped l = take 9 (log_columns l) ++ Int (flag stopped) ∷ []

pub log_kept : (l : LogRow) (stopped : Bool) → shown 9 (stored logs.columns (with_flag stopped l)) ≡ with_flag stopped l
log_kept l stopped =
    both refl (both (cast_int (pos l.device)) (both (cast_int (pos l.instance)) (both (text_is l.name) (both (text_is l.source) (both (text_is l.units)
    (both (text_is l.description) (both (text_is l.restart) (both (last_is l.revision) (both (cast_int (flag stopped)) refl)))))))))

-- ---- rows that are put, as they are seen

after_devices : (put : Put) (rows : List Values) → after 1 rows put ≡ left_in 1 (stored devices.columns) rows (put_as put ∷ [])
after_devices (NewDevice d) rows = refl
after_devices (Device d) rows = refl
after_devices (NewLog l) rows = refl
after_devices (Log l) rows = refl
after_devices (Beginning b) rows = refl
after_devices (Lowered b) rows = refl
after_devices (Item i) rows = refl

pub left_devices : (puts : List Put) (rows : List Values) → left 1 rows puts ≡ left_in 1 (stored devices.columns) rows (map put_as puts)
left_devices [] rows = refl
left_devices (put ∷ puts) rows =
    left_devices puts (after 1 rows put) ∙ ap (λ (r : List Values). left_in 1 (stored devices.columns) r (map put_as puts)) (after_devices put rows)

after_logs : (put : Put) (rows : List Values) → after 3 rows put ≡ left_in 3 (stored logs.columns) rows (put_as put ∷ [])
after_logs (NewDevice d) rows = refl
after_logs (Device d) rows = refl
after_logs (NewLog l) rows = refl
after_logs (Log l) rows = refl
after_logs (Beginning b) rows = refl
after_logs (Lowered b) rows = refl
after_logs (Item i) rows = refl

pub left_logs : (puts : List Put) (rows : List Values) → left 3 rows puts ≡ left_in 3 (stored logs.columns) rows (map put_as puts)
left_logs [] rows = refl
left_logs (put ∷ puts) rows =
    left_logs puts (after 3 rows put) ∙ ap (λ (r : List Values). left_in 3 (stored logs.columns) r (map put_as puts)) (after_logs put rows)

-- one that is new finds no row with its id

free_device : (put : Put) (rows : List Values) → IsFree 1 rows put → IsFreeIn 1 (stored devices.columns) rows (put_as put)
free_device (NewDevice d) rows free = free
free_device (Device d) rows free = free
free_device (NewLog l) rows free = λ is new. absurd (omega (arith, is))
free_device (Log l) rows free = λ is new. absurd (omega (arith, is))
free_device (Beginning b) rows free = λ is new. absurd (omega (arith, is))
free_device (Lowered b) rows free = λ is new. absurd (omega (arith, is))
free_device (Item i) rows free = λ is new. absurd (omega (arith, is))

pub free_devices : (puts : List Put) (rows : List Values) → AreFree 1 rows puts → AreFreeIn 1 (stored devices.columns) rows (map put_as puts)
free_devices [] rows free = tt
free_devices (put ∷ puts) rows free =
    (free_device put rows free.0, subst (λ (r : List Values). AreFreeIn 1 (stored devices.columns) r (map put_as puts)) (after_devices put rows) (free_devices puts (after 1 rows put) free.1))

free_log : (put : Put) (rows : List Values) → IsFree 3 rows put → IsFreeIn 3 (stored logs.columns) rows (put_as put)
free_log (NewDevice d) rows free = λ is new. absurd (omega (arith, is))
free_log (Device d) rows free = λ is new. absurd (omega (arith, is))
free_log (NewLog l) rows free = free
free_log (Log l) rows free = free
free_log (Beginning b) rows free = λ is new. absurd (omega (arith, is))
free_log (Lowered b) rows free = λ is new. absurd (omega (arith, is))
free_log (Item i) rows free = λ is new. absurd (omega (arith, is))

pub free_logs : (puts : List Put) (rows : List Values) → AreFree 3 rows puts → AreFreeIn 3 (stored logs.columns) rows (map put_as puts)
free_logs [] rows free = tt
free_logs (put ∷ puts) rows free =
    (free_log put rows free.0, subst (λ (r : List Values). AreFreeIn 3 (stored logs.columns) r (map put_as puts)) (after_logs put rows) (free_logs puts (after 3 rows put) free.1))

-- what is put is shown as it is

pub device_shown : (put : Put) → (put_as put).tree ≡ 1 → shown 10 (stored devices.columns (put_as put).columns) ≡ (put_as put).columns
device_shown (NewDevice d) is = device_kept d d.revision d.whole d.stopped
device_shown (Device d) is = device_kept d d.revision d.whole d.stopped
device_shown (NewLog l) is = absurd (omega (arith, is))
device_shown (Log l) is = absurd (omega (arith, is))
device_shown (Beginning b) is = absurd (omega (arith, is))
device_shown (Lowered b) is = absurd (omega (arith, is))
device_shown (Item i) is = absurd (omega (arith, is))

pub log_shown : (put : Put) → (put_as put).tree ≡ 3 → shown 9 (stored logs.columns (put_as put).columns) ≡ (put_as put).columns
log_shown (NewDevice d) is = absurd (omega (arith, is))
log_shown (Device d) is = absurd (omega (arith, is))
log_shown (NewLog l) is = log_kept l l.stopped
log_shown (Log l) is = log_kept l l.stopped
log_shown (Beginning b) is = absurd (omega (arith, is))
log_shown (Lowered b) is = absurd (omega (arith, is))
log_shown (Item i) is = absurd (omega (arith, is))

-- ---- a device is known by its columns

pub int_same : (a b : ℕ) → Int (pos a) ≡ Int (pos b) → a ≡ b
int_same a b is = cc

flag_same : (a b : Bool) → flag a ≡ flag b → a ≡ b
flag_same true true is = refl
flag_same false false is = refl
flag_same true false is = absurd (let e : pos 1 ≡ pos 0 = is in cc)
flag_same false true is = absurd (let e : pos 0 ≡ pos 1 = is in cc)

number_same : (a b : Option ℕ) → or_null (λ n. Int (pos n)) a ≡ or_null (λ n. Int (pos n)) b → a ≡ b
number_same None None is = refl
number_same (Some a) (Some b) is = ap Some (int_same a b is)
number_same None (Some b) is = absurd (let e : Null ≡ Int (pos b) = is in cc)
number_same (Some a) None is = absurd (let e : Int (pos a) ≡ Null = is in cc)

signed_same : (a b : Option ℤ) → or_null Int a ≡ or_null Int b → a ≡ b
signed_same None None is = refl
signed_same (Some a) (Some b) is = let e : Int a ≡ Int b = is in cc
signed_same None (Some b) is = absurd (let e : Null ≡ Int b = is in cc)
signed_same (Some a) None is = absurd (let e : Int a ≡ Null = is in cc)

pub bit_same : (a b : Bool) → Int (flag a) ≡ Int (flag b) → a ≡ b
bit_same a b is = flag_same a b (let e : Int (flag a) ≡ Int (flag b) = is in cc)

pub at : (i : ℕ) {xs ys : Values} → xs ≡ ys → column xs i ≡ column ys i
at i is = ap (λ (v : Values). column v i) is

made : ℕ → Value → ℕ → Value → Option ℕ → Value → Option ℕ → Bool → Bool → Value → Option ℤ → DeviceAs
made id address dnet dadr instance name revision whole stopped answered offset = record {
  id = id;
  address = address;
  dnet = dnet;
  dadr = dadr;
  instance = instance;
  name = name;
  revision = revision;
  whole = whole;
  stopped = stopped;
  answered = answered;
  offset = offset;
}

pub device_same : (a b : DeviceAs) → columns_of_device a ≡ columns_of_device b → a ≡ b
unfolding made
device_same a b is =
    let i = int_same a.id b.id (at 0 is) in
    let n = int_same a.dnet b.dnet (at 2 is) in
    let j = number_same a.instance b.instance (at 4 is) in
    let r = number_same a.revision b.revision (at 6 is) in
    let w = bit_same a.whole b.whole (at 7 is) in
    let s = bit_same a.stopped b.stopped (at 8 is) in
    let o = signed_same a.offset b.offset (at 10 is) in
    let l : made a.id a.address a.dnet a.dadr a.instance a.name a.revision a.whole a.stopped a.answered a.offset
    ≡ made b.id b.address b.dnet b.dadr b.instance b.name b.revision b.whole b.stopped b.answered b.offset =
    rw (i, at 1 is, n, at 3 is, j, at 5 is, r, w, s, at 9 is, o) refl in
    l
