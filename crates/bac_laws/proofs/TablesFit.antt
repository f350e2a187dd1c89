-- The rows of devices and of logs that puts leave.
use Rattle.std.proofs.Common.{◌≡◌, ◌∙◌, ◌⊎◌, inl, inr, ℕ, ℤ, pos, Bool, true, false, not, List, [], ◌∷◌, ◌++◌, map, drop}
use Rattle.std.proofs.Common.{arith, refl, sym, ap, subst, is_eq, append-nil, append_assoc}
use Rattle.std.specs.List.{Contains}
use Rattle.sqlite_rules.specs.Cast.{cast_all}
use Rattle.sqlite_rules.specs.Edit.{is_taken}
use Rattle.sqlite_trees.specs.Tree.{has_rowid, put_row, rowid, without_rowid}
use Rattle.sqlite_value.specs.Order.{Row as Values, column, value_cmp}
use Rattle.sqlite_value.specs.declared.value.Value.{Value}
use Rattle.sqlite_value.specs.declared.value.Value.TheVariants.{Int, Null, Text}
use Rattle.bac_archive.proofs.LeftLemmas.{TakesPlace, none_taken, own_behind, own_left, put_has, put_is, replaced_takes}
use Rattle.bac_archive.proofs.ReplaceLemmas.{in_filter}
use Rattle.bac_archive.proofs.RowsLemmas.{cast_int}
use Rattle.bac_archive.specs.Put.{AreFree, HaveOwnIds, IsFree, after, bound_columns, left, row_of}
use Rattle.bac_archive.specs.Schema.{devices, logs}
use Rattle.bac_archive.specs.declared.row.Put.{Put}
use Rattle.bac_archive.specs.declared.row.Put.TheVariants.{NewDevice, Device, NewLog, Log, Beginning, Lowered, Item}
use Rattle.bac_device_poller.specs.Puts.{PutAs, put_as}
use Rattle.bac_walk.specs.declared.batch.Numbered.{Numbered}
use Rattle.bac_laws.proofs.RowsFit.{Good, IsKnown, IsNewIn, IsNewLog, Sound}

-- a row of a table of logs has this id, is of this device, and has this instance
abbrev pub HasLogRow : List Values → ℕ → ℕ → ℕ → Type 0
HasLogRow rows log device instance = (row : Values) × Contains rows row × (column row 0 ≡ Int (pos log)) × (column row 2 ≡ Int (pos device))
    × (column row 3 ≡ Int (pos instance))

-- a row of a table of devices has this id and this address
abbrev pub HasDeviceRow : List Values → ℕ → List ℕ → Type 0
HasDeviceRow rows device address = (row : Values) × Contains rows row × (column row 0 ≡ Int (pos device)) × (column row 2 ≡ Text address)

pos_same : (m n : ℕ) → pos m ≡ pos n → m ≡ n
pos_same m n is = cc

int_same : (m n : ℕ) (v : Value) → v ≡ Int (pos m) → v ≡ Int (pos n) → m ≡ n
int_same m n v one two = let e : Int (pos m) ≡ Int (pos n) = sym one ∙ two in pos_same m n (let f : pos m ≡ pos n = cc in f)

text_same : (a b : List ℕ) (v : Value) → v ≡ Text a → v ≡ Text b → a ≡ b
text_same a b v one two = let e : Text a ≡ Text b = sym one ∙ two in cc

-- what SQLite makes of the columns of a log, and of a device
made_log : Values → Values
made_log columns = rowid (bound_columns columns) ∷ Null ∷ cast_all (drop 1 logs.columns) (drop 1 (bound_columns columns))

made_device : Values → Values
made_device columns = rowid (bound_columns columns) ∷ Null ∷ cast_all (drop 1 devices.columns) (drop 1 (bound_columns columns))

log_row_is : (log device instance : ℕ) (rest : Values) → let row : Values = made_log (Int (pos log) ∷ Int (pos device) ∷ Int (pos instance) ∷ rest) in
    (column row 0 ≡ Int (pos log)) × (column row 2 ≡ Int (pos device)) × (column row 3 ≡ Int (pos instance))
unfolding made_log
log_row_is log device instance rest = (refl, cast_int (pos device), cast_int (pos instance))

device_row_is : (device : ℕ) (address : List ℕ) (rest : Values) → let row : Values = made_device (Int (pos device) ∷ Text address ∷ rest) in
    (column row 0 ≡ Int (pos device)) × (column row 2 ≡ Text address)
unfolding made_device
device_row_is device address rest = (refl, refl)

-- a row that isn't the one with an id stays, and the one with it is like the new one
module _ (id : ℤ) (new : Values) (new_id : rowid new ≡ Int id) (rows left : List Values) (takes : TakesPlace id new rows left) (own : HaveOwnIds rows) where
  stays : (one two : Values) → Contains rows one → Contains rows two → rowid two ≡ Int id → (n : ℤ) → rowid one ≡ Int n
      → Contains left one ⊎ ((one ≡ two) × (Contains left new ⊎ Contains left one))
  stays one two there at is n one_is = by takes
    where
      tied : (b : Bool) → has_rowid id one ≡ b → left ≡ put_row new (without_rowid id rows) → Contains left one ⊎ ((one ≡ two) × (Contains left new ⊎ Contains left one))
      tied true same put =
          let eq : is_eq (value_cmp (rowid one) (rowid two)) ≡ true = subst (λ v. is_eq (value_cmp (rowid one) v) ≡ true) (sym is) same in
          inr (own one two there at eq, inl (subst (λ l. Contains l new) (sym put) (put_is new (without_rowid id rows) (none_taken id new new_id rows))))
      tied false same put =
          inl (subst (λ l. Contains l one) (sym put) (put_has new (without_rowid id rows) (none_taken id new new_id rows) one (in_filter (λ r. not (has_rowid id r)) rows one there (ap not same))))

      by : TakesPlace id new rows left → Contains left one ⊎ ((one ≡ two) × (Contains left new ⊎ Contains left one))
      by (inl put) = tied (has_rowid id one) refl put
      by (inr same) = inl (subst (λ l. Contains l one) (sym same) there)

module _ (K : ℕ → ℕ → ℕ → Type 0) (V : ℕ → Value → Type 0) (P : ℕ → ℕ → Numbered → Type 0) where
  -- ---- logs

  -- each log that is known has its row, and no two rows one id
  abbrev pub Logs : List PutAs → List Values → Type 0
  Logs before rows = HaveOwnIds rows × ((log device instance : ℕ) → IsKnown K V before log device instance → HasLogRow rows log device instance)

  -- a put of another table
  same_logs : (before : List PutAs) (put : PutAs) (rows : List Values) → (put.tree ≡ 3 → ⊥) → Logs before rows → Logs (before ++ put ∷ []) rows
  same_logs before put rows not all = (all.0, λ log device instance known. by log device instance known)
    where
      in_both : (xs : List PutAs) (log device instance : ℕ) → IsNewIn (xs ++ put ∷ []) log device instance → IsNewIn xs log device instance
      in_both [] log device instance (inl new) = absurd (not new.0)
      in_both [] log device instance (inr none) = none
      in_both (x ∷ xs) log device instance (inl new) = inl new
      in_both (x ∷ xs) log device instance (inr more) = inr (in_both xs log device instance more)

      by : (log device instance : ℕ) → IsKnown K V (before ++ put ∷ []) log device instance → HasLogRow rows log device instance
      by log device instance (inl known) = all.1 log device instance (inl known)
      by log device instance (inr new) = all.1 log device instance (inr (in_both before log device instance new))

  -- a put of this table
  last_new : (xs : List PutAs) (put : PutAs) (log device instance : ℕ) → IsNewIn (xs ++ put ∷ []) log device instance
      → IsNewIn xs log device instance ⊎ IsNewLog log device instance put
  last_new [] put log device instance (inl new) = inr new
  last_new [] put log device instance (inr none) = inl none
  last_new (x ∷ xs) put log device instance (inl new) = inl (inl new)
  last_new (x ∷ xs) put log device instance (inr more) = by (last_new xs put log device instance more)
    where
      by : IsNewIn xs log device instance ⊎ IsNewLog log device instance put → IsNewIn (x ∷ xs) log device instance ⊎ IsNewLog log device instance put
      by (inl is) = inl (inr is)
      by (inr is) = inr is

  known_before : (before : List PutAs) (put : PutAs) (log device instance : ℕ) → IsKnown K V (before ++ put ∷ []) log device instance
      → IsKnown K V before log device instance ⊎ IsNewLog log device instance put
  known_before before put log device instance (inl known) = inl (inl known)
  known_before before put log device instance (inr new) = by (last_new before put log device instance new)
    where
      by : IsNewIn before log device instance ⊎ IsNewLog log device instance put → IsKnown K V before log device instance ⊎ IsNewLog log device instance put
      by (inl is) = inl (inr is)
      by (inr is) = inr is

  columns_same : (a b : Values) (l d i m e j : ℕ) (more rest : Values) → a ≡ Int (pos l) ∷ Int (pos d) ∷ Int (pos i) ∷ more → a ≡ Int (pos m) ∷ Int (pos e) ∷ Int (pos j) ∷ rest
      → (l ≡ m) × (d ≡ e) × (i ≡ j)
  columns_same a b l d i m e j more rest one two =
      let same : Int (pos l) ∷ Int (pos d) ∷ Int (pos i) ∷ more ≡ Int (pos m) ∷ Int (pos e) ∷ Int (pos j) ∷ rest = sym one ∙ two in (
        int_same l m (column a 0) (ap (λ (r : Values). column r 0) one) (ap (λ (r : Values). column r 0) two),
        int_same d e (column a 1) (ap (λ (r : Values). column r 1) one) (ap (λ (r : Values). column r 1) two),
        int_same i j (column a 2) (ap (λ (r : Values). column r 2) one) (ap (λ (r : Values). column r 2) two),
      )

  new_logs : (before : List PutAs) (put : PutAs) (rows : List Values) → put.tree ≡ 3 → put.is_new ≡ true → Good K V P before put
      → is_taken rows (made_log put.columns) ≡ false → Logs before rows → Logs (before ++ put ∷ []) (put_row (made_log put.columns) rows)
  new_logs before put rows tree new good free all =
      (own_behind (made_log put.columns) rows free all.0, λ log device instance known. by log device instance (known_before before put log device instance known))
    where
      by : (log device instance : ℕ) → IsKnown K V before log device instance ⊎ IsNewLog log device instance put
          → HasLogRow (put_row (made_log put.columns) rows) log device instance
      by log device instance (inl known) =
          let it = all.1 log device instance known in
          (it.0, put_has (made_log put.columns) rows free it.0 it.1, it.2, it.3, it.4)
      by log device instance (inr (is, fresh, (rest, columns))) =
          let row = log_row_is log device instance rest in
          let same : made_log put.columns ≡ made_log (Int (pos log) ∷ Int (pos device) ∷ Int (pos instance) ∷ rest) = ap made_log columns in (
            made_log put.columns,
            put_is (made_log put.columns) rows free,
            ap (λ (r : Values). column r 0) same ∙ row.0,
            ap (λ (r : Values). column r 2) same ∙ row.1,
            ap (λ (r : Values). column r 3) same ∙ row.2,
          )

  old_logs : (before : List PutAs) (put : PutAs) (rows after_rows : List Values) → put.tree ≡ 3 → put.is_new ≡ false → Good K V P before put
      → ((id : ℤ) → rowid (made_log put.columns) ≡ Int id → TakesPlace id (made_log put.columns) rows after_rows) → Logs before rows → Logs (before ++ put ∷ []) after_rows
  old_logs before put rows after_rows tree old good takes all =
      let it = good.log tree in
      let row = log_row_is it.0 it.1 it.2 it.3 in
      let same : made_log put.columns ≡ made_log (Int (pos it.0) ∷ Int (pos it.1) ∷ Int (pos it.2) ∷ it.3) = ap made_log it.4 in
      let id_is : rowid (made_log put.columns) ≡ Int (pos it.0) = ap (λ (r : Values). column r 0) same ∙ row.0 in
      let dev_is : column (made_log put.columns) 2 ≡ Int (pos it.1) = ap (λ (r : Values). column r 2) same ∙ row.1 in
      let ins_is : column (made_log put.columns) 3 ≡ Int (pos it.2) = ap (λ (r : Values). column r 3) same ∙ row.2 in
      let place = takes (pos it.0) id_is in
      let there = all.1 it.0 it.1 it.2 (it.5 old) in (
        own_left (pos it.0) (made_log put.columns) id_is rows after_rows place all.0,
        λ log device instance known. by place id_is dev_is ins_is there log device instance (known_before before put log device instance known),
      )
    where
      by : {L D I : ℕ} → TakesPlace (pos L) (made_log put.columns) rows after_rows → rowid (made_log put.columns) ≡ Int (pos L)
          → column (made_log put.columns) 2 ≡ Int (pos D) → column (made_log put.columns) 3 ≡ Int (pos I) → HasLogRow rows L D I
          → (log device instance : ℕ) → IsKnown K V before log device instance ⊎ IsNewLog log device instance put → HasLogRow after_rows log device instance
      by {L} {D} {I} place id_is dev_is ins_is there log device instance (inr new) = absurd (let x : true ≡ false = sym new.1 ∙ old in cc)
      by {L} {D} {I} place id_is dev_is ins_is there log device instance (inl known) =
          let one = all.1 log device instance known in
          at one (stays (pos L) (made_log put.columns) id_is rows after_rows place all.0 one.0 there.0 one.1 there.1 there.2 (pos log) one.2)
        where
          both : (one : HasLogRow rows log device instance) → one.0 ≡ there.0 → Contains after_rows (made_log put.columns) ⊎ Contains after_rows one.0 → HasLogRow after_rows log device instance
          both one same (inr still) = (one.0, still, one.2, one.3, one.4)
          both one same (inl now) =
              let l : L ≡ log = int_same L log (column one.0 0) (ap (λ (r : Values). column r 0) same ∙ there.2) one.2 in
              let d : D ≡ device = int_same D device (column one.0 2) (ap (λ (r : Values). column r 2) same ∙ there.3) one.3 in
              let i : I ≡ instance = int_same I instance (column one.0 3) (ap (λ (r : Values). column r 3) same ∙ there.4) one.4 in (
                made_log put.columns,
                now,
                id_is ∙ ap (λ (n : ℕ). Int (pos n)) l,
                dev_is ∙ ap (λ (n : ℕ). Int (pos n)) d,
                ins_is ∙ ap (λ (n : ℕ). Int (pos n)) i,
              )

          at : (one : HasLogRow rows log device instance) → Contains after_rows one.0 ⊎ ((one.0 ≡ there.0) × (Contains after_rows (made_log put.columns) ⊎ Contains after_rows one.0))
              → HasLogRow after_rows log device instance
          at one (inl still) = (one.0, still, one.2, one.3, one.4)
          at one (inr (same, either)) = both one same either

  one_logs : (before : List PutAs) (put : Put) (rows : List Values) → Good K V P before (put_as put) → IsFree 3 rows put → Logs before rows → Logs (before ++ put_as put ∷ []) (after 3 rows put)
  unfolding made_log
  one_logs before (NewDevice d) rows good free all = same_logs before (put_as (NewDevice d)) rows (λ is. let x : 1 ≡ 3 = is in omega (arith, x)) all
  one_logs before (Device d) rows good free all = same_logs before (put_as (Device d)) rows (λ is. let x : 1 ≡ 3 = is in omega (arith, x)) all
  one_logs before (Item i) rows good free all = same_logs before (put_as (Item i)) rows (λ is. let x : 5 ≡ 3 = is in omega (arith, x)) all
  one_logs before (Beginning b) rows good free all = same_logs before (put_as (Beginning b)) rows (λ is. let x : 6 ≡ 3 = is in omega (arith, x)) all
  one_logs before (Lowered b) rows good free all = same_logs before (put_as (Lowered b)) rows (λ is. let x : 6 ≡ 3 = is in omega (arith, x)) all
  one_logs before (NewLog l) rows good free all = new_logs before (put_as (NewLog l)) rows refl refl good (free refl refl) all
  one_logs before (Log l) rows good free all =
      old_logs before (put_as (Log l)) rows (after 3 rows (Log l)) refl refl good (λ id is. replaced_takes id (row_of (Log l)) is rows) all

  pub all_logs : (before : List PutAs) (puts : List Put) (rows : List Values) → Sound K V P before (map put_as puts) → AreFree 3 rows puts → Logs before rows
      → Logs (before ++ map put_as puts) (left 3 rows puts)
  all_logs before [] rows sound free all = subst (λ (l : List PutAs). Logs l rows) (sym (append-nil before)) all
  all_logs before (put ∷ puts) rows sound free all =
      subst (λ (l : List PutAs). Logs l (left 3 (after 3 rows put) puts)) (append_assoc before (put_as put ∷ []) (map put_as puts))
      (all_logs (before ++ put_as put ∷ []) puts (after 3 rows put) sound.1 free.1 (one_logs before put rows sound.0 free.0 all))

module _ (K : ℕ → ℕ → ℕ → Type 0) (V : ℕ → Value → Type 0) (P : ℕ → ℕ → Numbered → Type 0)
    (text : (device : ℕ) (v : Value) → V device v → (address : List ℕ) × (v ≡ Text address)) where
  -- ---- devices

  -- each device has its row with its address, and no two rows one id
  abbrev pub Devices : List Values → Type 0
  Devices rows = HaveOwnIds rows × ((device : ℕ) (address : List ℕ) → V device (Text address) → HasDeviceRow rows device address)

  old_devices : (before : List PutAs) (put : PutAs) (rows after_rows : List Values) → put.tree ≡ 1 → Good K V P before put
      → ((id : ℤ) → rowid (made_device put.columns) ≡ Int id → TakesPlace id (made_device put.columns) rows after_rows) → Devices rows → Devices after_rows
  old_devices before put rows after_rows tree good takes all =
      let it = (good.device tree).1 in
      let text_is = text it.0 it.1 it.3 in
      let row = device_row_is it.0 text_is.0 it.2 in
      let columns : put.columns ≡ Int (pos it.0) ∷ Text text_is.0 ∷ it.2 = it.4 ∙ ap (λ (v : Value). let r : Values = Int (pos it.0) ∷ v ∷ it.2 in r) text_is.1 in
      let same : made_device put.columns ≡ made_device (Int (pos it.0) ∷ Text text_is.0 ∷ it.2) = ap made_device columns in
      let id_is : rowid (made_device put.columns) ≡ Int (pos it.0) = ap (λ (r : Values). column r 0) same ∙ row.0 in
      let at_is : column (made_device put.columns) 2 ≡ Text text_is.0 = ap (λ (r : Values). column r 2) same ∙ row.1 in
      let place = takes (pos it.0) id_is in
      let there = all.1 it.0 text_is.0 (subst (λ (v : Value). V it.0 v) text_is.1 it.3) in (
        own_left (pos it.0) (made_device put.columns) id_is rows after_rows place all.0,
        λ device address known. by place id_is at_is there device address known,
      )
    where
      by : {D : ℕ} {A : List ℕ} → TakesPlace (pos D) (made_device put.columns) rows after_rows → rowid (made_device put.columns) ≡ Int (pos D)
          → column (made_device put.columns) 2 ≡ Text A → HasDeviceRow rows D A
          → (device : ℕ) (address : List ℕ) → V device (Text address) → HasDeviceRow after_rows device address
      by {D} {A} place id_is at_is there device address known =
          let one = all.1 device address known in
          at one (stays (pos D) (made_device put.columns) id_is rows after_rows place all.0 one.0 there.0 one.1 there.1 there.2 (pos device) one.2)
        where
          both : (one : HasDeviceRow rows device address) → one.0 ≡ there.0 → Contains after_rows (made_device put.columns) ⊎ Contains after_rows one.0 → HasDeviceRow after_rows device address
          both one same (inr still) = (one.0, still, one.2, one.3)
          both one same (inl now) =
              let d : D ≡ device = int_same D device (column one.0 0) (ap (λ (r : Values). column r 0) same ∙ there.2) one.2 in
              let a : A ≡ address = text_same A address (column one.0 2) (ap (λ (r : Values). column r 2) same ∙ there.3) one.3 in
              (made_device put.columns, now, id_is ∙ ap (λ (n : ℕ). Int (pos n)) d, at_is ∙ ap (λ (l : List ℕ). Text l) a)

          at : (one : HasDeviceRow rows device address) → Contains after_rows one.0 ⊎ ((one.0 ≡ there.0) × (Contains after_rows (made_device put.columns) ⊎ Contains after_rows one.0))
              → HasDeviceRow after_rows device address
          at one (inl still) = (one.0, still, one.2, one.3)
          at one (inr (same, either)) = both one same either

  one_devices : (before : List PutAs) (put : Put) (rows : List Values) → Good K V P before (put_as put) → IsFree 1 rows put → Devices rows → Devices (after 1 rows put)
  unfolding made_device
  one_devices before (NewDevice d) rows good free all = absurd (let x : true ≡ false = (good.device refl).0 in cc)
  one_devices before (Device d) rows good free all =
      old_devices before (put_as (Device d)) rows (after 1 rows (Device d)) refl good (λ id is. replaced_takes id (row_of (Device d)) is rows) all
  one_devices before (Item i) rows good free all = all
  one_devices before (Beginning b) rows good free all = all
  one_devices before (Lowered b) rows good free all = all
  one_devices before (NewLog l) rows good free all = all
  one_devices before (Log l) rows good free all = all

  pub all_devices : (before : List PutAs) (puts : List Put) (rows : List Values) → Sound K V P before (map put_as puts) → AreFree 1 rows puts → Devices rows
      → Devices (left 1 rows puts)
  all_devices before [] rows sound free all = all
  all_devices before (put ∷ puts) rows sound free all =
      all_devices (before ++ put_as put ∷ []) puts (after 1 rows put) sound.1 free.1 (one_devices before put rows sound.0 free.0 all)
