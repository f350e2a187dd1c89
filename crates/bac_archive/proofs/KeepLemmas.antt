-- A batch that goes on where its epochs stand leaves an archive.
use Rattle.std.proofs.Common.{◌≡◌, ◌⊎◌, inl, inr, ℕ, zero, suc, pos, ◌+◌, ◌/◌, ◌<◌, ◌≤◌, false, List, [], ◌∷◌, map, Option, Some, None, refl, sym, ap, subst, ◌∙◌, arith}
use Rattle.std.specs.List.{AllByRecursion, Contains}
use Rattle.std.specs.List.Sorted.{IsPermutation}
use Rattle.std.proofs.lemmas.List.Elements.{All-from_recursion, recursion_from_All}
use Rattle.std.proofs.lemmas.List.Sorted.{IsPermutation-cons, IsPermutation-map, IsPermutation-refl, IsPermutation-sym, IsPermutation-trans, IsPermutation-swap, Contains-permutation}
use Rattle.sqlite_value.specs.declared.value.Value.{Value}
use Rattle.sqlite_value.specs.declared.value.Value.TheVariants.{Null, Int}
use Rattle.sqlite_value.specs.Order.{Row as Values, column}
use Rattle.sqlite_schema.specs.declared.schema.Kind.TheVariants.{Integer}
use Rattle.sqlite_schema.specs.declared.schema.Table.{Table}
use Rattle.sqlite_rules.specs.Cast.{cast}
use Rattle.sqlite_rules.specs.Edit.{is_taken}
use Rattle.sqlite_trees.specs.Tree.{Trees, rowid, put_row}
use Rattle.sqlite.specs.Values.{bound_value, or_null}
use Rattle.bac_archive.specs.Ask.{shown}
use Rattle.bac_archive.specs.Archive.{AreBegun, AreOfDevices, EndsAt, HasId, HasIdBelow, HaveDevices, HaveIdsBelow, IsBegunBy, IsOfDevice, IsOfVersion, LieApart, RiseFrom}
use Rattle.bac_archive.specs.Keep.{AllLieBefore, AreFit, GoesOn, IsFit, PutsKeepArchive, with_put}
use Rattle.bac_archive.specs.Put.{AreFree, IsFree, left, lowered, replaced, row_of, table_of}
use Rattle.bac_archive.specs.Read.{numbers}
use Rattle.bac_archive.specs.Schema.{HasArchive}
use Rattle.bac_archive.specs.Stands.{epochs}
use Rattle.bac_archive.specs.declared.row.ItemRow.{ItemRow}
use Rattle.bac_archive.specs.declared.row.LogRow.{LogRow}
use Rattle.bac_archive.specs.declared.row.Put.{Put}
use Rattle.bac_archive.specs.declared.row.Put.TheVariants.{NewDevice, Device, NewLog, Log, Beginning, Lowered, Item}
use Rattle.bac_archive.proofs.LawLemmas.{keep_version}
use Rattle.bac_archive.proofs.OrphanLemmas.{from_map}
use Rattle.bac_archive.proofs.ReplaceLemmas.{put_permutes}
use Rattle.bac_archive.proofs.LeftLemmas.{TakesPlace, from_left, from_put, has_left, has_put, later, lowered_takes, replaced_takes}
use Rattle.bac_archive.proofs.RowsLemmas.{cast_int, cast_null}

-- ids stay in range
below_all : (most : ℕ) (rows : List Values) → ((row : Values) → Contains rows row → HasIdBelow most row) → HaveIdsBelow most rows
below_all most rows each = record { each = All-from_recursion (HasIdBelow most) rows (go rows each) }
  where
    go : (xs : List Values) → ((row : Values) → Contains xs row → HasIdBelow most row) → AllByRecursion (HasIdBelow most) xs
    go [] each = tt
    go (x ∷ xs) each = (each x (0, omega arith, refl), go xs (λ row there. each row (later x row xs there)))

pub below_one : (most : ℕ) (rows : List Values) → HaveIdsBelow most rows → (row : Values) → Contains rows row → HasIdBelow most row
below_one most rows all row there = go rows (recursion_from_All (HasIdBelow most) rows all.each) there
  where
    go : (xs : List Values) → AllByRecursion (HasIdBelow most) xs → Contains xs row → HasIdBelow most row
    go [] all (i, lt, is) = absurd (omega (arith, lt))
    go (x ∷ xs) all (zero, lt, is) = subst (HasIdBelow most) is all.0
    go (x ∷ xs) all (suc i, lt, is) = go xs all.1 (i, omega (arith, lt), is)

below_put : (most id : ℕ) (new : Values) (rows : List Values) → rowid new ≡ Int (pos id) → id < most → is_taken rows new ≡ false → HaveIdsBelow most rows → HaveIdsBelow most (put_row new rows)
below_put most id new rows is less free all = below_all most (put_row new rows) (λ row there. go row (from_put new rows free row there))
  where
    go : (row : Values) → (new ≡ row) ⊎ Contains rows row → HasIdBelow most row
    go row (inl same) = subst (HasIdBelow most) same (id, is, less)
    go row (inr there) = below_one most rows all row there

below_left : (most id : ℕ) (new : Values) (rows left : List Values) → rowid new ≡ Int (pos id) → id < most → TakesPlace (pos id) new rows left → HaveIdsBelow most rows → HaveIdsBelow most left
below_left most id new rows left is less took all = below_all most left (λ row there. go row (from_left (pos id) new is rows left took row there))
  where
    go : (row : Values) → (new ≡ row) ⊎ Contains rows row → HasIdBelow most row
    go row (inl same) = subst (HasIdBelow most) same (id, is, less)
    go row (inr there) = below_one most rows all row there

-- ---- items lie apart

swapped : {X : Type 0} (a b : X) (xs : List X) → IsPermutation (a ∷ b ∷ xs) (b ∷ a ∷ xs)
swapped a b xs = IsPermutation-swap (a ∷ b ∷ xs) (b ∷ a ∷ xs) 0 1 (omega arith) (omega arith) refl

-- a span is apart from another
abbrev IsApart : ℕ → ℕ → Values → Type 0
IsApart id end row = (n e : ℕ) → column row 0 ≡ Int (pos n) → EndsAt (column row 1) n e → (e < id) ⊎ (end < n)

inserted : (id end : ℕ) (span : Values) → column span 0 ≡ Int (pos id) → EndsAt (column span 1) id end → (free : ℕ) → free ≤ id → (spans : List Values) → RiseFrom free spans
    → ((row : Values) → Contains spans row → IsApart id end row) → (all : List Values) × IsPermutation (span ∷ spans) all × RiseFrom free all
inserted id end span is ends free le [] rise apart = (span ∷ [], IsPermutation-refl (span ∷ []), (end + 1, (id, end, is, ends, le, refl), tt))
inserted id end span is ends free le (r ∷ spans) (next, (n, e, at, stops, from, next_is), rise) apart =
    go (apart r (0, omega arith, refl) n e at stops) (λ le. inserted id end span is ends next le spans rise (λ row there. apart row (later r row spans there)))
  where
    go : (e < id) ⊎ (end < n) → (next ≤ id → (all : List Values) × IsPermutation (span ∷ spans) all × RiseFrom next all) → (all : List Values) × IsPermutation (span ∷ r ∷ spans) all × RiseFrom free all
    go (inl before) rest =
        let it = rest (omega (arith, before, next_is)) in
        (r ∷ it.0, IsPermutation-trans _ _ _ (swapped span r spans) (IsPermutation-cons r _ _ it.1), (next, (n, e, at, stops, from, next_is), it.2))
    go (inr behind) rest =
        (span ∷ r ∷ spans, IsPermutation-refl (span ∷ r ∷ spans), (end + 1, (id, end, is, ends, le, refl), (next, (n, e, at, stops, omega (arith, behind), next_is), rise)))

-- a span ends in its epoch
in_epoch : (v : Value) (id end : ℕ) → EndsAt v id end → end / numbers ≡ id / numbers
in_epoch Null id end is = ap (λ n. n / numbers) is
in_epoch (Int (pos last)) id end (from, below, is) = omega (arith, from, below, is)
in_epoch _ id end is = absurd is

-- and not before its id
not_before : (v : Value) (id end : ℕ) → EndsAt v id end → id ≤ end
not_before Null id end is = omega (arith, is)
not_before (Int (pos last)) id end (from, below, is) = omega (arith, from, below, is)
not_before _ id end is = absurd is

-- what lies behind all of its epoch is apart from all
apart_from : (rows : List Values) (id end : ℕ) (v : Value) → EndsAt v id end → AllLieBefore rows id → (row : Values) → Contains (map (shown 1) rows) row → IsApart id end row
apart_from rows id end v ends before row there n e at stops = go (epochs_compare (n / numbers) (id / numbers))
  where
    epochs_compare : (a b : ℕ) → (a < b) ⊎ ((a ≡ b) ⊎ (b < a))
    epochs_compare zero zero = inr (inl refl)
    epochs_compare zero (suc b) = inl (omega arith)
    epochs_compare (suc a) zero = inr (inr (omega arith))
    epochs_compare (suc a) (suc b) = elim (epochs_compare a b) [
      | inl less ↦ inl (omega (arith, less))
      | inr (inl same) ↦ inr (inl (ap suc same))
      | inr (inr more) ↦ inr (inr (omega (arith, more)))
    ]

    go : (n / numbers < id / numbers) ⊎ ((n / numbers ≡ id / numbers) ⊎ (id / numbers < n / numbers)) → (e < id) ⊎ (end < n)
    go (inl less) = inl (omega (arith, less, in_epoch (column row 1) n e stops))
    go (inr (inl same)) =
        let it = from_map (shown 1) rows row there in
        inl (before it.0 n e it.1 (ap (λ r. column r 0) it.2 ∙ at) same (subst (λ w. EndsAt w n e) (sym (ap (λ r. column r 1) it.2)) stops))
    go (inr (inr more)) = inr (omega (arith, more, in_epoch v id end ends))

-- the last number of an item is kept as it is
pub last_is : (last : Option ℕ) → cast Integer (bound_value (or_null (λ n. Int (pos n)) last)) ≡ or_null (λ n. Int (pos n)) last
last_is None = cast_null
last_is (Some n) = cast_int (pos n)

apart_put : (i : ItemRow) (trees : Trees) → GoesOn trees i → is_taken (trees 5) (row_of (Item i)) ≡ false → LieApart (trees 5) → LieApart (put_row (row_of (Item i)) (trees 5))
apart_put i trees on free (spans, same, rise) =
    let new = row_of (Item i) in
    let id_at : column (shown 1 new) 0 ≡ Int (pos on.id) = ap Int on.id_is in
    let ends : EndsAt (column (shown 1 new) 1) on.id on.end = subst (λ v. EndsAt v on.id on.end) (sym (last_is i.last)) on.ends in
    let it = inserted on.id on.end (shown 1 new) id_at ends 0 (omega arith) spans rise
    (λ row there. apart_from (trees 5) on.id on.end _ on.ends on.behind row (Contains-permutation _ _ row (IsPermutation-sym _ _ same) there)) in (
      it.0,
      IsPermutation-trans _ _ _ (IsPermutation-sym _ _ (IsPermutation-map (shown 1) _ _ (put_permutes new (trees 5) free))) (IsPermutation-trans _ _ _ (IsPermutation-cons (shown 1 new) _ _ same) it.1),
      it.2,
    )

-- ---- logs have devices

-- those of each of these logs have, if that of each does
pub have_devices : (devices : List Values) (at : ℕ) (logs : List Values) → ((log : Values) → Contains logs log → IsOfDevice devices at log) → AreOfDevices devices at logs
have_devices devices at logs each = record { each = All-from_recursion (IsOfDevice devices at) logs (go logs each) }
  where
    go : (xs : List Values) → ((log : Values) → Contains xs log → IsOfDevice devices at log) → AllByRecursion (IsOfDevice devices at) xs
    go [] each = tt
    go (x ∷ xs) each = (each x (0, omega arith, refl), go xs (λ log there. each log (later x log xs there)))

pub of_device : (devices : List Values) (at : ℕ) (logs : List Values) → AreOfDevices devices at logs → (log : Values) → Contains logs log → IsOfDevice devices at log
of_device devices at logs all log there = go logs (recursion_from_All (IsOfDevice devices at) logs all.each) there
  where
    go : (xs : List Values) → AllByRecursion (IsOfDevice devices at) xs → Contains xs log → IsOfDevice devices at log
    go [] all (i, lt, is) = absurd (omega (arith, lt))
    go (x ∷ xs) all (zero, lt, is) = subst (IsOfDevice devices at) is all.0
    go (x ∷ xs) all (suc i, lt, is) = go xs all.1 (i, omega (arith, lt), is)

-- they have where each id of a device stays
still_have : (old new logs : List Values) → ((n : ℕ) → HasId old n → HasId new n) → AreOfDevices old 2 logs → AreOfDevices new 2 logs
still_have old new logs stay all = have_devices new 2 logs (λ log there. let it = of_device old 2 logs all log there in (it.0, it.1, stay it.0 it.2))

-- a log that is put has the device that it names
put_has_device : (devices : List Values) (l : LogRow) → HasId devices l.device → IsOfDevice devices 2 (row_of (Log l))
put_has_device devices l has = (l.device, cast_int (pos l.device), has)

-- and so have those among which it is
among_have : (devices : List Values) (l : LogRow) (old new : List Values) → HasId devices l.device → ((row : Values) → Contains new row → (row_of (Log l) ≡ row) ⊎ Contains old row)
    → AreOfDevices devices 2 old → AreOfDevices devices 2 new
among_have devices l old new has from all = have_devices devices 2 new (λ log there. go log (from log there))
  where
    go : (log : Values) → (row_of (Log l) ≡ log) ⊎ Contains old log → IsOfDevice devices 2 log
    go log (inl same) = subst (IsOfDevice devices 2) same (put_has_device devices l has)
    go log (inr there) = of_device devices 2 old all log there

-- ---- a put

-- what an archive has beside its schema and its version
record Sound (trees : Trees) : Type 0 where
  pub devices : HaveIdsBelow 65536 (trees 1)
  pub logs : HaveIdsBelow 65536 (trees 3)
  pub beginnings : HaveIdsBelow 2147483648 (trees 6)
  pub of_devices : HaveDevices trees
  pub apart : LieApart (trees 5)
  pub begun : AreBegun trees

module _ (trees : Trees) (sound : Sound trees) where
  -- items stay begun where each id of a beginning and of a log stays
  still_begun : (begun known : List Values) → ((n : ℕ) → HasId (trees 6) n → HasId begun n) → ((n : ℕ) → HasId (trees 3) n → HasId known n)
      → (item : Values) → Contains (trees 5) item → IsBegunBy begun known item
  still_begun begun known one two item there = let it = sound.begun item there in (it.0, it.1, one _ it.2, two _ it.3)

  keeps_one : (put : Put) → IsFree (table_of put).tree (trees (table_of put).tree) put → IsFit trees put → Sound (with_put trees put)
  keeps_one (NewDevice d) free fit = record {
    devices = below_put 65536 d.id (row_of (NewDevice d)) (trees 1) refl fit (free refl refl) sound.devices;
    logs = sound.logs;
    beginnings = sound.beginnings;
    of_devices = still_have (trees 1) (put_row (row_of (NewDevice d)) (trees 1)) (trees 3) (λ n. has_put (row_of (NewDevice d)) (trees 1) (free refl refl) (pos n)) sound.of_devices;
    apart = sound.apart;
    begun = sound.begun;
  }
  keeps_one (Device d) free fit = record {
    devices = below_left 65536 d.id (row_of (Device d)) (trees 1) (replaced (row_of (Device d)) (trees 1)) refl fit (replaced_takes (pos d.id) (row_of (Device d)) refl (trees 1)) sound.devices;
    logs = sound.logs;
    beginnings = sound.beginnings;
    of_devices = still_have (trees 1) (replaced (row_of (Device d)) (trees 1)) (trees 3) (λ n. has_left (pos d.id) (row_of (Device d)) refl (trees 1) (replaced (row_of (Device d)) (trees 1)) (replaced_takes (pos d.id) (row_of (Device d)) refl (trees 1)) (pos n)) sound.of_devices;
    apart = sound.apart;
    begun = sound.begun;
  }
  keeps_one (NewLog l) free fit = record {
    devices = sound.devices;
    logs = below_put 65536 l.id (row_of (NewLog l)) (trees 3) refl fit.0 (free refl refl) sound.logs;
    beginnings = sound.beginnings;
    of_devices = among_have (trees 1) l (trees 3) (put_row (row_of (NewLog l)) (trees 3)) fit.1 (from_put (row_of (NewLog l)) (trees 3) (free refl refl)) sound.of_devices;
    apart = sound.apart;
    begun = still_begun (trees 6) (put_row (row_of (NewLog l)) (trees 3)) (λ n has. has) (λ n. has_put (row_of (NewLog l)) (trees 3) (free refl refl) (pos n));
  }
  keeps_one (Log l) free fit = record {
    devices = sound.devices;
    logs = below_left 65536 l.id (row_of (Log l)) (trees 3) (replaced (row_of (Log l)) (trees 3)) refl fit.0 (replaced_takes (pos l.id) (row_of (Log l)) refl (trees 3)) sound.logs;
    beginnings = sound.beginnings;
    of_devices = among_have (trees 1) l (trees 3) (replaced (row_of (Log l)) (trees 3)) fit.1 (from_left (pos l.id) (row_of (Log l)) refl (trees 3) (replaced (row_of (Log l)) (trees 3)) (replaced_takes (pos l.id) (row_of (Log l)) refl (trees 3))) sound.of_devices;
    apart = sound.apart;
    begun = still_begun (trees 6) (replaced (row_of (Log l)) (trees 3)) (λ n has. has) (λ n. has_left (pos l.id) (row_of (Log l)) refl (trees 3) (replaced (row_of (Log l)) (trees 3)) (replaced_takes (pos l.id) (row_of (Log l)) refl (trees 3)) (pos n));
  }
  keeps_one (Beginning b) free fit = record {
    devices = sound.devices;
    logs = sound.logs;
    beginnings = below_put 2147483648 b.id (row_of (Beginning b)) (trees 6) refl fit (free refl refl) sound.beginnings;
    of_devices = sound.of_devices;
    apart = sound.apart;
    begun = still_begun (put_row (row_of (Beginning b)) (trees 6)) (trees 3) (λ n. has_put (row_of (Beginning b)) (trees 6) (free refl refl) (pos n)) (λ n has. has);
  }
  keeps_one (Lowered b) free fit =
      let left = lowered (row_of (Lowered b)) (trees 6) in
      let took = lowered_takes (pos b.id) (row_of (Lowered b)) refl (trees 6) in
      record {
        devices = sound.devices;
        logs = sound.logs;
        beginnings = below_left 2147483648 b.id (row_of (Lowered b)) (trees 6) left refl fit took sound.beginnings;
        of_devices = sound.of_devices;
        apart = sound.apart;
        begun = still_begun left (trees 3) (λ n. has_left (pos b.id) (row_of (Lowered b)) refl (trees 6) left took (pos n)) (λ n has. has);
      }
  keeps_one (Item i) free fit = record {
    devices = sound.devices;
    logs = sound.logs;
    beginnings = sound.beginnings;
    of_devices = sound.of_devices;
    apart = apart_put i trees fit (free refl refl) sound.apart;
    begun = λ item there. one item (from_put (row_of (Item i)) (trees 5) (free refl refl) item there);
  }
    where
      one : (item : Values) → (row_of (Item i) ≡ item) ⊎ Contains (trees 5) item → IsBegunBy (trees 6) (trees 3) item
      one item (inl same) = subst (IsBegunBy (trees 6) (trees 3)) same (fit.id, ap Int fit.id_is, fit.begun, fit.known)
      one item (inr there) = sound.begun item there

-- ---- a batch

-- each is free at the place of its table
record AreFreeAt (trees : Trees) (puts : List Put) : Type 0 where
  pub devices : AreFree 1 (trees 1) puts
  pub logs : AreFree 3 (trees 3) puts
  pub items : AreFree 5 (trees 5) puts
  pub beginnings : AreFree 6 (trees 6) puts

first_free : (trees : Trees) (put : Put) (puts : List Put) → AreFreeAt trees (put ∷ puts) → IsFree (table_of put).tree (trees (table_of put).tree) put
first_free trees (NewDevice d) puts free = free.devices.0
first_free trees (Device d) puts free = free.devices.0
first_free trees (NewLog l) puts free = free.logs.0
first_free trees (Log l) puts free = free.logs.0
first_free trees (Beginning b) puts free = free.beginnings.0
first_free trees (Lowered b) puts free = free.beginnings.0
first_free trees (Item i) puts free = free.items.0

keeps_all : (puts : List Put) (trees : Trees) → Sound trees → AreFreeAt trees puts → AreFit trees puts → Sound (λ tree. left tree (trees tree) puts)
keeps_all [] trees sound free fit = sound
keeps_all (put ∷ puts) trees sound free fit =
    keeps_all puts (with_put trees put) (keeps_one trees sound put (first_free trees put puts free) fit.0)
    (record { devices = free.devices.1; logs = free.logs.1; items = free.items.1; beginnings = free.beginnings.1 }) fit.1

pub keep_archive : PutsKeepArchive
keep_archive old new puts is put fit =
    let has = is.schema in
    let rows = subst (AllByRecursion (λ (t : Table). new.trees t.tree ≡ left t.tree (old.trees t.tree) puts)) has.tables.are put.rows in
    let once = subst (AllByRecursion (λ (t : Table). AreFree t.tree (old.trees t.tree) puts)) has.tables.are put.once in
    let free : AreFreeAt old.trees puts = record { devices = once.1.0; logs = once.1.1.0; items = once.1.1.1.0; beginnings = once.1.1.1.1.0 } in
    let all = keeps_all puts old.trees (record { devices = is.in_range.devices; logs = is.in_range.logs; beginnings = is.in_range.beginnings; of_devices = is.of_devices; apart = is.apart; begun = is.begun }) free fit in
    record {
      schema = subst HasArchive (sym put.schema) has;
      version_is = subst IsOfVersion (sym (keep_version old new puts has put)) is.version_is;
      in_range = record {
        devices = subst (HaveIdsBelow 65536) (sym rows.1.0) all.devices;
        logs = subst (HaveIdsBelow 65536) (sym rows.1.1.0) all.logs;
        beginnings = subst (HaveIdsBelow 2147483648) (sym rows.1.1.1.1.0) all.beginnings;
      };
      of_devices = still_have _ _ (new.trees 3) (λ n. subst (λ l. HasId l n) (sym rows.1.0)) (subst (AreOfDevices _ 2) (sym rows.1.1.0) all.of_devices);
      apart = subst LieApart (sym rows.1.1.1.0) all.apart;
      begun = λ item there.
          let it = all.begun item (subst (λ l. Contains l item) rows.1.1.1.0 there) in
          (it.0, it.1, subst (λ l. HasId l (it.0 / numbers)) (sym rows.1.1.1.1.0) it.2, subst (λ l. HasId l (it.0 / numbers / epochs)) (sym rows.1.1.0) it.3);
    }
