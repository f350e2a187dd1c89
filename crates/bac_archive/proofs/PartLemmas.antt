-- The part that follows on an archive is one.
use Rattle.std.proofs.Common.{◌≡◌, ◌⊎◌, inl, inr, ℕ, ℤ, zero, suc, pos, ◌+◌, ◌/◌, ◌<◌, ◌≤◌, ◌==◌, Bool, true, false, ◌||◌, cond, if◌then◌else◌, List, [], ◌∷◌, ◌++◌, map, reverse, filter, refl, sym, ap, subst, ◌∙◌, arith, eq-eqb}
use Rattle.std.specs.List.{AllByRecursion, Contains}
use Rattle.std.proofs.lemmas.Bool.{both_ways, eqb-true}
use Rattle.std.proofs.lemmas.List.Sorted.{Contains-permutation, IsPermutation-reverse, IsPermutation-sym}
use Rattle.sqlite_value.specs.declared.value.Value.TheVariants.{Int}
use Rattle.sqlite_value.specs.Order.{Row as Values, column}
use Rattle.sqlite_rules.specs.Edit.{is_taken}
use Rattle.sqlite_schema.specs.declared.schema.Table.{Table}
use Rattle.sqlite_trees.specs.Tree.{Trees, rowid, put_row}
use Rattle.sqlite.specs.Effect.{Database}
use Rattle.sqlite.specs.Values.{or_null}
use Rattle.bac_archive.specs.Ask.{shown}
use Rattle.bac_archive.specs.Archive.{EndsAt, HasId, HaveIdsBelow, IsArchive, RiseFrom}
use Rattle.bac_archive.specs.Follow.{PartIsArchive, puts_of}
use Rattle.bac_archive.specs.Keep.{AreFit, GoesOn, with_put}
use Rattle.bac_archive.specs.Put.{AreFree, IsFree, after, beginning_columns, device_columns, item_columns, left, log_columns, row_of}
use Rattle.bac_archive.specs.Read.{numbers}
use Rattle.bac_archive.specs.Stands.{StandsAs, epochs, is_in, is_last}
use Rattle.bac_archive.specs.declared.row.BeginningRow.{BeginningRow}
use Rattle.bac_archive.specs.declared.row.DeviceRow.{DeviceRow}
use Rattle.bac_archive.specs.declared.row.ItemRow.{ItemRow}
use Rattle.bac_archive.specs.declared.row.LogRow.{LogRow}
use Rattle.bac_archive.specs.declared.row.Put.{Put}
use Rattle.bac_archive.specs.declared.row.Put.TheVariants.{NewDevice, NewLog, Beginning, Item}
use Rattle.bac_archive.specs.declared.standing.Standing.{Standing}
use Rattle.bac_archive.proofs.ApartLemmas.{ends_behind}
use Rattle.bac_archive.proofs.FallLemmas.{FallFrom, apart_fall, fall_filter, fall_rises, fall_take, filter_turned, map_turned}
use Rattle.bac_archive.proofs.KeepLemmas.{below_one, keep_archive, last_is, of_device}
use Rattle.bac_archive.proofs.LeftLemmas.{HasInt, from_put, has_put, put_is}
use Rattle.bac_archive.proofs.OrphanLemmas.{from_map, in_map, new_is}
use Rattle.bac_archive.proofs.PutLemmas.{put_nothing}
use Rattle.bac_archive.proofs.ReplaceLemmas.{in_filter}
use Rattle.bac_archive.proofs.SpanLemmas.{same_end, they_rise}

-- ---- batches, one after the other

fit_both : (xs ys : List Put) (trees : Trees) → AreFit trees xs → AreFit (λ tree. left tree (trees tree) xs) ys → AreFit trees (xs ++ ys)
fit_both [] ys trees p q = q
fit_both (x ∷ xs) ys trees p q = (p.0, fit_both xs ys (with_put trees x) p.1 q)

free_apart : (tree : ℕ) (xs ys : List Put) (rows : List Values) → AreFree tree rows (xs ++ ys) → AreFree tree rows xs × AreFree tree (left tree rows xs) ys
free_apart tree [] ys rows free = (tt, free)
free_apart tree (x ∷ xs) ys rows free = let rest = free_apart tree xs ys (after tree rows x) free.1 in ((free.0, rest.0), rest.1)

-- rows that are put elsewhere
untouched : {X : Type 0} (tree : ℕ) (f : X → Put) → ((x : X) (rows : List Values) → after tree rows (f x) ≡ rows) → (xs : List X) (rows : List Values) → left tree rows (map f xs) ≡ rows
untouched tree f same [] rows = refl
untouched tree f same (x ∷ xs) rows = ap (λ r. left tree r (map f xs)) (same x rows) ∙ untouched tree f same xs rows

-- new rows are there, and what was there before them
module _ {X : Type 0} (tree : ℕ) (f : X → Put) (id : X → ℕ) (puts : (x : X) (rows : List Values) → after tree rows (f x) ≡ put_row (row_of (f x)) rows)
    (id_is : (x : X) → rowid (row_of (f x)) ≡ Int (pos (id x))) (is_free : (x : X) (rows : List Values) → IsFree tree rows (f x) → is_taken rows (row_of (f x)) ≡ false) where
  on_stay : (xs : List X) (rows : List Values) → AreFree tree rows (map f xs) → (n : ℤ) → HasInt rows n → HasInt (left tree rows (map f xs)) n
  on_stay [] rows free n has = has
  on_stay (x ∷ xs) rows free n has =
      on_stay xs (after tree rows (f x)) free.1 n (subst (λ r. HasInt r n) (sym (puts x rows)) (has_put (row_of (f x)) rows (is_free x rows free.0) n has))

  come : (xs : List X) (rows : List Values) → AreFree tree rows (map f xs) → (x : X) → Contains xs x → HasInt (left tree rows (map f xs)) (pos (id x))
  come [] rows free x (i, lt, is) = absurd (omega (arith, lt))
  come (y ∷ xs) rows free x (zero, lt, is) =
      let there : HasInt (put_row (row_of (f y)) rows) (pos (id y)) = (row_of (f y), put_is (row_of (f y)) rows (is_free y rows free.0), id_is y) in
      subst (λ z. HasInt (left tree (after tree rows (f y)) (map f xs)) (pos (id z))) is
      (on_stay xs (after tree rows (f y)) free.1 (pos (id y)) (subst (λ r. HasInt r (pos (id y))) (sym (puts y rows)) there))
  come (y ∷ xs) rows free x (suc i, lt, is) = come xs (after tree rows (f y)) free.1 x (i, omega (arith, lt), is)

-- ---- ids in range

fit_devices : (ds : List DeviceRow) (trees : Trees) → AllByRecursion (λ d. d.id < 65536) ds → AreFit trees (map NewDevice ds)
fit_devices [] trees all = tt
fit_devices (d ∷ ds) trees all = (all.0, fit_devices ds (with_put trees (NewDevice d)) all.1)

fit_logs : (ls : List LogRow) (trees : Trees) → AllByRecursion (λ l. l.id < 65536) ls → ((l : LogRow) → Contains ls l → HasId (trees 1) l.device) → AreFit trees (map NewLog ls)
fit_logs [] trees all have = tt
fit_logs (l ∷ ls) trees all have = ((all.0, have l (0, omega arith, refl)), fit_logs ls (with_put trees (NewLog l)) all.1 (λ x there. have x (suc there.0, omega (arith, there.1), there.2)))

fit_beginnings : (bs : List BeginningRow) (trees : Trees) → AllByRecursion (λ b. b.id < 2147483648) bs → AreFit trees (map Beginning bs)
fit_beginnings [] trees all = tt
fit_beginnings (b ∷ bs) trees all = (all.0, fit_beginnings bs (with_put trees (Beginning b)) all.1)

-- the ids of what is told of a table are in range
module _ {X : Type 0} (most n : ℕ) (columns : X → Values) (id : X → ℕ) (first : (x : X) → column (columns x) 0 ≡ Int (pos (id x))) (table : List Values) (below : HaveIdsBelow most table) where
  told_below : (xs : List X) → ((row : Values) → Contains (map columns xs) row → Contains (map (shown n) table) row) → AllByRecursion (λ x. id x < most) xs
  told_below [] there = tt
  told_below (x ∷ xs) there =
      let back = from_map (shown n) table (columns x) (there (columns x) (0, omega arith, refl)) in
      let it = below_one most table below back.0 back.1 in
      let both : Int (pos (id x)) ≡ Int (pos it.0) = sym (first x) ∙ ap (λ r. column r 0) (sym back.2) ∙ it.1 in
      let same : id x ≡ it.0 = cc in
      (omega (arith, same, it.2), told_below xs (λ row has. there row (later row has)))
    where
      later : (row : Values) → Contains (map columns xs) row → Contains (map columns (x ∷ xs)) row
      later row (i, lt, is) = (suc i, omega (arith, lt), is)

-- ---- items

-- items go on where each epoch stands: what is there of it ends below an id, from which on they rise
abbrev GoOn : Trees → List ItemRow → Type 0
GoOn trees items = (place : ℕ) → (free : ℕ)
    × ((row : Values) (n end : ℕ) → Contains (trees 5) row → column row 0 ≡ Int (pos n) → n / numbers ≡ place → EndsAt (column row 2) n end → end < free)
    × RiseFrom free (filter (is_in numbers place) (map item_columns items))

-- one is of an epoch that has begun, and of a log that has a row
abbrev IsGrounded : Trees → ItemRow → Type 0
IsGrounded trees item = (id : ℕ) × (item.id ≡ pos id) × HasId (trees 6) (id / numbers) × HasId (trees 3) (id / numbers / epochs)

in_place : (item : ItemRow) (id place : ℕ) → item.id ≡ pos id → is_in numbers place (item_columns item) ≡ (id / numbers == place)
in_place item id place is = rw is refl

taken_first : (b : Bool) (row : Values) (rows : List Values) → b ≡ true → cond b (row ∷ rows) rows ≡ row ∷ rows
taken_first true row rows is = refl
taken_first false row rows is = absurd cc

left_out : (b : Bool) (row : Values) (rows : List Values) → b ≡ false → cond b (row ∷ rows) rows ≡ rows
left_out false row rows is = refl
left_out true row rows is = absurd cc

fit_items : (items : List ItemRow) (trees : Trees) → AreFree 5 (trees 5) (map Item items) → AllByRecursion (IsGrounded trees) items → GoOn trees items → AreFit trees (map Item items)
fit_items [] trees free all on = tt
fit_items (item ∷ items) trees free ((id, id_is, begun, known), all) on = (goes, fit_items items (with_put trees (Item item)) free.1 (still items all) next)
  where
    place : ℕ
    place = id / numbers

    rest : ℕ → List Values
    rest p = filter (is_in numbers p) (map item_columns items)

    here : is_in numbers place (item_columns item) ≡ true
    here = in_place item id place id_is ∙ eq-eqb place place refl

    rise : RiseFrom (on place).0 (item_columns item ∷ rest place)
    rise = subst (RiseFrom (on place).0) (taken_first (is_in numbers place (item_columns item)) (item_columns item) (rest place) here) (on place).2

    same_id : rise.1.0 ≡ id
    same_id = let both : Int (pos rise.1.0) ≡ Int (pos id) = sym rise.1.2 ∙ ap Int id_is in cc

    end : ℕ
    end = rise.1.1

    ends : EndsAt (or_null (λ n. Int (pos n)) item.last) id end
    ends = subst (λ n. EndsAt (or_null (λ n. Int (pos n)) item.last) n end) same_id rise.1.3

    from : (on place).0 ≤ id
    from = omega (arith, rise.1.4, same_id)

    goes : GoesOn trees item
    goes = record {
      id = id;
      end = end;
      id_is = id_is;
      ends = ends;
      begun = begun;
      known = known;
      behind = λ row n e there at of stops. let below = (on place).1 row n e there at of stops in omega (arith, below, from);
    }

    still : (xs : List ItemRow) → AllByRecursion (IsGrounded trees) xs → AllByRecursion (IsGrounded (with_put trees (Item item))) xs
    still [] all = tt
    still (x ∷ xs) all = (all.0, still xs all.1)

    is_free : is_taken (trees 5) (row_of (Item item)) ≡ false
    is_free = free.0 refl refl

    new_ends : (n e : ℕ) → column (row_of (Item item)) 0 ≡ Int (pos n) → EndsAt (column (row_of (Item item)) 2) n e → (n ≡ id) × (e ≡ end)
    new_ends n e at stops =
        let both : Int (pos n) ≡ Int (pos id) = sym at ∙ ap Int id_is in
        let same : n ≡ id = cc in
        (same, same_end (or_null (λ n. Int (pos n)) item.last) id e end (subst (λ i. EndsAt (or_null (λ n. Int (pos n)) item.last) i e) same (subst (λ v. EndsAt v n e) (last_is item.last) stops)) ends)

    next : GoOn (with_put trees (Item item)) items
    next p = go (id / numbers == p) refl
      where
        go : (b : Bool) → (id / numbers == p) ≡ b → (free : ℕ)
            × ((row : Values) (n e : ℕ) → Contains (put_row (row_of (Item item)) (trees 5)) row → column row 0 ≡ Int (pos n) → n / numbers ≡ p → EndsAt (column row 2) n e → e < free)
            × RiseFrom free (rest p)
        go true is =
            let at_place : place ≡ p = eqb-true place p is in (
              rise.0,
              λ row n e there at of stops. one row n e (from_put (row_of (Item item)) (trees 5) is_free row there) at (of ∙ sym at_place) stops,
              subst (λ q. RiseFrom rise.0 (rest q)) at_place rise.2,
            )
          where
            one : (row : Values) (n e : ℕ) → (row_of (Item item) ≡ row) ⊎ Contains (trees 5) row → column row 0 ≡ Int (pos n) → n / numbers ≡ place → EndsAt (column row 2) n e → e < rise.0
            one row n e (inl same) at of stops =
                let it = new_ends n e (subst (λ r. column r 0 ≡ Int (pos n)) (sym same) at) (subst (λ r. EndsAt (column r 2) n e) (sym same) stops) in
                omega (arith, it.1, rise.1.5)
            one row n e (inr there) at of stops =
                let below = (on place).1 row n e there at of stops in
                let high : id ≤ end = ends_behind (or_null (λ n. Int (pos n)) item.last) id end ends in
                omega (arith, below, from, high, rise.1.5)
        go false other = (
          (on p).0,
          λ row n e there at of stops. one row n e (from_put (row_of (Item item)) (trees 5) is_free row there) at of stops,
          subst (RiseFrom (on p).0) (left_out (is_in numbers p (item_columns item)) (item_columns item) (rest p) (in_place item id p id_is ∙ other)) (on p).2,
        )
          where
            one : (row : Values) (n e : ℕ) → (row_of (Item item) ≡ row) ⊎ Contains (trees 5) row → column row 0 ≡ Int (pos n) → n / numbers ≡ p → EndsAt (column row 2) n e → e < (on p).0
            one row n e (inl same) at of stops =
                let it = new_ends n e (subst (λ r. column r 0 ≡ Int (pos n)) (sym same) at) (subst (λ r. EndsAt (column r 2) n e) (sym same) stops) in
                absurd (both_ways _ other (eq-eqb place p (ap (λ k. k / numbers) (sym it.0) ∙ of)))
            one row n e (inr there) at of stops = (on p).1 row n e there at of stops

-- ---- the part

found_last : (bs : List BeginningRow) (place : ℕ) → is_last bs place ≡ true → (b : BeginningRow) × Contains bs b × (b.id ≡ place)
found_last [] place some = absurd (let e = some in cc)
found_last (b ∷ bs) place some = go (b.id == place) refl some (found_last bs place)
  where
    go : (t : Bool) → (b.id == place) ≡ t → (t || is_last bs place) ≡ true → (is_last bs place ≡ true → (x : BeginningRow) × Contains bs x × (x.id ≡ place)) → (x : BeginningRow) × Contains (b ∷ bs) x × (x.id ≡ place)
    go true is some rest = (b, (0, omega arith, refl), eqb-true b.id place is)
    go false is some rest = let it = rest some in (it.0, (suc it.1.0, omega (arith, it.1.1), it.1.2), it.2)

some_wanted : (b : Bool) (rows : List Values) (row : Values) → Contains (if b then rows else []) row → b ≡ true
some_wanted true rows row has = refl
some_wanted false rows row (i, lt, is) = absurd (omega (arith, lt))

module _ (old : Database) (is : IsArchive old) (s : Standing) (told : StandsAs old.trees s) where
  devices_below : AllByRecursion (λ d. d.id < 65536) s.devices.items
  devices_below = told_below 65536 10 device_columns (λ d. d.id) (λ d. refl) (old.trees 1) is.in_range.devices s.devices.items (λ row. Contains-permutation _ _ row (IsPermutation-sym _ _ told.devices))

  logs_below : AllByRecursion (λ l. l.id < 65536) s.logs.items
  logs_below = told_below 65536 9 log_columns (λ l. l.id) (λ l. refl) (old.trees 3) is.in_range.logs s.logs.items (λ row. Contains-permutation _ _ row (IsPermutation-sym _ _ told.logs))

  -- the device of a log that is told is told
  device_told : (l : LogRow) → Contains s.logs.items l → (d : DeviceRow) × Contains s.devices.items d × (d.id ≡ l.device)
  device_told l there =
      let log = from_map (shown 9) (old.trees 3) (log_columns l) (Contains-permutation _ _ (log_columns l) (IsPermutation-sym _ _ told.logs) (in_map log_columns s.logs.items l there)) in
      let named = of_device (old.trees 1) 2 (old.trees 3) is.of_devices log.0 log.1 in
      let row = named.2.0 in
      let d = from_map device_columns s.devices.items (shown 10 row) (Contains-permutation _ _ (shown 10 row) told.devices (in_map (shown 10) (old.trees 1) row named.2.1)) in
      let one : Int (pos d.0.id) ≡ Int (pos named.0) = ap (λ r. column r 0) d.2 ∙ named.2.2 in
      let two : Int (pos named.0) ≡ Int (pos l.device) = sym named.1 ∙ ap (λ r. column r 1) log.2 in
      (d.0, d.1, let both = one ∙ two in cc)

  last_below : AllByRecursion (λ b. b.id < 2147483648) s.last.items
  last_below = told_below 2147483648 2 beginning_columns (λ b. b.id) (λ b. refl) (old.trees 6) is.in_range.beginnings s.last.items told.last.there

  -- an item that is told is of the last epoch of a log that is told
  record IsOfTold (item : ItemRow) : Type 0 where
    pub id : ℕ
    pub id_is : item.id ≡ pos id
    pub beginning : BeginningRow
    pub begun : Contains s.last.items beginning
    pub epoch : beginning.id ≡ id / numbers
    pub log : LogRow
    pub known : Contains s.logs.items log
    pub log_is : log.id ≡ id / numbers / epochs

  of_told : (item : ItemRow) → Contains s.newest.items item → IsOfTold item
  of_told item has =
      let row = item_columns item in
      let here = in_map item_columns s.newest.items item has in
      let back = from_map (shown 5) (old.trees 5) row (told.newest.there row here) in
      let begun = is.begun back.0 back.1 in
      let id = begun.0 in
      let at : Int item.id ≡ Int (pos id) = ap (λ r. column r 0) (sym back.2) ∙ begun.1 in
      let id_is : item.id ≡ pos id = cc in
      let place = id / numbers in
      let of : is_in numbers place row ≡ true = in_place item id place id_is ∙ eq-eqb place place refl in
      let some = subst (λ l. Contains l row) (told.newest.first place) (in_filter (is_in numbers place) (map item_columns s.newest.items) row here of) in
      let last = found_last s.last.items place (some_wanted (is_last s.last.items place) _ row some) in
      let log = from_map log_columns s.logs.items (shown 9 begun.3.0) (Contains-permutation _ _ _ told.logs (in_map (shown 9) (old.trees 3) begun.3.0 begun.3.1)) in
      let both : Int (pos log.0.id) ≡ Int (pos (id / numbers / epochs)) = ap (λ r. column r 0) log.2 ∙ begun.3.2 in
      let log_is : log.0.id ≡ id / numbers / epochs = cc in
      record { id = id; id_is = id_is; beginning = last.0; begun = last.1; epoch = last.2; log = log.0; known = log.1; log_is = log_is }

  -- those of each epoch rise
  rise_at : (place : ℕ) → RiseFrom 0 (filter (is_in numbers place) (map item_columns (reverse s.newest.items)))
  rise_at place =
      let all = told.newest.all in
      let fall = apart_fall (old.trees 5) all told.newest.each told.newest.falling is.apart in
      let few = fall_take 3 fall.0 (filter (is_in numbers place) all) (fall_filter (is_in numbers place) fall.0 all fall.1) in
      let down : FallFrom fall.0 (filter (is_in numbers place) (map item_columns s.newest.items)) = subst (FallFrom fall.0) (sym (told.newest.first place)) (chosen _ (is_last s.last.items place) fall.0 few) in
      let up = fall_rises fall.0 _ down in
      let turned : filter (is_in numbers place) (map item_columns (reverse s.newest.items)) ≡ reverse (filter (is_in numbers place) (map item_columns s.newest.items)) =
      ap (filter (is_in numbers place)) (map_turned item_columns s.newest.items) ∙ filter_turned (is_in numbers place) (map item_columns s.newest.items) in
      subst (RiseFrom 0) (sym turned) (they_rise 0 up.0 _ up.1)
    where
      chosen : (rows : List Values) (b : Bool) (top : ℕ) → FallFrom top rows → FallFrom top (if b then rows else [])
      chosen rows true top fall = fall
      chosen rows false top fall = tt

  abbrev D : List Put
  D = map NewDevice s.devices.items

  abbrev L : List Put
  L = map NewLog s.logs.items

  abbrev B : List Put
  B = map Beginning s.last.items

  abbrev I : List Put
  I = map Item (reverse s.newest.items)

  -- what is put of it into an archive that has nothing is fit
  module _ (made : Database) (is_made : IsArchive made) (no_items : made.trees 5 ≡ []) (free_devices : AreFree 1 (made.trees 1) (puts_of s)) (free_logs : AreFree 3 (made.trees 3) (puts_of s)) (free_items : AreFree 5 (made.trees 5) (puts_of s))
      (free_last : AreFree 6 (made.trees 6) (puts_of s)) where
    abbrev after_devices : Trees
    after_devices tree = left tree (made.trees tree) D

    abbrev after_logs : Trees
    after_logs tree = left tree (after_devices tree) L

    abbrev after_last : Trees
    after_last tree = left tree (after_logs tree) B

    no_items_yet : after_last 5 ≡ []
    no_items_yet = untouched 5 Beginning (λ x rows. refl) s.last.items (after_logs 5) ∙ untouched 5 NewLog (λ x rows. refl) s.logs.items (after_devices 5)
        ∙ untouched 5 NewDevice (λ x rows. refl) s.devices.items (made.trees 5) ∙ no_items

    has_device : (l : LogRow) → Contains s.logs.items l → HasId (after_devices 1) l.device
    has_device l there =
        let it = device_told l there in
        subst (HasId (after_devices 1)) it.2
        (come 1 NewDevice (λ d. d.id) (λ x rows. refl) (λ x. refl) (λ x rows free. free refl refl) s.devices.items (made.trees 1) (free_apart 1 D (L ++ (B ++ I)) (made.trees 1) free_devices).0 it.0 it.1)

    has_log : (l : LogRow) → Contains s.logs.items l → HasId (after_last 3) l.id
    has_log l there =
        let free = (free_apart 3 L (B ++ I) (after_devices 3) (free_apart 3 D (L ++ (B ++ I)) (made.trees 3) free_logs).1).0 in
        subst (λ r. HasId r l.id) (sym (untouched 3 Beginning (λ x rows. refl) s.last.items (after_logs 3)))
        (come 3 NewLog (λ l. l.id) (λ x rows. refl) (λ x. refl) (λ x rows free. free refl refl) s.logs.items (after_devices 3) free l there)

    has_beginning : (b : BeginningRow) → Contains s.last.items b → HasId (after_last 6) b.id
    has_beginning b there =
        let free = (free_apart 6 B I (after_logs 6) (free_apart 6 L (B ++ I) (after_devices 6) (free_apart 6 D (L ++ (B ++ I)) (made.trees 6) free_last).1).1).0 in
        come 6 Beginning (λ b. b.id) (λ x rows. refl) (λ x. refl) (λ x rows free. free refl refl) s.last.items (after_logs 6) free b there

    grounded : (items : List ItemRow) → ((item : ItemRow) → Contains items item → Contains s.newest.items item) → AllByRecursion (IsGrounded after_last) items
    grounded [] there = tt
    grounded (item ∷ items) there =
        let it = of_told item (there item (0, omega arith, refl)) in (
          (it.id, it.id_is, subst (HasId (after_last 6)) it.epoch (has_beginning it.beginning it.begun), subst (HasId (after_last 3)) it.log_is (has_log it.log it.known)),
          grounded items (λ x has. there x (suc has.0, omega (arith, has.1), has.2)),
        )

    fit : AreFit made.trees (puts_of s)
    fit =
        let free = (free_apart 5 B I (after_logs 5) (free_apart 5 L (B ++ I) (after_devices 5) (free_apart 5 D (L ++ (B ++ I)) (made.trees 5) free_items).1).1).1 in
        fit_both D (L ++ (B ++ I)) made.trees (fit_devices s.devices.items made.trees devices_below)
        (fit_both L (B ++ I) after_devices (fit_logs s.logs.items after_devices logs_below has_device)
        (fit_both B I after_logs (fit_beginnings s.last.items after_logs last_below)
        (fit_items (reverse s.newest.items) after_last free
        (grounded (reverse s.newest.items) (λ item has. Contains-permutation _ _ item (IsPermutation-sym _ _ (IsPermutation-reverse s.newest.items)) has))
        (λ place. (0, (λ row n end there. absurd (nothing row there)), rise_at place)))))
      where
        nothing : (row : Values) → Contains (after_last 5) row → ⊥
        nothing row there = let no = subst (λ l. Contains l row) no_items_yet there in omega (arith, no.1)

pub part_is_archive : PartIsArchive
part_is_archive old new is (s, told, (made, is_new, put)) =
    let is_made = new_is _ made (made, is_new, put_nothing made) in
    let once = subst (AllByRecursion (λ (t : Table). AreFree t.tree (made.trees t.tree) (puts_of s))) is_made.schema.tables.are put.once in
    keep_archive made new (puts_of s) is_made put (fit old is s told made is_made is_new.items once.1.0 once.1.1.0 once.1.1.1.0 once.1.1.1.1.0)
