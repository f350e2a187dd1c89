-- Why a row isn't read.
use Rattle.std.proofs.Common.{◌≡◌, ◌≢◌, ◌⊎◌, ℕ, zero, suc, pos, ◌<◌, ◌≤◌, ◌+◌, List, [], ◌∷◌, ◌++◌, map, take, drop, get_or, length, refl, sym, ap, subst, ◌∙◌, inl, inr, arith, Some, Result, Err, IfErr, slice_get}
use Rattle.sqlite_value.specs.declared.value.Value.TheVariants.{Int}
use Rattle.sqlite_value.specs.Order.{Row as Values, column}
use Rattle.sqlite.specs.declared.error.Error.{Error}
use Rattle.sqlite.specs.declared.error.Error.TheVariants.{SqliteFailure, QueryReturnedNoRows}
use Rattle.sqlite.specs.declared.error.ErrorCode.TheVariants.{OutOfMemory}
use Rattle.sqlite.specs.Reading.{IsReadError}
use Rattle.std.proofs.lemmas.List.{map-append, take_more, take-append-drop}
use Rattle.std.specs.List.{AllByRecursion, Contains}
use Rattle.std.specs.List.Sorted.{IsPermutation}
use Rattle.std.proofs.lemmas.List.Elements.{All-map, Contains-append_left, Contains-push, recursion_from_All}
use Rattle.std.proofs.lemmas.List.Sorted.{All-permutation, IsPermutation-sym, length_permutation, Contains-permutation}
use Rattle.sqlite_trees.specs.Tree.{Trees}
use Rattle.sqlite_trees.specs.declared.store.Store.{Ghosts}
use Rattle.sqlite.specs.Held.{Held, state}
use Rattle.sqlite.specs.Effect.{Database}
use Rattle.sqlite.specs.State.{IsUnchanged}
use Rattle.bac_archive.proofs.AskLemmas.{as_was_behind}
use Rattle.bac_archive.specs.Ask.{AreAnswers, IsAnswer, first, shown}
use Rattle.bac_archive.specs.Read.{Kind, below, IsOf, IsUnread, FailsToRead, FailsToReadOne, archive_kinds, item_kinds}
use Rattle.bac_archive.specs.Stands.{FailsToTell, HasUnread, HasUnreadIn, IsNotTold, kinds_of}
use Rattle.bac_archive.specs.declared.asking.Question.TheVariants.{Archive, Devices, Logs, Items}
use Rattle.bac_archive.specs.declared.asking.Question.{Question}
use Rattle.bac_archive.specs.declared.asking.Tables.{Tables}
use Rattle.sqlite_value.specs.declared.value.Value.{Value}
use Rattle.bac_archive.proofs.RowsLemmas.{because}

-- a column that the kit doesn't read isn't of its kind, unless there is no memory
pub unread : (kind : Kind) (at : ℕ) (row : Values) (Readable : Type 0) (e : Error) → (IsOf kind (column row at) → Readable) → IsReadError at (column row at) e
    → (e ≢ SqliteFailure OutOfMemory → at < length row → Readable → ⊥) → (e ≡ SqliteFailure OutOfMemory) ⊎ IsUnread kind at row e
unread kind at row Readable e reads (inl index) h = inr ((λ lt is. h (λ none. absurd cc) lt (reads is)), inl index)
unread kind at row Readable e reads (inr (inl wrong)) h = inr ((λ lt is. h (λ none. absurd cc) lt (reads is)), inr (inl wrong))
unread kind at row Readable e reads (inr (inr (inl range))) h = inr ((λ lt is. h (λ none. absurd cc) lt (reads is)), inr (inr (inl range)))
unread kind at row Readable e reads (inr (inr (inr (inl utf8)))) h = inr ((λ lt is. h (λ none. absurd cc) lt (reads is)), inr (inr (inr (inl utf8))))
unread kind at row Readable e reads (inr (inr (inr (inr none)))) h = inl none

-- and so its row isn't read
pub row_unread : (kinds : List Kind) (at : ℕ) (kind : Kind) (row : Values) (e : Error) → slice_get kinds at ≡ Some kind → (e ≡ SqliteFailure OutOfMemory) ⊎ IsUnread kind at row e
    → FailsToRead kinds row e
row_unread kinds at kind row e is (inl none) = inl none
row_unread kinds at kind row e is (inr it) = inr (at, kind, is, it)

-- what a function says that reads a column of its row, and gives up
pub got : {A : Type 0} (r : Result A Error) (kinds : List Kind) (at : ℕ) (kind : Kind) (row : Values) (Readable : Type 0) (e : Error) → r ≡ Err e → slice_get kinds at ≡ Some kind
    → (IsOf kind (column row at) → Readable) → IsReadError at (column row at) e → (e ≢ SqliteFailure OutOfMemory → at < length row → Readable → ⊥) → IfErr r (FailsToRead kinds row)
got r kinds at kind row Readable e is has reads named wrong = because r e _ is (row_unread kinds at kind row e has (unread kind at row Readable e reads named wrong))

-- the same where a function of it said so
pub got_by : {A : Type 0} (r : Result A Error) (kinds : List Kind) (at : ℕ) (kind : Kind) (row : Values) (e : Error) → r ≡ Err e → slice_get kinds at ≡ Some kind
    → (e ≡ SqliteFailure OutOfMemory) ⊎ IsUnread kind at row e → IfErr r (FailsToRead kinds row)
got_by r kinds at kind row e is has why = because r e _ is (row_unread kinds at kind row e has why)

-- a number that is read and is too great isn't below
pub too_great : (most at n : ℕ) (row : Values) (e : Error) → Int (pos n) ≡ column row at → most ≤ n → IsReadError at (column row at) e → IsUnread (below most) at row e
too_great most at n row e reads great named = ((λ lt is. let same : n ≡ is.0 = same_number (reads ∙ is.1) in absurd (omega (arith, great, same, is.2))), named)
  where
    same_number : {a b : ℕ} → Int (pos a) ≡ Int (pos b) → a ≡ b
    same_number e = cc

-- one row more is read
pub one_read : {X : Type 0} (f : X → Values) (h : Values → Values) (xs : List X) (x : X) (rows : List Values) (k : ℕ) (row : Values) → k < length rows → row ≡ get_or rows k row
    → map f xs ≡ map h (take k rows) → f x ≡ h row → map f (xs ++ x ∷ []) ≡ map h (take (k + 1) rows)
one_read f h xs x rows k row lt at was is =
    let more : take (k + 1) rows ≡ take k rows ++ row ∷ [] = take_more rows k row lt ∙ ap (λ z. take k rows ++ z ∷ []) (sym at) in
    map-append f xs (x ∷ []) ∙ ap (λ l. l ++ f x ∷ []) was ∙ ap (λ z. map h (take k rows) ++ z ∷ []) is ∙ sym (map-append h (take k rows) (row ∷ [])) ∙ ap (map h) (sym more)

-- the first rows with one more, and with those behind that
pub one_more_row : (rows : List Values) (k : ℕ) (row : Values) → k < length rows → row ≡ get_or rows k row → take k rows ++ row ∷ [] ≡ take (k + 1) rows
one_more_row rows k row lt at = sym (take_more rows k row lt ∙ ap (λ z. take k rows ++ z ∷ []) (sym at))

pub with_rest : (rows : List Values) (k : ℕ) (row : Values) → k < length rows → row ≡ get_or rows k row → rows ≡ take k rows ++ row ∷ drop (k + 1) rows
with_rest rows k row lt at =
    sym (take-append-drop (k + 1) rows) ∙ ap (λ l. l ++ drop (k + 1) rows) (sym (one_more_row rows k row lt at)) ∙ assoc (take k rows)
  where
    assoc : (xs : List Values) → (xs ++ row ∷ []) ++ drop (k + 1) rows ≡ xs ++ row ∷ drop (k + 1) rows
    assoc [] = refl
    assoc (x ∷ xs) = ap (λ l. x ∷ l) (assoc xs)

pub joined : (xs : List Values) (row : Values) (more : List Values) → (xs ++ row ∷ []) ++ more ≡ xs ++ row ∷ more
joined [] row more = refl
joined (x ∷ xs) row more = ap (λ l. x ∷ l) (joined xs row more)

-- an item that isn't read is one of its table
pub unread_item : (old new : Trees) (given more : List Values) (row : Values) (e : Error) → new ≡ old → IsPermutation (map (shown 5) (new 5)) ((given ++ row ∷ []) ++ more) → FailsToRead item_kinds row e → HasUnread old e
unread_item old new given more row e same each why =
    let there : Contains ((given ++ row ∷ []) ++ more) row = Contains-append_left (given ++ row ∷ []) more row (Contains-push given row) in
    let back = Contains-permutation _ _ row (IsPermutation-sym _ _ each) there in
    (Items, (row, subst (λ (t : Trees). Contains (map (shown 5) (t 5)) row) same back, why))

pub first_there : (rows : List Values) (row : Values) → slice_get rows 0 ≡ Some row → Contains rows row
first_there [] row at = absurd cc
first_there (r ∷ rows) row at = let same : r ≡ row = cc in (0, omega arith, same)

pub no_moment : (tables : Tables) (e : Error) → ((e ≡ QueryReturnedNoRows) × (tables.archive.items ≡ [])) ⊎ FailsToReadOne archive_kinds tables.archive.items e → IsNotTold tables e
no_moment tables e (inl none) = inl none
no_moment tables e (inr one) = inr (inl one)

-- a row of an answer is one of its table
pub unread_in : (q : Question) (trees : Trees) (rows : List Values) (e : Error) → IsAnswer q trees rows → FailsToReadOne (kinds_of q) rows e → HasUnreadIn q trees e
unread_in q trees rows e is (row, there, why) = (row, Contains-permutation _ _ row (IsPermutation-sym _ _ is.each) there, why)

pub unread_row : (q : Question) (trees : Trees) (rows : List Values) (e : Error) → IsAnswer q trees rows → FailsToReadOne (kinds_of q) rows e → HasUnread trees e
unread_row q trees rows e is why = (q, unread_in q trees rows e is why)

-- what the tables don't tell isn't told of the archive
pub not_told : {S : Type 0} (g : Ghosts S) (old new : Held S) (tables : Tables) (e : Error) → AreAnswers (state g old).now.trees tables → IsNotTold tables e → FailsToTell g old new e
not_told g old new tables e are (inl (is, none)) = inr (inr (inl (is, no_rows (shown 1) ((state g old).now.trees 0) (subst (IsPermutation (map (shown 1) ((state g old).now.trees 0))) none are.archive.each))))
  where
    no_rows : (f : Values → Values) (xs : List Values) → IsPermutation (map f xs) [] → xs ≡ []
    no_rows f [] same = refl
    no_rows f (x ∷ xs) same = absurd (omega (arith, length_permutation _ _ same))
not_told g old new tables e are (inr (inl one)) = inr (inl (unread_row Archive (state g old).now.trees tables.archive.items e are.archive one))
not_told g old new tables e are (inr (inr (inl one))) = inr (inl (unread_row Devices (state g old).now.trees tables.devices.items e are.devices one))
not_told g old new tables e are (inr (inr (inr one))) = inr (inl (unread_row Logs (state g old).now.trees tables.logs.items e are.logs one))

-- a row of a table has no other columns than those that are read
pub whole_rows : (n m : ℕ) (table rows : List Values) → ((r : Values) → first n (shown m r) ≡ shown m r) → IsPermutation (map (shown m) table) rows → map (first n) rows ≡ rows
whole_rows n m table rows whole same =
    agree rows (recursion_from_All _ rows (All-permutation (λ r. first n r ≡ r) _ _ same (All-map (λ r. first n r ≡ r) (shown m) table (λ i d lt. whole (get_or table i d)))))
  where
    agree : (xs : List Values) → AllByRecursion (λ r. first n r ≡ r) xs → map (first n) xs ≡ xs
    agree [] all = refl
    agree (x ∷ xs) all = ap (λ y. y ∷ map (first n) xs) all.0 ∙ ap (λ ys. x ∷ ys) (agree xs all.1)

-- rows that were read are those of their table
pub told_rows : {X : Type 0} (n m : ℕ) (f : X → Values) (table : List Values) (rows : List Values) (told : List X) → ((r : Values) → first n (shown m r) ≡ shown m r)
    → IsPermutation (map (shown m) table) rows → map f told ≡ map (first n) rows → IsPermutation (map (shown m) table) (map f told)
told_rows n m f table rows told whole same read = subst (IsPermutation (map (shown m) table)) (sym (read ∙ whole_rows n m table rows whole same)) same

-- the moment of an answer's row is that of a row of its table
pub moment_of : (table rows : List Values) (made : Value) → IsPermutation (map (shown 1) table) rows → (row : Values) × Contains rows row × (column row 1 ≡ made)
    → (row : Values) × Contains table row × (column row 2 ≡ made)
moment_of table rows made same (row, there, is) =
    let it = from_map (shown 1) table row (Contains-permutation _ _ row (IsPermutation-sym _ _ same) there) in
    (it.0, it.1, ap (λ r. column r 1) it.2 ∙ is)
  where
    from_map : (f : Values → Values) (xs : List Values) (y : Values) → Contains (map f xs) y → (x : Values) × Contains xs x × (f x ≡ y)
    from_map f [] y h = absurd (omega (arith, h.1))
    from_map f (x ∷ xs) y (zero, lt, is) = (x, (0, omega arith, refl), is)
    from_map f (x ∷ xs) y (suc i, lt, is) = let it = from_map f xs y (i, omega (arith, lt), is) in (it.0, (suc it.1.0, omega (arith, it.1.1), it.1.2), it.2)

-- why an archive isn't told that was asked before, which changed nothing
pub not_told_behind : {S : Type 0} (g : Ghosts S) (old mid new : Held S) (e : Error) → IsUnchanged (state g old) (state g mid) → FailsToTell g mid new e → FailsToTell g old new e
not_told_behind g old mid new e one (inl (q, (at, was, why))) = inl (q, (at, as_was_behind g old mid at one was, why))
not_told_behind g old mid new e one (inr (inl unread)) = inr (inl (subst (λ (d : Database). HasUnread d.trees e) one.0.now_is unread))
not_told_behind g old mid new e one (inr (inr (inl none))) = inr (inr (inl (none.0, subst (λ (d : Database). d.trees 0 ≡ []) one.0.now_is none.1)))
not_told_behind g old mid new e one (inr (inr (inr many))) = inr (inr (inr (many.0, subst (λ (d : Database). 18446744073709551615 ≤ length (d.trees 5)) one.0.now_is many.1)))
