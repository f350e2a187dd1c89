-- The rows of a log, among those of all.
use Rattle.std.proofs.Common.{arith, ◌≡◌, ℕ, ◌/◌, ◌==◌, ◌++◌, Bool, true, false, if◌then◌else◌, List, [], ◌∷◌, Option, None, Some, pos, refl, sym, ap, ◌∙◌}
use Rattle.std.specs.List.{Contains, filter, slice_get}
use Rattle.std.proofs.lemmas.Bool.{cond-true, cond-false, eqb-true, eqb-false, false≢true, false_from_ne_true}
use Rattle.std.proofs.lemmas.List.Elements.{All-contains, All-contains_itself, All-filter, filter-append, filter_passes}
use Rattle.std.proofs.lemmas.List.{append-nil}
use Rattle.std.proofs.lemmas.Option.{none-some}
use Rattle.sqlite_value.specs.declared.value.Value.{Value}
use Rattle.sqlite_value.specs.declared.value.Value.TheVariants.{Int}
use Rattle.sqlite_value.specs.Order.{Row as Values, column}
use Rattle.bac_archive.specs.Items.{number_at}
use Rattle.bac_archive.specs.Read.{numbers}
use Rattle.bac_archive.specs.Stands.{epochs, is_at, is_in}
use Rattle.bac_resume.specs.Met.{began, began_at, first_of, log_in, with_item, with_item_at}
use Rattle.bac_resume.specs.Rows.{LogTold, begins_of, items_of, told_of}

-- ---- filters

pub filtered_there : (p : Values → Bool) (xs : List Values) (x : Values) → Contains (filter p xs) x → Contains xs x
filtered_there p xs x there = All-contains (Contains xs) (filter p xs) x (All-filter p (Contains xs) xs (All-contains_itself xs)) there

pub filtered_passes : (p : Values → Bool) (xs : List Values) (x : Values) → Contains (filter p xs) x → p x ≡ true
filtered_passes p xs x there = All-contains (λ y. p y ≡ true) (filter p xs) x (filter_passes p xs) there

pub first_there : (xs : List Values) (x : Values) → slice_get xs 0 ≡ Some x → Contains xs x
first_there [] x is = absurd (none-some x is)
first_there (y ∷ xs) x is = (0, omega arith, first_is y x is)
  where
    first_is : (y x : Values) → Some y ≡ Some x → y ≡ x
    first_is y x is = grind (arith, is)

-- ---- an id tells the epoch, and the log

pub at_is : (size place : ℕ) (v : Value) → is_at size place v ≡ true → number_at v / size ≡ place
at_is size place (Int (pos id)) is = eqb-true (id / size) place is
at_is size place _ is = absurd (false≢true is)

-- a beginning that is told of a log is of it
pub begins_at : (log : ℕ) (beginnings : List Values) (begins : Values) → begins_of log beginnings ≡ Some begins → number_at (column begins 0) / epochs ≡ log
begins_at log beginnings begins is =
    at_is epochs log (column begins 0) (filtered_passes (is_in epochs log) beginnings begins (first_there (filter (is_in epochs log) beginnings) begins is))

-- an item of the epoch that begins there is of that log
pub item_at : (log era : ℕ) (item : Values) → era / epochs ≡ log → is_in numbers era item ≡ true → log_in item ≡ log
item_at log era item of_log is = ap (λ (n : ℕ). n / epochs) (at_is numbers era (column item 0) is) ∙ of_log

-- ---- rows, one after the other

one_of : (p : Values → Bool) (x : Values) → p x ≡ true → filter p (x ∷ []) ≡ x ∷ []
one_of p x is = ap (λ (b : Bool). if b then x ∷ [] else []) is

none_of : (p : Values → Bool) (x : Values) → p x ≡ false → filter p (x ∷ []) ≡ []
none_of p x is = ap (λ (b : Bool). if b then x ∷ [] else []) is

first_more : (xs : List Values) (x : Values) → slice_get (xs ++ x ∷ []) 0 ≡ first_of (slice_get xs 0) x
first_more [] x = refl
first_more (y ∷ xs) x = refl

begins_more : (log : ℕ) (beginnings : List Values) (row : Values) (b : Bool) → is_in epochs log row ≡ b →
    begins_of log (beginnings ++ row ∷ []) ≡ (if b then first_of (begins_of log beginnings) row else begins_of log beginnings)
begins_more log beginnings row true is =
    ap (λ (l : List Values). slice_get l 0) (filter-append (is_in epochs log) beginnings (row ∷ []) ∙ ap (λ (l : List Values). filter (is_in epochs log) beginnings ++ l) (one_of (is_in epochs log) row is))
    ∙ first_more (filter (is_in epochs log) beginnings) row
begins_more log beginnings row false is =
    ap (λ (l : List Values). slice_get l 0)
    (filter-append (is_in epochs log) beginnings (row ∷ []) ∙ ap (λ (l : List Values). filter (is_in epochs log) beginnings ++ l) (none_of (is_in epochs log) row is)
    ∙ append-nil (filter (is_in epochs log) beginnings))

-- what these beginnings alone tell of a log
abbrev pub begun_of : List Values → ℕ → LogTold
begun_of beginnings log = record { begins = begins_of log beginnings; newest = [] }

-- a beginning more
pub began_more : (log : ℕ) (beginnings : List Values) (row : Values) → began_at log row (begun_of beginnings log) ≡ begun_of (beginnings ++ row ∷ []) log
began_more log beginnings row = by (is_in epochs log row) refl
  where
    by : (b : Bool) → is_in epochs log row ≡ b → began_at log row (begun_of beginnings log) ≡ begun_of (beginnings ++ row ∷ []) log
    by true is =
        cond-true (is_in epochs log row) (began (begun_of beginnings log) row) (begun_of beginnings log) is
        ∙ ap (λ (o : Option Values). record { begins = o; newest = [] }) (sym (begins_more log beginnings row true is))
    by false is =
        cond-false (is_in epochs log row) (began (begun_of beginnings log) row) (begun_of beginnings log) is
        ∙ ap (λ (o : Option Values). record { begins = o; newest = [] }) (sym (begins_more log beginnings row false is))

items_more : (begins : Option Values) (items : List Values) (item : Values) → items_of begins (items ++ item ∷ []) ≡ items_of begins items ++ items_of begins (item ∷ [])
items_more None items item = refl
items_more (Some begins) items item = filter-append (is_in numbers (number_at (column begins 0))) items (item ∷ [])

other_item : (log : ℕ) (beginnings : List Values) (item : Values) (begins : Option Values) → begins_of log beginnings ≡ begins → (log_in item == log) ≡ false → items_of begins (item ∷ []) ≡ []
other_item log beginnings item None told other = refl
other_item log beginnings item (Some begins) told other =
    none_of (is_in numbers (number_at (column begins 0))) item
    (false_from_ne_true (is_in numbers (number_at (column begins 0)) item)
    (λ is. eqb-false (log_in item) log other (item_at log (number_at (column begins 0)) item (begins_at log beginnings begins told) is)))

-- an item more
pub item_more : (log : ℕ) (beginnings items : List Values) (item : Values) → with_item_at log item (told_of beginnings items log) ≡ told_of beginnings (items ++ item ∷ []) log
item_more log beginnings items item = by (log_in item == log) refl
  where
    by : (b : Bool) → (log_in item == log) ≡ b → with_item_at log item (told_of beginnings items log) ≡ told_of beginnings (items ++ item ∷ []) log
    by true is =
        cond-true (log_in item == log) (with_item (told_of beginnings items log) item) (told_of beginnings items log) is
        ∙ ap (λ (l : List Values). record { begins = begins_of log beginnings; newest = l }) (sym (items_more (begins_of log beginnings) items item))
    by false is =
        cond-false (log_in item == log) (with_item (told_of beginnings items log) item) (told_of beginnings items log) is
        ∙ ap (λ (l : List Values). record { begins = begins_of log beginnings; newest = l })
        (sym (items_more (begins_of log beginnings) items item
        ∙ ap (λ (l : List Values). items_of (begins_of log beginnings) items ++ l) (other_item log beginnings item (begins_of log beginnings) refl is)
        ∙ append-nil (items_of (begins_of log beginnings) items)))
