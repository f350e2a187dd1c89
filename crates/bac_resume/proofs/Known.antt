-- The records that are known, of items the newest first.
use Rattle.std.proofs.Common.{arith, ◌≡◌, ℕ, zero, suc, ◌+◌, ◌-◌, ◌<◌, ◌≤◌, ◌&&◌, ◌==◌, Bool, true, false, if◌then◌else◌, not, List, [], ◌∷◌, take, Option, None, Some, refl, sym, ap, subst, ◌∙◌}
use Rattle.std.specs.List.{slice_get}
use Rattle.std.specs.Option.{is_some, unwrap_or}
use Rattle.std.proofs.lemmas.Bool.{cond-false, eq-eqb, eqb-false, eqb-true, ne_eqb}
use Rattle.sqlite_value.specs.Order.{Row as Values, column}
use Rattle.bac_archive.specs.Items.{last_at, number_in}
use Rattle.bac_link.specs.Ordinals.{number_after}
use Rattle.bac_poll.specs.Turns.{number_before}
use Rattle.bac_resume.specs.Stands.{is_record_of, known_at, known_before, last_number, newest_record}

-- ---- numbers

pub number_behind : (n : ℕ) → n < 4294967295 → number_after n 1 ≡ n + 1
number_behind n less = omega (arith, less)

pub number_back : (n : ℕ) → 0 < n → n ≤ 4294967295 → number_before (number_after n 1) ≡ n
number_back n more few = by (n == 4294967295) refl
  where
    by : (b : Bool) → (n == 4294967295) ≡ b → number_before (number_after n 1) ≡ n
    by true is = subst (λ (m : ℕ). number_before (number_after m 1) ≡ m) (sym (eqb-true n 4294967295 is)) refl
    by false is =
        let other = eqb-false n 4294967295 is in
        ap number_before (number_behind n (omega (arith, few, other)))
        ∙ cond-false (n + 1 == 1) 4294967295 (n + 1 - 1) (ne_eqb (n + 1) 1 (λ e. omega (arith, more, e))) ∙ omega arith

-- ---- one item in front

pub record_is : (n : ℕ) (item : Values) → last_at (column item 1) ≡ None → number_in item ≡ n → is_record_of n item ≡ true
record_is n item none is =
    ap (λ (o : Option ℕ). not (is_some o) && (number_in item == n)) none ∙ eq-eqb (number_in item) n is

pub known_more : (next n : ℕ) (item : Values) (items : List Values) → number_before next ≡ n → is_record_of n item ≡ true → known_before next (item ∷ items) ≡ item ∷ known_before n items
known_more next n item items e is =
    ap (λ (m : ℕ). if is_record_of m item then item ∷ known_before m items else []) e
    ∙ ap (λ (b : Bool). if b then item ∷ known_before n items else []) is

-- behind a gap none is known
pub known_none : (next last : ℕ) (item : Values) (items : List Values) → last_at (column item 1) ≡ Some last → known_before next (item ∷ items) ≡ []
known_none next last item items is =
    ap (λ (o : Option ℕ). if not (is_some o) && (number_in item == number_before next) then item ∷ known_before (number_before next) items else []) is

pub last_of_record : (item : Values) → last_at (column item 1) ≡ None → last_number item ≡ number_in item
last_of_record item none = ap (λ (o : Option ℕ). unwrap_or o (number_in item)) none

pub last_of_gap : (item : Values) (last : ℕ) → last_at (column item 1) ≡ Some last → last_number item ≡ last
last_of_gap item last is = ap (λ (o : Option ℕ). unwrap_or o (number_in item)) is

pub newest_is : (item : Values) (items : List Values) → last_at (column item 1) ≡ None → newest_record (item ∷ items) ≡ Some item
newest_is item items none = ap (λ (o : Option ℕ). if is_some o then newest_record items else Some item) none

-- ---- the first three

cut : (b : Bool) (item : Values) (xs ys : List Values) (k : ℕ) → xs ≡ take k ys → (if b then item ∷ xs else []) ≡ take (suc k) (if b then item ∷ ys else [])
cut true item xs ys k e = ap (λ (l : List Values). item ∷ l) e
cut false item xs ys k e = refl

known_take : (k next : ℕ) (items : List Values) → known_before next (take k items) ≡ take k (known_before next items)
known_take zero next items = refl
known_take (suc k) next [] = refl
known_take (suc k) next (item ∷ items) =
    cut (is_record_of (number_before next) item) item (known_before (number_before next) (take k items)) (known_before (number_before next) items) k
    (known_take k (number_before next) items)

take_get : (xs : List Values) (k j : ℕ) → j < k → slice_get (take k xs) j ≡ slice_get xs j
take_get xs zero j less = absurd (omega (arith, less))
take_get [] (suc k) j less = refl
take_get (x ∷ xs) (suc k) zero less = refl
take_get (x ∷ xs) (suc k) (suc j) less = take_get xs k j (omega (arith, less))

known_of_take : (next k j : ℕ) (items : List Values) → j < k → known_at next (take k items) j ≡ known_at next items j
known_of_take next k j items less =
    ap (λ (l : List Values). slice_get l j) (known_take k next items) ∙ take_get (known_before next items) k j less

-- fewer or more of them have the same ones known
pub known_cut : (next k m j : ℕ) (items : List Values) → j < k → j < m → known_at next (take k items) j ≡ known_at next (take m items) j
known_cut next k m j items here there = known_of_take next k j items here ∙ sym (known_of_take next m j items there)
