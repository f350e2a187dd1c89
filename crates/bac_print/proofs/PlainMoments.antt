-- The text of a moment whose parts have no star and two digits each.
use Rattle.std.proofs.Common.{◌≡◌, ℕ, zero, suc, ◌+◌, ◌-◌, ◌*◌, ◌/◌, ◌%◌, ◌<◌, ◌≤◌, Bool, ◌&&◌, T, eqb, ltb, get_or, true, false, List, [], ◌∷◌, ◌++◌, refl, ap, inl, inr, arith, eq-zero-or-pos, eqb→eq}
use lib.Ieee.Fits.{and_l, and_r}
use Rattle.std.specs.Prelude.{decimal}
use Rattle.std.specs.Fmt.{digits}
use Rattle.std.proofs.lemmas.Bool.{ne_eqb, eq-eqb, lt-ltb, le-ltb, cases_lt}
use Rattle.bac_print.specs.Moments.{year_text, part_text, day_text, time_text}
use Rattle.bac_print.specs.declared.moments.TheConstants.{PAIRS}
pub use Rattle.std.proofs.lemmas.Fmt.{decimal_digit as one_digit}

two_digits_are : (n : ℕ) → 10 ≤ n → n < 100 → decimal n ≡ (48 + n / 10) ∷ (48 + n % 10) ∷ []
unfolding digits
two_digits_are n ge lt =
    let more : eqb (n / 10) 0 ≡ false = ne_eqb _ _ (λ e. omega (arith, e)) in
    let over : eqb (n / 10 / 10) 0 ≡ true = eq-eqb _ _ (omega arith) in
    let first : n / 10 % 10 ≡ n / 10 = omega arith in
    let small : ltb (n / 10) 10 ≡ true = lt-ltb _ _ (omega arith) in
    let last : ltb (n % 10) 10 ≡ true = lt-ltb _ _ (omega arith) in
    rw (more, over, first, small, last) refl

pub part_is : (n : ℕ) → n < 100 → part_text n ≡ (48 + n / 10) ∷ (48 + n % 10) ∷ []
part_is n lt =
    let plain : eqb n 255 ≡ false = ne_eqb _ _ (λ e. omega (arith, e)) in
    elim (cases_lt n 10) [
      | inl l ↦
          let few : ltb n 10 ≡ true = lt-ltb _ _ l in
          let high : n / 10 ≡ 0 = omega arith in
          let low : n % 10 ≡ n = omega arith in
          rw (plain, few, high, low) (ap (λ (l : List ℕ). 48 ∷ l) (one_digit n l))
      | inr g ↦ let many : ltb n 10 ≡ false = le-ltb _ _ g in rw (plain, many) (two_digits_are n g lt)
    ]

four_digits_are : (n : ℕ) → 1000 ≤ n → n < 10000
    → decimal n ≡ (48 + n / 100 / 10) ∷ (48 + n / 100 % 10) ∷ (48 + n % 100 / 10) ∷ (48 + n % 100 % 10) ∷ []
unfolding digits
four_digits_are n ge lt =
    let m1 : eqb (n / 10) 0 ≡ false = ne_eqb _ _ (λ e. omega (arith, e)) in
    let m2 : eqb (n / 10 / 10) 0 ≡ false = ne_eqb _ _ (λ e. omega (arith, e)) in
    let m3 : eqb (n / 10 / 10 / 10) 0 ≡ false = ne_eqb _ _ (λ e. omega (arith, e)) in
    let m4 : eqb (n / 10 / 10 / 10 / 10) 0 ≡ true = eq-eqb _ _ (omega arith) in
    let l1 : ltb (n % 10) 10 ≡ true = lt-ltb _ _ (omega arith) in
    let l2 : ltb (n / 10 % 10) 10 ≡ true = lt-ltb _ _ (omega arith) in
    let l3 : ltb (n / 10 / 10 % 10) 10 ≡ true = lt-ltb _ _ (omega arith) in
    let l4 : ltb (n / 10 / 10 / 10 % 10) 10 ≡ true = lt-ltb _ _ (omega arith) in
    let d1 : n % 10 ≡ n % 100 % 10 = omega arith in
    let d2 : n / 10 % 10 ≡ n % 100 / 10 = omega arith in
    let d3 : n / 10 / 10 % 10 ≡ n / 100 % 10 = omega arith in
    let d4 : n / 10 / 10 / 10 % 10 ≡ n / 100 / 10 = omega arith in
    rw (m1, m2, m3, m4, l1, l2, l3, l4, d4, d3, d2, d1) refl

pub year_is : (y : ℕ) → y < 255
    → year_text y ≡ (48 + (1900 + y) / 100 / 10) ∷ (48 + (1900 + y) / 100 % 10) ∷ (48 + (1900 + y) % 100 / 10) ∷ (48 + (1900 + y) % 100 % 10) ∷ []
year_is y lt = let plain : eqb y 255 ≡ false = ne_eqb _ _ (λ e. omega (arith, e)) in rw plain (four_digits_are (1900 + y) (omega arith) (omega arith))

pub moment_is : (year month day weekday hour minute second hundredth : ℕ) → year < 255 → month < 100 → day < 100 → hour < 100 → minute < 100 → second < 100 → hundredth < 100
    → day_text (year ∷ month ∷ day ∷ weekday ∷ []) ++ (84 ∷ (time_text (hour ∷ minute ∷ second ∷ hundredth ∷ []) ++ 32 ∷ []))
    ≡ (48 + (1900 + year) / 100 / 10) ∷ (48 + (1900 + year) / 100 % 10) ∷ (48 + (1900 + year) % 100 / 10) ∷ (48 + (1900 + year) % 100 % 10) ∷ 45
    ∷ (48 + month / 10) ∷ (48 + month % 10) ∷ 45 ∷ (48 + day / 10) ∷ (48 + day % 10) ∷ 84
    ∷ (48 + hour / 10) ∷ (48 + hour % 10) ∷ 58 ∷ (48 + minute / 10) ∷ (48 + minute % 10) ∷ 58 ∷ (48 + second / 10) ∷ (48 + second % 10) ∷ 46
    ∷ (48 + hundredth / 10) ∷ (48 + hundredth % 10) ∷ 32 ∷ []
unfolding day_text time_text
moment_is year month day weekday hour minute second hundredth y m d h i s c =
    rw (year_is year y, part_is month m, part_is day d, part_is hour h, part_is minute i, part_is second s, part_is hundredth c) refl

-- whether the table has the digits of so many numbers
abbrev are_pairs : ℕ → Bool
are_pairs zero = true
are_pairs (suc n) =
    (eqb (get_or PAIRS (n * 2) 0) (48 + n / 10) && eqb (get_or PAIRS (n * 2 + 1) 0) (48 + n % 10)) && are_pairs n

pairs_below : (count n : ℕ) → T (are_pairs count) → n < count
    → (get_or PAIRS (n * 2) 0 ≡ 48 + n / 10) × (get_or PAIRS (n * 2 + 1) 0 ≡ 48 + n % 10)
pairs_below zero n all lt = absurd (omega arith)
pairs_below (suc count) n all lt =
    elim (eq-zero-or-pos (count - n)) [
      | inl z ↦
          let e : n ≡ count = omega arith in
          let here = and_l _ (are_pairs count) all in
          rw e (eqb→eq _ _ (and_l _ _ here), eqb→eq _ _ (and_r _ _ here))
      | inr g ↦ pairs_below count n (and_r _ (are_pairs count) all) (omega arith)
    ]

-- the digits of a number that the table has
pub PAIRS_at : (n : ℕ) → n < 100 → (get_or PAIRS (n * 2) 0 ≡ 48 + n / 10) × (get_or PAIRS (n * 2 + 1) 0 ≡ 48 + n % 10)
PAIRS_at n lt = pairs_below 100 n tt lt
