-- The name of the file of a part, and the number that its six digits write.
use Rattle.std.proofs.Common.{◌≡◌, ◌≢◌, ◌≤◌, ◌<◌, ◌-◌, ◌^◌, ◌++◌, ◌∷◌, ◌∙◌, ℕ, zero, suc, Bool, true, false, List, [], Result, Ok, Err, Some, None, inl, inr, length, codes, decimal, replicate, get_or, refl, ap, subst, sym, append_assoc, arith}
use Rattle.std.specs.Str.Parse.{AllDigits, IsNumeral, ParsesUnsigned, digits_value, without_leading_plus}
use Rattle.std.proofs.lemmas.Fmt.{decimal-digits_value, decimal_is_IsNumeral, length-decimal-le}
use Rattle.std.proofs.lemmas.List.{append_cancel_right, length-append, length-replicate}
use Rattle.std.proofs.lemmas.Str.Parse.{digit_at, digit_from_value, digits_value_short, numerals_by_value, tells_digits, without_leading_plus_none}
use Rattle.std.proofs.lemmas.Bool.{cases_lt}
use Rattle.std.proofs.lemmas.Option.{none-some}
use Rattle.std.specs.Bool.{Decides}
use Rattle.std.specs.Prelude.{◌↔◌}
use Rattle.bac_files.specs.Parts.{IsPartFile}

-- so many zeros fill the digits of a number up
abbrev filled : ℕ → List ℕ → List ℕ
filled zeros digits = replicate zeros 48 ++ digits

filled_value : (zeros : ℕ) (digits : List ℕ) → digits_value 10 (filled zeros digits) ≡ digits_value 10 digits
filled_value zero digits = refl
filled_value (suc zeros) digits = filled_value zeros digits

filled_digits : (zeros : ℕ) (digits : List ℕ) → AllDigits 10 digits → AllDigits 10 (filled zeros digits)
filled_digits zero digits all = all
filled_digits (suc zeros) digits all = (omega arith, filled_digits zeros digits all)

-- digits are those of their value, filled up
abbrev IsFilled : List ℕ → Type 0
IsFilled digits =
    (length (decimal (digits_value 10 digits)) ≤ length digits)
    × (digits ≡ filled (length digits - length (decimal (digits_value 10 digits))) (decimal (digits_value 10 digits)))

one_more_zero : (digits : List ℕ) → IsFilled digits → IsFilled (48 ∷ digits)
one_more_zero digits (short, is) =
    let written : List ℕ = decimal (digits_value 10 digits) in
    let zeros : suc (length digits - length written) ≡ suc (length digits) - length written = omega (arith, short) in
    (omega (arith, short), ap (λ l. 48 ∷ l) is ∙ ap (λ z. filled z written) zeros)

no_zero : (c : ℕ) (digits : List ℕ) → AllDigits 10 (c ∷ digits) → 49 ≤ c → digits_value 10 (c ∷ digits) < 2 ^ 64 → IsFilled (c ∷ digits)
no_zero c digits all some small =
    let same : decimal (digits_value 10 (c ∷ digits)) ≡ c ∷ digits = decimal-digits_value (numerals_by_value _ tells_digits) (c ∷ digits) all (omega arith) (λ is. absurd (omega (arith, is, some))) small in
    let long : length (decimal (digits_value 10 (c ∷ digits))) ≡ length (c ∷ digits) = ap (λ (l : List ℕ). length l) same in
    let zeros : length (c ∷ digits) - length (decimal (digits_value 10 (c ∷ digits))) ≡ 0 = omega (arith, long) in
    (omega (arith, long), sym (ap (λ z. filled z (decimal (digits_value 10 (c ∷ digits)))) zeros ∙ same))

is_filled : (digits : List ℕ) → AllDigits 10 digits → 0 < digits_value 10 digits → digits_value 10 digits < 2 ^ 64 → IsFilled digits
is_filled [] all some small = absurd (omega (arith, some))
is_filled (c ∷ digits) all some small =
    let digit = digit_from_value c all.0 in
    elim (cases_lt c 49) [
      | inl low ↦
          let is : 48 ≡ c = omega (arith, low, digit.0) in
          subst (λ d. IsFilled (d ∷ digits)) is (one_more_zero digits (is_filled digits all.1
          (subst (λ d. 0 < digits_value 10 (d ∷ digits)) (sym is) some)
          (subst (λ d. digits_value 10 (d ∷ digits) < 2 ^ 64) (sym is) small)))
      | inr high ↦ no_zero c digits all high small
    ]

-- six digits that write no 0 are the number of a part
pub is_part : (name digits : List ℕ) → length digits ≡ 6 → AllDigits 10 digits → 0 < digits_value 10 digits → name ≡ digits ++ codes ".db"
    → IsPartFile name (digits_value 10 digits)
is_part name digits six all some is =
    let number : ℕ = digits_value 10 digits in
    let short : number < 10 ^ 6 = digits_value_short (numerals_by_value _ tells_digits) digits 6 all (omega (arith, six)) in
    let zeros : List ℕ = replicate (6 - length (decimal number)) 48 in
    let written : digits ≡ zeros ++ decimal number =
    subst (λ long. digits ≡ filled (long - length (decimal number)) (decimal number)) six (is_filled digits all some (omega (arith, short))).1 in
    (omega (arith, some), omega (arith, short), is ∙ ap (λ l. l ++ codes ".db") written ∙ append_assoc zeros (decimal number) (codes ".db"))

-- the name of a part has six digits before .db, which write its number
pub record IsWritten (name : List ℕ) (number : ℕ) : Type 0 where
  pub digits : List ℕ
  pub named : name ≡ digits ++ codes ".db"
  pub six : length digits ≡ 6
  pub all : AllDigits 10 digits
  pub value : digits_value 10 digits ≡ number

pub part_is : (name : List ℕ) (number : ℕ) → IsPartFile name number → IsWritten name number
part_is name number (some, most, is) =
    let zeros : ℕ = 6 - length (decimal number) in
    let numeral = decimal_is_IsNumeral number (omega (arith, most)) in
    let short : length (decimal number) ≤ 6 = length-decimal-le 6 number (omega arith) (omega (arith, most)) (omega (arith, most)) in
    record {
      digits = filled zeros (decimal number);
      named = is ∙ sym (append_assoc (replicate zeros 48) (decimal number) (codes ".db"));
      six = omega (arith, length-append (replicate zeros 48) (decimal number), length-replicate {A = ℕ} zeros 48, short);
      all = filled_digits zeros (decimal number) numeral.0.1;
      value = filled_value zeros (decimal number) ∙ numeral.1;
    }

-- what stands before .db is those digits
pub part_digits : (name digits : List ℕ) (number : ℕ) → name ≡ digits ++ codes ".db" → IsPartFile name number
    → (length digits ≡ 6) × AllDigits 10 digits × (digits_value 10 digits ≡ number)
part_digits name digits number is part =
    let it = part_is name number part in
    let same : it.digits ≡ digits = append_cancel_right it.digits digits (codes ".db") (sym it.named ∙ is) in
    (ap (λ (l : List ℕ). length l) (sym same) ∙ it.six, subst (AllDigits 10) same it.all, ap (digits_value 10) (sym same) ∙ it.value)

-- ---- what the program reads

-- a name of no part has no number
pub no_part : (name : List ℕ) → ((number : ℕ) → IsPartFile name number → ⊥) → (number : ℕ) → (None ≡ Some number) ↔ IsPartFile name number
no_part name not number = (λ is. absurd (none-some number is), λ part. absurd (not number part))

-- what stands before .db is a number, or is none
abbrev pub Tells : {E : Type 0} → List ℕ → Result ℕ E → Type 0
Tells name (Ok value) =
    (0 < value → (number : ℕ) → (Some value ≡ Some number) ↔ IsPartFile name number)
    × ((0 < value → ⊥) → (number : ℕ) → IsPartFile name number → ⊥)
Tells name (Err error) = (number : ℕ) → IsPartFile name number → ⊥

pub tells : {E : Type 0} (name digits : List ℕ) (read : Result ℕ E) → name ≡ digits ++ codes ".db" → length digits ≡ 6 → get_or digits 0 0 ≢ 43
    → ParsesUnsigned 32 10 digits read → Tells name read
tells name digits (Ok value) is six unsigned parsed =
    let bare : without_leading_plus digits ≡ digits = without_leading_plus_none digits unsigned in
    let numeral : IsNumeral 10 digits = subst (IsNumeral 10) bare parsed.0.0 in
    let same : value ≡ digits_value 10 digits = parsed.1 ∙ ap (digits_value 10) bare in (
      λ some number. (
        λ told. subst (IsPartFile name) (sym same ∙ grind (arith, told)) (is_part name digits six numeral.1 (omega (arith, some, same)) is),
        λ part. ap Some (same ∙ (part_digits name digits number is part).2),
      ),
      λ none number part. none (omega (arith, same, (part_digits name digits number is part).2, part.0)),
    )
tells name digits (Err error) is six unsigned parsed = λ number part.
    let it = part_digits name digits number is part in
    let bare : without_leading_plus digits ≡ digits = without_leading_plus_none digits unsigned in
    parsed (
      subst (IsNumeral 10) (sym bare) (omega (arith, it.0), it.1),
      subst (λ (l : List ℕ). digits_value 10 l < 2 ^ 32) (sym bare) (omega (arith, it.2, part.1)),
    )

-- a name without .db is that of no part
pub without_end : (name : List ℕ) → ((front : List ℕ) → name ≢ front ++ codes ".db") → (number : ℕ) → IsPartFile name number → ⊥
without_end name none number part = let it = part_is name number part in none it.digits it.named

-- nor one of other than six digits
pub other_length : (name digits : List ℕ) → name ≡ digits ++ codes ".db" → length digits ≢ 6 → (number : ℕ) → IsPartFile name number → ⊥
other_length name digits is other number part = other (part_digits name digits number is part).0

-- nor one with a sign
pub signed : (name digits : List ℕ) → name ≡ digits ++ codes ".db" → get_or digits 0 0 ≡ 43 → (number : ℕ) → IsPartFile name number → ⊥
signed name digits is sign number part =
    let it = part_digits name digits number is part in
    omega (arith, sign, digit_at digits 0 it.1 (omega (arith, it.0)))

-- what isn't so, by a test of it
pub not_so : {P : Type 0} (test : Bool) → Decides test P → test ≡ false → P → ⊥
not_so test decided never is = let no : false ≡ true = sym never ∙ decided.1 is in cc
