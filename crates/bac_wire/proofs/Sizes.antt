-- How many octets an encoding has at most.
use Rattle.std.proofs.Common.{◌≡◌, ℕ, ◌+◌, ◌<◌, ◌≤◌, ℤ, Bool, true, false, cond, ltb, List, [], ◌∷◌, length, arith, inl, inr}
use Rattle.std.proofs.lemmas.Bool.{cases_lt, lt-ltb, le-ltb}
use Rattle.std.specs.Int.{w64, to_be_bytes, cast_unsigned}
use Rattle.bac_wire.specs.Primitive.{Primitive, Null, Boolean, Unsigned, Signed, Real, Double, Octets, Chars, Bits, Enumerated, Date, Time, Object}
use Rattle.bac_wire.specs.Canon.{shortened, without_needless, is_zero, is_sign, unsigned_octets, signed_octets, contents_of, tagged}
use Rattle.bac_wire.specs.Encoding.{value_octets, context_octets}

length-shortened : (needless : ℕ → ℕ → Bool) (a : ℕ) (bs : List ℕ) → length (shortened needless a bs) ≤ 1 + length bs
length-shortened needless a [] = omega arith
length-shortened needless a (b ∷ bs) =
    let P : Bool → Type 0 = λ v. length (cond v (shortened needless b bs) (a ∷ b ∷ bs)) ≤ 1 + length (b ∷ bs) in
    let rest = length-shortened needless b bs in
    elim (needless a b) as (λ v. P v) [ true ↦ omega (arith, rest) | false ↦ omega arith ]

length-without : (needless : ℕ → ℕ → Bool) (xs : List ℕ) → length (without_needless needless xs) ≤ length xs
length-without needless [] = omega arith
length-without needless (a ∷ bs) = omega (arith, length-shortened needless a bs)

pub length-unsigned : (n : ℕ) → length (unsigned_octets n) ≤ 8
length-unsigned n = length-without is_zero (to_be_bytes w64 n)

pub length-signed : (z : ℤ) → length (signed_octets z) ≤ 8
length-signed z = length-without is_sign (to_be_bytes w64 (cast_unsigned w64 z))

few_tagged : (class tag : ℕ) (contents : List ℕ) → tag < 15 → length contents < 5 → length (tagged class tag contents) ≡ 1 + length contents
few_tagged class tag contents low few = rw (lt-ltb _ _ few, lt-ltb _ _ low) (omega arith)

some_tagged : (class tag : ℕ) (contents : List ℕ) → tag < 15 → length contents < 254 → length (tagged class tag contents) ≤ 2 + length contents
some_tagged class tag contents low short =
    let one : ltb tag 15 ≡ true = lt-ltb _ _ low in
    let byte : ltb (length contents) 254 ≡ true = lt-ltb _ _ short in
    elim (cases_lt (length contents) 5) [
      | inl few ↦ omega (arith, few_tagged class tag contents low few)
      | inr more ↦ rw (le-ltb _ _ more, byte, one) (omega arith)
    ]

pub few_behind : (tag : ℕ) (value : Primitive) → tag < 15 → length (contents_of value) < 5 → length (context_octets tag value) ≡ 1 + length (contents_of value)
unfolding context_octets
few_behind tag value low few = few_tagged 8 tag (contents_of value) low few

pub some_behind : (tag : ℕ) (value : Primitive) → tag < 15 → length (contents_of value) < 254 → length (context_octets tag value) ≤ 2 + length (contents_of value)
unfolding context_octets
some_behind tag value low short = some_tagged 8 tag (contents_of value) low short

pub few_octets : (value : Primitive) → length (contents_of value) < 5 → length (value_octets value) ≤ 1 + length (contents_of value)
unfolding value_octets
few_octets Null few = omega (arith, few_tagged 0 0 [] (omega arith) few)
few_octets (Boolean true) few = omega arith
few_octets (Boolean false) few = omega arith
few_octets (Unsigned n) few = omega (arith, few_tagged 0 2 (unsigned_octets n) (omega arith) few)
few_octets (Signed z) few = omega (arith, few_tagged 0 3 (signed_octets z) (omega arith) few)
few_octets (Real octets) few = omega (arith, few_tagged 0 4 octets (omega arith) few)
few_octets (Double octets) few = omega (arith, few_tagged 0 5 octets (omega arith) few)
few_octets (Octets octets) few = omega (arith, few_tagged 0 6 octets (omega arith) few)
few_octets (Chars set octets) few = omega (arith, few_tagged 0 7 (set ∷ octets) (omega arith) few)
few_octets (Bits bits) few = omega (arith, few_tagged 0 8 (contents_of (Bits bits)) (omega arith) few)
few_octets (Enumerated n) few = omega (arith, few_tagged 0 9 (unsigned_octets n) (omega arith) few)
few_octets (Date octets) few = omega (arith, few_tagged 0 10 octets (omega arith) few)
few_octets (Time octets) few = omega (arith, few_tagged 0 11 octets (omega arith) few)
few_octets (Object id) few = omega (arith, few_tagged 0 12 (contents_of (Object id)) (omega arith) few)

pub some_octets : (value : Primitive) → length (contents_of value) < 254 → length (value_octets value) ≤ 2 + length (contents_of value)
unfolding value_octets
some_octets Null short = some_tagged 0 0 [] (omega arith) short
some_octets (Boolean true) short = omega arith
some_octets (Boolean false) short = omega arith
some_octets (Unsigned n) short = some_tagged 0 2 (unsigned_octets n) (omega arith) short
some_octets (Signed z) short = some_tagged 0 3 (signed_octets z) (omega arith) short
some_octets (Real octets) short = some_tagged 0 4 octets (omega arith) short
some_octets (Double octets) short = some_tagged 0 5 octets (omega arith) short
some_octets (Octets octets) short = some_tagged 0 6 octets (omega arith) short
some_octets (Chars set octets) short = some_tagged 0 7 (set ∷ octets) (omega arith) short
some_octets (Bits bits) short = some_tagged 0 8 (contents_of (Bits bits)) (omega arith) short
some_octets (Enumerated n) short = some_tagged 0 9 (unsigned_octets n) (omega arith) short
some_octets (Date octets) short = some_tagged 0 10 octets (omega arith) short
some_octets (Time octets) short = some_tagged 0 11 octets (omega arith) short
some_octets (Object id) short = some_tagged 0 12 (contents_of (Object id)) (omega arith) short
