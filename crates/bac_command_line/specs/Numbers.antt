-- Numbers in decimal digits.
use Rattle.std.specs.Prelude.{ℕ, ℤ, pos, ◌+◌, ◌-◌, ◌*◌, ◌^◌, ◌-ℤ◌, ◌==◌, ◌&&◌, Bool, true, false, nat_le, nat_lt}
use Rattle.std.specs.Prelude.{if◌then◌else◌, List, [], ◌∷◌, length, Option, None, Some, option_and_then}
use Rattle.std.specs.Char.{is_ascii_digit}
use Rattle.std.specs.List.{list_all}

-- what the digits say after those that say n
abbrev pub value_of : ℕ → List ℕ → Option ℕ
value_of n [] = Some n
value_of n (c ∷ cs) = if is_ascii_digit c then value_of (10 * n + (c - 48)) cs else None

-- the number that 1 to `most` digits say
abbrev pub digits_in : ℕ → List ℕ → Option ℕ
digits_in most word = if nat_le 1 (length word) && nat_le (length word) most then value_of 0 word else None

-- digits alone, and more than a number has
abbrev pub is_long : List ℕ → Bool
is_long word = nat_lt 10 (length word) && list_all is_ascii_digit word

-- the number, if it is in range
abbrev pub between : ℕ → ℕ → ℕ → Option ℕ
between low high n = if nat_le low n && nat_le n high then Some n else None

-- a number of 1 to 10 digits, from low to high
unfoldable pub number_in : ℕ → ℕ → List ℕ → Option ℕ
number_in low high word = option_and_then (between low high) (digits_in 10 word)

-- a number of 1 to 20 digits that fits 64 bits
abbrev pub unsigned_in : List ℕ → Option ℕ
unsigned_in word = option_and_then (λ n. if nat_lt n (2 ^ 64) then Some n else None) (digits_in 20 word)

-- what a number says with - before it or without, if that fits 64 bits
abbrev pub with_sign : Bool → Option ℕ → Option ℤ
with_sign below_zero None = None
with_sign false (Some n) = if nat_lt n (2 ^ 63) then Some (pos n) else None
with_sign true (Some n) = if nat_le n (2 ^ 63) then Some (pos 0 -ℤ pos n) else None

-- an integer of 64 bits: 1 to 20 digits, which - (45) may precede
abbrev pub signed_in : List ℕ → Option ℤ
signed_in [] = None
signed_in (c ∷ cs) = if c == 45 then with_sign true (digits_in 20 cs) else with_sign false (digits_in 20 (c ∷ cs))
