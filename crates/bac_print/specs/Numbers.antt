-- Texts of numbers, bits and octets.
use Rattle.std.specs.Prelude.{ℕ, nat_lt, Bool, if◌then◌else◌, List, [], ◌∷◌, ◌++◌, map, decimal}
use Rattle.hex.specs.Hex.{encode_lower}

-- decimal digits, two at least
abbrev pub two_digits : ℕ → List ℕ
two_digits n = if nat_lt n 10 then 48 ∷ decimal n else decimal n

-- 0 or 1
abbrev pub bit_digit : Bool → ℕ
bit_digit bit = if bit then 49 else 48

-- a digit for each bit, in order
abbrev pub bit_digits : List Bool → List ℕ
bit_digits bits = map bit_digit bits

-- a word, and what it says in brackets
abbrev pub called : List ℕ → List ℕ → List ℕ
called word inner = word ++ (40 ∷ (inner ++ 41 ∷ []))

-- the same with two numbers
abbrev pub called_two : List ℕ → ℕ → ℕ → List ℕ
called_two word a b = called word (decimal a ++ (44 ∷ decimal b))

-- a word, and a number of things that aren't shown
abbrev pub counted : List ℕ → ℕ → List ℕ
counted word n = word ++ (91 ∷ (decimal n ++ 93 ∷ []))

-- octets in hexadecimal digits of lower case
abbrev pub called_hex : List ℕ → List ℕ → List ℕ
called_hex word octets = called word (encode_lower octets)
