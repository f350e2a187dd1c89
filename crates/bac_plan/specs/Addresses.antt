-- Addresses of BACnet/IP, as an archive has them: A.B.C.D:PORT.
use Rattle.std.specs.Prelude.{ℕ, ◌+◌, ◌-◌, ◌*◌, ◌==◌, ◌&&◌, nat_le, if◌then◌else◌, List, [], ◌∷◌, ◌++◌}
use Rattle.std.specs.Prelude.{take, slice_range, length, Option, None, Some, option_and_then, option_map}
use Rattle.std.specs.Char.{is_ascii_digit}
use Rattle.std.specs.Int.{w16, to_be_bytes}
use Rattle.std.specs.List.{position}
use Rattle.bac_wire.specs.OptionChain.{◌>>=◌}

-- what the digits say after those that say n
abbrev pub value_of : ℕ → List ℕ → Option ℕ
value_of n [] = Some n
value_of n (c ∷ cs) = if is_ascii_digit c then value_of (10 * n + (c - 48)) cs else None

-- the number that one to five digits say
abbrev pub digits_in : List ℕ → Option ℕ
digits_in text = if nat_le 1 (length text) && nat_le (length text) 5 then value_of 0 text else None

-- a number, if it isn't above another
abbrev pub up_to : ℕ → ℕ → Option ℕ
up_to most n = if nat_le n most then Some n else None

-- the number that one to five digits say, up to this one
unfoldable pub number_in : ℕ → List ℕ → Option ℕ
number_in most text = option_and_then (up_to most) (digits_in text)

-- what stands before and behind the first such octet
abbrev pub cut : ℕ → List ℕ → Option (List ℕ × List ℕ)
cut mark text = option_map (λ i. (take i text, slice_range text (i + 1) (length text))) (position (λ c. c == mark) text)

-- four numbers of octets with dots (46) between them, then the port's two octets
unfoldable pub host_in : ℕ → List ℕ → Option (List ℕ)
host_in port text = do
  a ← cut 46 text
  b ← cut 46 a.1
  c ← cut 46 b.1
  p ← number_in 255 a.0
  q ← number_in 255 b.0
  r ← number_in 255 c.0
  s ← number_in 255 c.1
  Some ((p ∷ q ∷ r ∷ s ∷ []) ++ to_be_bytes w16 port)

-- The octets of the address and of the port in A.B.C.D:PORT: colon is 58.
unfoldable pub peer_in : List ℕ → Option (List ℕ)
peer_in text = do
  x ← cut 58 text
  port ← number_in 65535 x.1
  host_in port x.0
