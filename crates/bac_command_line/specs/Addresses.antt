-- Addresses of BACnet/IP: A.B.C.D, or A.B.C.D:PORT.
use Rattle.std.specs.Prelude.{ℕ, ◌+◌, ◌==◌, List, [], ◌∷◌, ◌++◌, take, slice_range, length, Option, None, Some}
use Rattle.std.specs.Prelude.{option_map}
use Rattle.std.specs.List.{position}
use Rattle.std.specs.Int.{w16, to_be_bytes}
use Rattle.bac_command_line.specs.Numbers.{number_in}
use Rattle.bac_command_line.specs.Chains.{◌>>=◌}

-- what stands before and after the first such octet
abbrev pub cut : ℕ → List ℕ → Option (List ℕ × List ℕ)
cut mark word = option_map (λ i. (take i word, slice_range word (i + 1) (length word))) (position (λ c. c == mark) word)

-- four numbers of 0 to 255 with dots (46) between them, then the port's two octets
unfoldable pub host_in : ℕ → List ℕ → Option (List ℕ)
host_in port word = do
  a ← cut 46 word
  b ← cut 46 a.1
  c ← cut 46 b.1
  p ← number_in 0 255 a.0
  q ← number_in 0 255 b.0
  r ← number_in 0 255 c.0
  s ← number_in 0 255 c.1
  Some ((p ∷ q ∷ r ∷ s ∷ []) ++ to_be_bytes w16 port)

-- the port after a colon, or 47808 if there is none
abbrev pub address_by : List ℕ → Option (List ℕ × List ℕ) → Option (List ℕ)
address_by word None = host_in 47808 word
address_by word (Some x) = number_in 1 65535 x.1 >>= λ port. host_in port x.0

-- A.B.C.D, or A.B.C.D:PORT: colon is 58
unfoldable pub address_in : List ℕ → Option (List ℕ)
address_in word = address_by word (cut 58 word)
