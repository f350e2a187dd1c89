-- Octets read from left to right; nothing says why they can't be read.
use Rattle.std.specs.Prelude.{ℕ, ◌+◌, ◌*◌, List, [], ◌∷◌, length, take, drop, nat_lt, Option, Some, None, if◌then◌else◌}
use Rattle.bac_wire.specs.OptionChain.{◌>>=◌}

-- one octet, and those after it
abbrev pub octet_at : List ℕ → Option (ℕ × List ℕ)
octet_at [] = None
octet_at (b ∷ rest) = Some (b, rest)

-- two octets, the high one first
unfoldable pub word_at : List ℕ → Option (ℕ × List ℕ)
word_at bytes = do
  high ← octet_at bytes
  low ← octet_at high.1
  Some (high.0 * 256 + low.0, low.1)

-- so many octets, and those after them
unfoldable pub octets_at : ℕ → List ℕ → Option (List ℕ × List ℕ)
octets_at n bytes = if nat_lt (length bytes) n then None else Some (take n bytes, drop n bytes)
