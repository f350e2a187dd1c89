-- Octets in hexadecimal digits.
use Rattle.std.specs.Prelude.{ℕ, ◌&&◌, nat_le, if◌then◌else◌, List, length, Option, None}
use Rattle.std.specs.Result.{result_ok}
use Rattle.hex.specs.Hex.{decode_of}

-- the octets that 2 to 3002 digits say, two digits each, in either case
abbrev pub octets_in : List ℕ → Option (List ℕ)
octets_in word = if nat_le 2 (length word) && nat_le (length word) 3002 then result_ok (decode_of word) else None
