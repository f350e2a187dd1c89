-- The Bit Strings that say what a device can do.
use Rattle.std.specs.Prelude.{ℕ, ◌==◌, Bool, List, [], ◌∷◌, map}
use Rattle.std.specs.List.{list_any, range_with_len}

-- so many bits, of which those at these places are 1
abbrev pub bits_at : ℕ → List ℕ → List Bool
bits_at count places = map (λ bit. list_any (λ place. place == bit) places) (range_with_len 0 count)

-- BACnetServicesSupported (clause 21): ReadProperty, WriteProperty, Who-Is, ReadRange
unfoldable pub services_supported : List Bool
services_supported = bits_at 40 (12 ∷ 15 ∷ 34 ∷ 35 ∷ [])

-- BACnetObjectTypesSupported (clause 21): Binary Value, Device, Multi-state Value, Trend Log, Integer Value
unfoldable pub types_supported : List Bool
types_supported = bits_at 48 (5 ∷ 8 ∷ 19 ∷ 20 ∷ 45 ∷ [])
