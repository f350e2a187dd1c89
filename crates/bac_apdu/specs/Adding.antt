-- How each single parameter is written, and what a writer of several does.
use Rattle.std.specs.Prelude.{ℕ, ◌+◌, ◌<◌, ◌≡◌, List, [], ◌∷◌, ◌++◌, length, take, Result}
use Rattle.std.specs.Result.{MatchResult}
use Rattle.bac_wire.specs.Primitive.{Primitive}
-- the encodings of single parameters, kept opaque (`unfoldable`) so that proofs
-- about lists of parameters don't open them
unfoldable pub use Rattle.bac_wire.specs.Encoding.{context_octets, value_octets, open_octets, close_octets}

-- values after their application tags, and then this text
abbrev pub values_before : List ℕ → List Primitive → List ℕ
values_before text [] = text
values_before text (value ∷ values) = value_octets value ++ values_before text values

-- values between the opening and the closing tag of this number
abbrev pub between_octets : ℕ → List Primitive → List ℕ
between_octets tag values = open_octets tag ++ values_before (close_octets tag ++ []) values

-- The text is appended; or it doesn't fit, and what was there is still the front.
abbrev pub Adds : {E : Type 0} → List ℕ → List ℕ → Result (Unit {0}) E → List ℕ → Type 0
Adds old text result new =
    MatchResult result (λ _. new ≡ old ++ text)
    (λ _. (take (length old) new ≡ old) × (1501 < length old + length text))
