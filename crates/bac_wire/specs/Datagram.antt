-- What a writer does to a datagram.
use Rattle.std.specs.Prelude.{ℕ, ◌+◌, ◌<◌, ◌≡◌, List, ◌++◌, length, Result}
use Rattle.std.specs.Result.{MatchResult}

-- The octets are appended, or they don't fit into 1501 octets and nothing changes.
abbrev pub Writes : {E : Type 0} → List ℕ → List ℕ → Result (Unit {0}) E → List ℕ → Type 0
Writes old text result new =
    MatchResult result
    (λ _. (new ≡ old ++ text) × (length old + length text < 1502))
    (λ _. (new ≡ old) × (1501 < length old + length text))
