-- Steps, one after the other.
use Rattle.std.specs.Prelude.{◌≡◌, List, [], ◌∷◌}

-- steps by these events, each from where the one before it led
abbrev pub Chain : {S E : Type 0} → (S → E → S → Type 0) → S → List E → S → Type 0
Chain {S = S} step old [] new = new ≡ old
Chain {S = S} step old (e ∷ es) new = (mid : S) × step old e mid × Chain step mid es new
