-- Where a log at a moment has nothing more for a walk.
use Rattle.std.specs.Prelude.{ℕ, ◌≤◌}
use Rattle.bac_link.specs.Delivery.{Moment, Holds}

-- no entry from ordinal t on is held
abbrev pub NoneFrom : ℕ → Moment → Type 0
NoneFrom t m = (k : ℕ) → t ≤ k → Holds m k → ⊥
