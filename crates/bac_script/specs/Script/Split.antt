-- Where a text is split.
use Rattle.std.specs.Prelude.{ℕ, Bool, ◌==◌}

-- whether an octet is the one at which a text is split
abbrev pub is_octet : ℕ → ℕ → Bool
is_octet mark b = b == mark
