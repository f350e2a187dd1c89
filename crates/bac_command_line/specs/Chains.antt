-- Steps one after the other: the first that gives nothing ends them.
use Rattle.std.specs.Prelude.{Option, None, Some}

infixl 1 ◌>>=◌
-- the next step, if this one gave something
abbrev pub ◌>>=◌ : {A B : Type 0} → Option A → (A → Option B) → Option B
None >>= f = None
Some a >>= f = f a
