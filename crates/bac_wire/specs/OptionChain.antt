-- The same for steps that don't say why they failed.
use Rattle.std.specs.Prelude.{◌≡◌, Option, Some, None}

infixl 10 ◌>>=◌
-- the next step, if this one gave something
abbrev pub ◌>>=◌ : {A B : Type 0} → Option A → (A → Option B) → Option B
None >>= f = None
(Some x) >>= f = f x

-- What a function returned, seen by view, is what reading gives.
abbrev pub GivesSome : {X Y : Type 0} → (X → Y) → Option X → Option Y → Type 0
GivesSome view (Some x) read = read ≡ Some (view x)
GivesSome view None read = read ≡ None
