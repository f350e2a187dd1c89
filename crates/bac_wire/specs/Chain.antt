-- Steps that can fail, one after the other, and what a function returned beside them.
use Rattle.std.specs.Prelude.{◌≡◌, Result, Ok, Err}

infixl 10 ◌>>=◌
-- the next step, if this one did not fail
abbrev pub ◌>>=◌ : {A B F : Type 0} → Result A F → (A → Result B F) → Result B F
(Ok x) >>= f = f x
(Err e) >>= f = Err e

-- What a function returned, seen by view, is what reading gives.
abbrev pub Gives : {X Y F : Type 0} → (X → Y) → Result X F → Result Y F → Type 0
Gives view (Ok x) read = read ≡ Ok (view x)
Gives view (Err e) read = read ≡ Err e

-- what is made of what a step gave
abbrev pub result_map : {A B F : Type 0} → (A → B) → Result A F → Result B F
result_map f (Ok x) = Ok (f x)
result_map f (Err e) = Err e
