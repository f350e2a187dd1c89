-- Steps of which each may refuse, and what a function leaves behind.
use Rattle.std.specs.Prelude.{◌≡◌, Option, Some, None, Result, Ok, Err}

-- what is there, or the fault
abbrev pub or_fault : {A F : Type 0} → Option A → F → Result A F
or_fault (Some x) fault = Ok x
or_fault None fault = Err fault

-- The answer and the state after are those that are said; or the fault is, and nothing has changed.
abbrev pub LeavesWith : {X Y F : Type 0} → Result Y F → X → X → Result (Y × X) F → Type 0
LeavesWith (Ok y) old new said = said ≡ Ok (y, new)
LeavesWith (Err e) old new said = (said ≡ Err e) × (new ≡ old)

-- The state after is the one that is said; or the fault is, and nothing has changed.
abbrev pub Leaves : {X Y F : Type 0} → Result Y F → X → X → Result X F → Type 0
Leaves (Ok x) old new said = said ≡ Ok new
Leaves (Err e) old new said = (said ≡ Err e) × (new ≡ old)
