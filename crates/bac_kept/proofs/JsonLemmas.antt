-- What comes of a line that is written.
use Rattle.std.proofs.Common.{Result, Ok, Err, IfOk}

pub if_ok_then : {A E : Type 0} (r : Result A E) (P Q : A → Type 0) → IfOk r P → ((a : A) → P a → Q a) → IfOk r Q
if_ok_then (Ok a) P Q holds then = then a holds
if_ok_then (Err e) P Q holds then = tt
