-- A text that is appended in three parts.
use Rattle.std.proofs.Common.{◌≡◌, ℕ, List, ◌++◌, OnOk, Result, Ok, Err, ap, ◌∙◌, append_assoc}

pub three : {E : Type 0} (r : Result (Unit {0}) E) (old x y z a b new : List ℕ) → a ≡ old ++ x → b ≡ a ++ y →
    OnOk r (new ≡ b ++ z) → OnOk r (new ≡ old ++ (x ++ (y ++ z)))
three (Ok done) old x y z a b new p q last =
    last ∙ ap (λ l. l ++ z) (q ∙ ap (λ l. l ++ y) p) ∙ append_assoc (old ++ x) y z ∙ append_assoc old x (y ++ z)
three (Err fault) old x y z a b new p q last = last
