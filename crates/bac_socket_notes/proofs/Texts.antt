-- Texts that are appended in parts.
use Rattle.std.proofs.Common.{◌≡◌, ◌∙◌, ap, ℕ, List, ◌++◌, append_assoc, Result, Ok, Err, OnOk}
use Rattle.bac_print.proofs.Parts.{three}

pub two : {E : Type 0} (r : Result (Unit {0}) E) (old a b half new : List ℕ) → half ≡ old ++ a → OnOk r (new ≡ half ++ b) → OnOk r (new ≡ old ++ (a ++ b))
two (Ok done) old a b half new p last = last ∙ ap (λ l. l ++ b) p ∙ append_assoc old a b
two (Err fault) old a b half new p last = tt

pub four : {E : Type 0} (r : Result (Unit {0}) E) (old a b c d half more most new : List ℕ) → half ≡ old ++ a → more ≡ half ++ b → most ≡ more ++ c →
    OnOk r (new ≡ most ++ d) → OnOk r (new ≡ old ++ (a ++ (b ++ (c ++ d))))
four r old a b c d half more most new p q s last = two r old a (b ++ (c ++ d)) half new p (three r half b c d more most new q s last)
