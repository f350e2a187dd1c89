-- Lines of other than so many words.
use Rattle.std.proofs.Common.{◌≡◌, ◌≢◌, ℕ, List, [], ◌∷◌, length, None, refl}
use Rattle.bac_script.specs.Script.Line.{log_line}

-- a log line has three words behind its source
pub log_other : (a b c d : List ℕ) (ws : List (List ℕ)) → length ws ≢ 3 → log_line (a ∷ b ∷ c ∷ d ∷ ws) ≡ None
unfolding log_line
log_other a b c d [] h = refl
log_other a b c d (x ∷ []) h = refl
log_other a b c d (x ∷ y ∷ []) h = refl
log_other a b c d (x ∷ y ∷ z ∷ []) h = absurd (h refl)
log_other a b c d (x ∷ y ∷ z ∷ w ∷ more) h = refl
