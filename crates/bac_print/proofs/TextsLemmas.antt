-- Texts of two octets a character.
use Rattle.std.proofs.Common.{◌≡◌, ℕ, ◌+◌, ◌*◌, List, [], ◌∷◌, ◌++◌, length, Option, None, Some, option_map, refl, sym, ap, ◌∙◌, append_assoc, subst, drop, arith}
use Rattle.std.proofs.Math.Seq.{drop-append_seam}
use Rattle.std.proofs.lemmas.List.Elements.{All-drop}
use Rattle.std.specs.Char.{IsScalar}
use Rattle.std.specs.List.{All}
use Rattle.bac_print.specs.Texts.{pairs_of}

-- one character more was appended
pub one_more : (done octets rest after : List ℕ) (high low : ℕ) → rest ≡ high ∷ low ∷ after →
    pairs_of octets ≡ option_map (λ l. done ++ l) (pairs_of rest) →
    pairs_of octets ≡ option_map (λ l. (done ++ (high * 256 + low) ∷ []) ++ l) (pairs_of after)
one_more done octets rest after high low is whole =
    whole ∙ ap (λ l. option_map (λ m. done ++ m) (pairs_of l)) is ∙ same (pairs_of after)
  where
    n : ℕ
    n = high * 256 + low

    same : (p : Option (List ℕ)) → option_map (λ m. done ++ m) (option_map (λ l. n ∷ l) p) ≡ option_map (λ l. (done ++ n ∷ []) ++ l) p
    same None = refl
    same (Some more) = ap Some (sym (append_assoc done (n ∷ []) more))

-- of octets with a pair that is no character, the pairs aren't all characters
pub no_text : (done octets rest after codes : List ℕ) (high low : ℕ) → rest ≡ high ∷ low ∷ after →
    pairs_of octets ≡ option_map (λ l. done ++ l) (pairs_of rest) → (IsScalar (high * 256 + low) → ⊥) →
    pairs_of octets ≡ Some codes → All IsScalar codes → ⊥
no_text done octets rest after codes high low is whole none some all =
    by (pairs_of after) (whole ∙ ap (λ l. option_map (λ m. done ++ m) (pairs_of l)) is)
  where
    n : ℕ
    n = high * 256 + low

    by : (p : Option (List ℕ)) → pairs_of octets ≡ option_map (λ m. done ++ m) (option_map (λ l. n ∷ l) p) → ⊥
    by None h = absurd (let e = sym some ∙ h in cc)
    by (Some more) h =
        let same : codes ≡ done ++ n ∷ more = (let e = sym some ∙ h in cc) in
        let P : List ℕ → Type 0 = λ l. All IsScalar l in
        let behind = subst P (ap (λ l. drop (length done) l) same ∙ drop-append_seam done (n ∷ more)) (All-drop IsScalar (length done) codes all) in
        none (behind 0 n (omega arith))
