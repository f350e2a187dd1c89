-- The file of a part, and what a part of a folder follows on.
use Rattle.std.proofs.Common.{◌≡◌, ◌<◌, ◌-◌, ◌++◌, ◌∙◌, ℕ, zero, suc, List, [], length, codes, decimal, replicate, Some, String, Global, refl, ap, subst, append_assoc, append-nil, arith}
use Rattle.std.specs.String.{string_bytes}
use Rattle.std.specs.Fmt.{char_count, format_spec, padded_integral, styled_decimal}
use Rattle.bac_files.specs.Parts.{FollowsOn, part_file, part_path}

-- a number in six digits
six_digits : (n : ℕ) → styled_decimal (format_spec 32 0 4 6 18446744073709551615) n ≡ replicate (6 - length (decimal n)) 48 ++ decimal n
unfolding padded_integral char_count
six_digits n =
    let zeros : 6 - length (decimal n) - 0 - 0 ≡ 6 - length (decimal n) = omega arith in
    ap (λ (k : ℕ). replicate k 48 ++ (decimal n ++ [])) zeros ∙ ap (λ (l : List ℕ). replicate (6 - length (decimal n)) 48 ++ l) (append-nil (decimal n))

-- what is printed behind nothing is the name of the file
pub names_part : (n : ℕ) (spec : _) (before text : List ℕ) → text ≡ before ++ (styled_decimal spec n ++ codes ".db")
    → spec ≡ format_spec 32 0 4 6 18446744073709551615 → before ≡ [] → text ≡ part_file n
names_part n spec before text is laid none =
    let one : text ≡ styled_decimal spec n ++ codes ".db" = is ∙ ap (λ (l : List ℕ). l ++ (styled_decimal spec n ++ codes ".db")) none in
    let two : text ≡ styled_decimal (format_spec 32 0 4 6 18446744073709551615) n ++ codes ".db" = subst (λ s. text ≡ styled_decimal s n ++ codes ".db") laid one in
    two ∙ ap (λ (l : List ℕ). l ++ codes ".db") (six_digits n) ∙ append_assoc (replicate (6 - length (decimal n)) 48) (decimal n) (codes ".db")

-- behind some parts it is the last of them
pub follows : (folder : List ℕ) (others : ℕ) (path : String Global) → 0 < others → string_bytes path ≡ part_path folder others → FollowsOn folder others (Some path)
follows folder zero path some is = absurd (omega (arith, some))
follows folder (suc others) path some is = (path, refl, is)
