-- Entries with their numbers.
use Rattle.std.proofs.Common.{◌≡◌, ℕ, suc, List, [], ◌∷◌, length, map, refl, ap, ◌∙◌}
use Rattle.bac_log.specs.declared.entry.Entry.{Entry}
use Rattle.bac_walk.specs.declared.batch.Numbered.{Numbered}
use Rattle.bac_link.specs.Ordinals.{number_after}
use Rattle.bac_walk.specs.Walks.{with_numbers, shown_from, item_of}

pub map-with_numbers : (k : ℕ) (es : List Entry) → map item_of (with_numbers k es) ≡ shown_from k es
map-with_numbers k [] = refl
map-with_numbers k (e ∷ es) = ap (λ r. item_of (record { number = k; entry = e }) ∷ r) (map-with_numbers (number_after k 1) es)

pub length-with_numbers : (n : ℕ) (es : List Entry) (xs : List Numbered) → xs ≡ with_numbers n es → length xs ≡ length es
length-with_numbers n es xs is = ap length is ∙ counted n es
  where
    counted : (k : ℕ) (ys : List Entry) → length (with_numbers k ys) ≡ length ys
    counted k [] = refl
    counted k (y ∷ ys) = ap suc (counted (number_after k 1) ys)
