-- A loop that changes each host of a list.
use Rattle.std.proofs.Common.{◌≡◌, ◌<◌, ◌+◌, ◌++◌, ◌∙◌, ℕ, zero, suc, List, [], ◌∷◌, length, map, take, drop, get_or}
use Rattle.std.proofs.Common.{set, refl, ap}
use Rattle.std.proofs.lemmas.List.Edits.{map_over_more}
use Rattle.bac_site_poller.specs.declared.hosts.Host.{Host}

same_default : (ys : List Host) (i : ℕ) (d : Host) → get_or ys i d ≡ get_or ys i (get_or ys i d)
same_default [] zero d = refl
same_default [] (suc i) d = refl
same_default (y ∷ ys) zero d = refl
same_default (y ∷ ys) (suc i) d = same_default ys i d

-- one more of them
pub one_more : (f : Host → Host) (xs ys : List Host) (i : ℕ) (new d : Host) → i < length xs → ys ≡ map f (take i xs) ++ drop i xs → new ≡ f (get_or ys i d) →
    set ys i new ≡ map f (take (i + 1) xs) ++ drop (i + 1) xs
one_more f xs ys i new d below all is =
    ap (set ys i) is ∙ map_over_more f xs ys i (get_or ys i d) below all (same_default ys i d)
