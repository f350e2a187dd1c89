-- Entries are put or told one after the other.
use Rattle.std.proofs.Common.{◌≡◌, ◌<◌, ◌≤◌, ℕ, suc, zero, ◌+◌, arith, length, List, [], ◌∷◌, drop, drop-cons, get_or}
use Rattle.std.proofs.Common.{refl, sym, ap, ◌∙◌}
use Rattle.bac_answers.specs.declared.entry.Entry.{Entry}
use Rattle.bac_device_poller.specs.Entries.{RowsAs, with_entries, with_entry}

pub one_more : (s t u : RowsAs) (es : List Entry) (k : ℕ) (d : Entry) → k < length es → t ≡ with_entry s (get_or es k d) → with_entries s (drop k es) ≡ u →
    with_entries t (drop (k + 1) es) ≡ u
one_more s t u es k d below put all =
    let next : suc k ≡ k + 1 = omega arith in
    let e : drop k es ≡ get_or es k d ∷ drop (k + 1) es = drop-cons es k d below ∙ ap (λ (n : ℕ). get_or es k d ∷ drop n es) next in
    ap (λ (q : RowsAs). with_entries q (drop (k + 1) es)) put ∙ ap (λ (l : List Entry). with_entries s l) (sym e) ∙ all

drop_all : (n : ℕ) (l : List Entry) → length l ≤ n → drop n l ≡ []
drop_all zero [] h = refl
drop_all (suc n) [] h = refl
drop_all zero (x ∷ l) h = absurd (omega (arith, h))
drop_all (suc n) (x ∷ l) h = drop_all n l (omega (arith, h))

pub no_more : (s u : RowsAs) (es : List Entry) (k : ℕ) → length es ≤ k → with_entries s (drop k es) ≡ u → s ≡ u
no_more s u es k past all = ap (λ (l : List Entry). with_entries s l) (sym (drop_all k es past)) ∙ all
