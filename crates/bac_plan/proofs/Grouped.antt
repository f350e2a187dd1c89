-- Logs by the devices that they are of.
use Rattle.std.proofs.Common.{arith, ◌≡◌, ℕ, ◌<◌, ◌++◌, Bool, true, false, List, [], ◌∷◌, Some, replicate, refl, sym, ap, ◌∙◌}
use Rattle.std.specs.List.{filter, slice_get}
use Rattle.std.proofs.lemmas.Bool.{cond-false, cond-true}
use Rattle.std.proofs.lemmas.List.{append-nil, get_or-replicate, length-replicate}
use Rattle.std.proofs.lemmas.Option.{slice_get-get_or}
use Rattle.std.proofs.lemmas.List.Elements.{filter-append}
use Rattle.bac_archive.specs.declared.row.LogRow.{LogRow}
use Rattle.bac_plan.specs.Logs.{is_of, with_log_of}

abbrev no_rows : List LogRow
no_rows = []

none_at : (n id : ℕ) → id < n → slice_get (replicate n no_rows) id ≡ Some no_rows
none_at n id less = slice_get-get_or (replicate n no_rows) id no_rows (omega (arith, length-replicate n no_rows, less)) ∙ ap (λ (l : List LogRow). Some l) (get_or-replicate n id no_rows no_rows less)

pub each_none : (groups : List (List LogRow)) (n id : ℕ) → groups ≡ replicate n [] → id < n → slice_get groups id ≡ Some []
each_none groups n id is less = ap (λ (l : List (List LogRow)). slice_get l id) is ∙ none_at n id less

-- one log more
pub one_more : (id : ℕ) (logs : List LogRow) (l : LogRow) → with_log_of id l (filter (is_of id) logs) ≡ filter (is_of id) (logs ++ l ∷ [])
one_more id logs l = by (is_of id l) refl
  where
    by : (b : Bool) → is_of id l ≡ b → with_log_of id l (filter (is_of id) logs) ≡ filter (is_of id) (logs ++ l ∷ [])
    by true is =
        cond-true (is_of id l) (filter (is_of id) logs ++ l ∷ []) (filter (is_of id) logs) is
        ∙ sym (filter-append (is_of id) logs (l ∷ []) ∙ ap (λ (xs : List LogRow). filter (is_of id) logs ++ xs) (cond-true (is_of id l) (l ∷ []) [] is))
    by false is =
        cond-false (is_of id l) (filter (is_of id) logs ++ l ∷ []) (filter (is_of id) logs) is
        ∙ sym (filter-append (is_of id) logs (l ∷ []) ∙ ap (λ (xs : List LogRow). filter (is_of id) logs ++ xs) (cond-false (is_of id l) (l ∷ []) [] is) ∙ append-nil (filter (is_of id) logs))
