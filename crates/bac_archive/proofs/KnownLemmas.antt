-- Rows by rising ids.
use Rattle.std.proofs.Common.{◌≡◌, ◌⊎◌, inl, inr, refl, sym, ap, subst, subst₂, ◌∙◌, ℕ, ◌+◌, ◌-◌, List, [], ◌∷◌, ◌++◌, map, get_or, length, reverse, false, is_lt, arith}
use Rattle.std.specs.List.Sorted.{IsPermutation, IsSorted}
use Rattle.std.proofs.lemmas.List.{get_or-reverse, length-reverse, map-append, reverse-append}
use Rattle.std.proofs.lemmas.List.Sorted.{IsPermutation-reverse, IsPermutation-trans}
use Rattle.sqlite_value.specs.Order.{Row as Values, column, value_cmp}
use Rattle.sqlite.specs.Held.{Held}
use Rattle.sqlite.specs.declared.error.Error.{Error}
use Rattle.sqlite_trees.specs.declared.store.Store.{Ghosts}
use Rattle.bac_archive.specs.Ask.{FailsToAnswerTo, falls, first, rises, shown}
use Rattle.bac_archive.specs.Known.{AreRowsOf, FailsToKnow}
use Rattle.bac_archive.specs.declared.asking.Question.TheVariants.{Devices, Logs}
use Rattle.bac_archive.proofs.ReadLemmas.{whole_rows}

-- those that fall rise from the last on
rises_turned : (xs : List Values) → IsSorted falls xs → IsSorted rises (reverse xs)
rises_turned xs sorted = λ k d low high.
    let len = length-reverse xs in
    let one = get_or-reverse xs (k + 1) d (omega (arith, high, len)) in
    let two = get_or-reverse xs k d (omega (arith, high, len)) in
    let at : length xs - 1 - (k + 1) + 1 ≡ length xs - 1 - k = omega (arith, high, len) in
    let was = sorted (length xs - 1 - (k + 1)) d (omega arith) (omega (arith, high, len)) in
    subst₂ (λ x y. is_lt (value_cmp (column x 0) (column y 0)) ≡ false) (sym one) (sym two)
    (subst (λ i. is_lt (value_cmp (column (get_or xs (length xs - 1 - (k + 1)) d) 0) (column (get_or xs i d) 0)) ≡ false) at was)

module _ {X : Type 0} (n m : ℕ) (f : X → Values) (table rows : List Values) (told : List X) (whole : (r : Values) → first n (shown m r) ≡ shown m r) (same : IsPermutation (map (shown m) table) rows)
    (read : map f told ≡ map (first n) rows) where
  turned : (xs : List X) → map f (reverse xs) ≡ reverse (map f xs)
  turned [] = refl
  turned (x ∷ xs) =
      ap (map f) (reverse-append (x ∷ []) xs) ∙ map-append f (reverse xs) (x ∷ []) ∙ ap (λ l. l ++ f x ∷ []) (turned xs)
      ∙ sym (reverse-append (f x ∷ []) (map f xs))

  -- rows by rising ids that were read are those of their table
  pub rising_rows : IsSorted rises rows → AreRowsOf m table (map f told)
  rising_rows sorted = subst (AreRowsOf m table) (sym (read ∙ whole_rows n m table rows whole same)) (same, sorted)

  -- and so are those by falling ids, from the last on
  pub turned_rows : IsSorted falls rows → AreRowsOf m table (map f (reverse told))
  turned_rows sorted =
      let are = turned told ∙ ap reverse (read ∙ whole_rows n m table rows whole same) in
      subst (AreRowsOf m table) (sym are) (IsPermutation-trans _ rows (reverse rows) same (IsPermutation-reverse rows), rises_turned rows sorted)

-- the question for devices fails, or that for logs
pub known_of_two : {S : Type 0} (g : Ghosts S) (old new : Held S) (e : Error) → FailsToAnswerTo g Devices old new e ⊎ FailsToAnswerTo g Logs old new e → FailsToKnow g old new e
known_of_two g old new e (inl it) = inl (Devices, tt, it)
known_of_two g old new e (inr it) = inl (Logs, tt, it)
