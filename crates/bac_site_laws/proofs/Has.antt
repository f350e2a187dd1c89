-- A log's row on record, among those of its device.
use Rattle.std.proofs.Common.{◌≡◌, ◌∙◌, ℕ, ◌+◌, ◌<◌, nat_lt, not, cond, Bool, true, false, List, [], ◌∷◌, ◌++◌, length}
use Rattle.std.proofs.Common.{remove, position, slice_get, Option, None, Some, refl, sym, ap, subst, arith}
use Rattle.std.proofs.lemmas.Bool.{lt-ltb}
use Rattle.std.proofs.lemmas.List.{length_push}
use Rattle.std.proofs.lemmas.List.Quantifiers.{position-Some}
use Rattle.std.proofs.lemmas.Option.{get_or_from_slice_get}
use Rattle.std.specs.List.{position_or_len}
use Rattle.bac_wire.specs.Primitive.{Id}
use Rattle.bac_device_poller.specs.Entries.{is_log, log_at, log_in, logs_beside}
use Rattle.bac_device_poller.specs.Rows.{LogAs}
use Rattle.bac_site_laws.specs.Own.{HasNone}

module _ (log : Id) where
  -- what is found is one
  pub found_is : (l : LogAs) (logs : List LogAs) → log_in log logs ≡ Some l → is_log log l ≡ true
  found_is l logs found = by (position (is_log log) logs) refl found
    where
      by : (o : Option ℕ) → position (is_log log) logs ≡ o → log_at o logs ≡ Some l → is_log log l ≡ true
      by None at is = absurd (cc)
      by (Some k) at is =
          let X : LogAs → Type 0 = λ x. is_log log x ≡ true in
          subst X (get_or_from_slice_get logs k l l is) (position-Some (is_log log) logs k l at).1

  -- behind others that are none of this log it is the first
  none_before : (b : Bool) (n : ℕ) → b ≡ false → cond (not b) (1 + n) 0 ≡ 1 + n
  none_before true n is = absurd (cc)
  none_before false n is = refl

  one_here : (b : Bool) (n : ℕ) → b ≡ true → cond (not b) (1 + n) 0 ≡ 0
  one_here true n is = refl
  one_here false n is = absurd (cc)

  len_last : (xs : List LogAs) (l : LogAs) → HasNone log xs → is_log log l ≡ true → position_or_len (is_log log) (xs ++ l ∷ []) ≡ length xs
  len_last [] l none is = one_here (is_log log l) 0 is
  len_last (x ∷ xs) l none is =
      none_before (is_log log x) (position_or_len (is_log log) (xs ++ l ∷ [])) none.0 ∙ ap (λ (n : ℕ). 1 + n) (len_last xs l none.1 is) ∙ omega arith

  last_by : (n m : ℕ) (b : Bool) → nat_lt n m ≡ b → b ≡ true → cond b (Some n) None ≡ Some n
  last_by n m true is at = refl
  last_by n m false is at = absurd (cc)

  last_at : (xs : List LogAs) (l : LogAs) → HasNone log xs → is_log log l ≡ true → position (is_log log) (xs ++ l ∷ []) ≡ Some (length xs)
  last_at xs l none is =
      let at = len_last xs l none is in
      let X : ℕ → Type 0 = λ n. cond (nat_lt n (length (xs ++ l ∷ []))) (Some n) None ≡ Some (length xs) in
      let below : length xs < length (xs ++ l ∷ []) = omega (arith, length_push xs l) in
      subst X (sym at) (last_by (length xs) (length (xs ++ l ∷ [])) (nat_lt (length xs) (length (xs ++ l ∷ []))) refl (lt-ltb (length xs) (length (xs ++ l ∷ [])) below))

  get_last : (xs : List LogAs) (l : LogAs) → slice_get (xs ++ l ∷ []) (length xs) ≡ Some l
  get_last [] l = refl
  get_last (x ∷ xs) l = get_last xs l

  cut_last : (xs : List LogAs) (l : LogAs) → remove (xs ++ l ∷ []) (length xs) ≡ xs
  cut_last [] l = refl
  cut_last (x ∷ xs) l = ap (λ (ys : List LogAs). x ∷ ys) (cut_last xs l)

  pub found_last : (xs : List LogAs) (l : LogAs) → HasNone log xs → is_log log l ≡ true → log_in log (xs ++ l ∷ []) ≡ Some l
  found_last xs l none is =
      ap (λ (o : Option ℕ). log_at o (xs ++ l ∷ [])) (last_at xs l none is) ∙ get_last xs l

  pub beside_last : (xs : List LogAs) (l : LogAs) → HasNone log xs → is_log log l ≡ true →
      logs_beside (position (is_log log) (xs ++ l ∷ [])) (xs ++ l ∷ []) ≡ xs
  beside_last xs l none is =
      ap (λ (o : Option ℕ). logs_beside o (xs ++ l ∷ [])) (last_at xs l none is) ∙ cut_last xs l
