-- Records that are read one after the other.
use Rattle.std.proofs.Common.{◌≡◌, ℕ, suc, ◌+◌, ◌==◌, true, false, Option, Some, None, Result, Ok, Err, List, [], ◌∷◌, ◌++◌, length, sym, ap, ◌∙◌, append_assoc, append-nil, refl}
use Rattle.std.specs.Option.{option_map}
use Rattle.std.specs.Result.{result_ok}
use Rattle.bac_wire.specs.declared.fault.WireFault.{WireFault}
use Rattle.bac_log.specs.declared.entry.Entry.{Entry}
use Rattle.bac_log.specs.RecordReading.{entry_at, entries_at}
use Rattle.bac_link.specs.Ordinals.{number_after}
use Rattle.bac_walk.specs.Walks.{with_numbers}
use Rattle.bac_walk.specs.declared.batch.Numbered.{Numbered}
use Rattle.bac_walk.proofs.Counting.{empty_read, next_ok, next_err, none_read, too_many}

-- those that came, and those that are still to be read
abbrev pub joined : List Numbered → ℕ → Option (List Entry) → Option (List Numbered)
joined came number es = option_map (λ (others : List Entry). came ++ with_numbers number others) es

pub one_more : (n most : ℕ) (rest : List ℕ) (x : Entry) (after : List ℕ) (came : List Numbered) (number : ℕ) →
    n ≡ suc most → (length rest == 0) ≡ false → result_ok (entry_at rest) ≡ Some (x, after) →
    joined came number (result_ok (entries_at n rest))
    ≡ joined (came ++ record { number = number; entry = x } ∷ []) (number_after number 1) (result_ok (entries_at most after))
one_more n most rest x after came number is some read = by_rest (entries_at most after) refl
  where
    one : Numbered
    one = record { number = number; entry = x }

    by_rest : (r : Result (List Entry) WireFault) → entries_at most after ≡ r →
        joined came number (result_ok (entries_at n rest)) ≡ joined (came ++ one ∷ []) (number_after number 1) (result_ok (entries_at most after))
    by_rest (Ok es) e =
        ap (λ (r : Result (List Entry) WireFault). joined came number (result_ok r)) (next_ok n most rest x after es is some read e)
        ∙ ap (λ (l : List Numbered). Some l) (sym (append_assoc came (one ∷ []) (with_numbers (number_after number 1) es)))
        ∙ sym (ap (λ (r : Result (List Entry) WireFault). joined (came ++ one ∷ []) (number_after number 1) (result_ok r)) e)
    by_rest (Err f) e =
        ap (λ (r : Result (List Entry) WireFault). joined came number (result_ok r)) (next_err n most rest x after f is some read e)
        ∙ sym (ap (λ (r : Result (List Entry) WireFault). joined (came ++ one ∷ []) (number_after number 1) (result_ok r)) e)

pub no_more : (n : ℕ) (rest : List ℕ) (came : List Numbered) (number : ℕ) → (length rest == 0) ≡ true →
    joined came number (result_ok (entries_at n rest)) ≡ Some came
no_more n rest came number none =
    ap (λ (r : Result (List Entry) WireFault). joined came number (result_ok r)) (empty_read n rest none)
    ∙ ap (λ (l : List Numbered). Some l) (append-nil came)

pub no_record : (n most : ℕ) (rest : List ℕ) (came : List Numbered) (number : ℕ) → n ≡ suc most → (length rest == 0) ≡ false →
    result_ok (entry_at rest) ≡ None → joined came number (result_ok (entries_at n rest)) ≡ None
no_record n most rest came number is some read =
    let f = none_read n most rest is some read in
    ap (λ (r : Result (List Entry) WireFault). joined came number (result_ok r)) f.1

pub no_turns : (n : ℕ) (rest : List ℕ) (came : List Numbered) (number : ℕ) → n ≡ 0 → (length rest == 0) ≡ false →
    joined came number (result_ok (entries_at n rest)) ≡ None
no_turns n rest came number is some =
    ap (λ (r : Result (List Entry) WireFault). joined came number (result_ok r)) (too_many n rest is some)
