-- Records read one after the other.
use Rattle.std.proofs.Common.{◌≡◌, ℕ, zero, suc, true, false, List, [], ◌∷◌, length, Some, None, Result, Ok, Err, refl, arith}
use Rattle.std.specs.Prelude.{◌==◌}
use Rattle.std.proofs.lemmas.Bool.{eqb-true}
use Rattle.std.specs.Result.{result_ok}
use Rattle.bac_wire.specs.declared.fault.WireFault.{WireFault}
use Rattle.bac_wire.specs.declared.fault.WireFault.TheVariants.{Ended}
use Rattle.bac_log.specs.declared.entry.Entry.{Entry}
use Rattle.bac_log.specs.RecordReading.{entry_at, entries_at}

pub ok_of : {A : Type 0} (r : Result A WireFault) (x : A) → result_ok r ≡ Some x → r ≡ Ok x
ok_of (Ok y) x e = cc
ok_of (Err f) x e = absurd cc

pub err_of : {A : Type 0} (r : Result A WireFault) → result_ok r ≡ None → (f : WireFault) × (r ≡ Err f)
err_of (Ok y) e = absurd cc
err_of (Err f) e = (f, refl)

pub empty_read : (most : ℕ) (rest : List ℕ) → (length rest == 0) ≡ true → entries_at most rest ≡ Ok []
unfolding entries_at
empty_read zero [] e = refl
empty_read (suc most) [] e = refl
empty_read most (b ∷ rest) e = let z : length (b ∷ rest) ≡ 0 = eqb-true _ _ e in absurd (omega arith)

pub next_ok : (n most : ℕ) (rest : List ℕ) (x : Entry) (after : List ℕ) (es : List Entry) → n ≡ suc most → (length rest == 0) ≡ false → result_ok (entry_at rest) ≡ Some (x, after) → entries_at most after ≡ Ok es → entries_at n rest ≡ Ok (x ∷ es)
unfolding entries_at
next_ok n most [] x after es is e read others = absurd cc
next_ok n most (b ∷ rest) x after es is e read others = rw is (rw (ok_of (entry_at (b ∷ rest)) (x, after) read, others) refl)

pub next_err : (n most : ℕ) (rest : List ℕ) (x : Entry) (after : List ℕ) (f : WireFault) → n ≡ suc most → (length rest == 0) ≡ false → result_ok (entry_at rest) ≡ Some (x, after) → entries_at most after ≡ Err f → entries_at n rest ≡ Err f
unfolding entries_at
next_err n most [] x after f is e read others = absurd cc
next_err n most (b ∷ rest) x after f is e read others = rw is (rw (ok_of (entry_at (b ∷ rest)) (x, after) read, others) refl)

none_here : (n most b : ℕ) (rest : List ℕ) (f : WireFault) → n ≡ suc most → entry_at (b ∷ rest) ≡ Err f → entries_at n (b ∷ rest) ≡ Err f
unfolding entries_at
none_here n most b rest f is e = rw is (rw e refl)

pub none_read : (n most : ℕ) (rest : List ℕ) → n ≡ suc most → (length rest == 0) ≡ false → result_ok (entry_at rest) ≡ None → (f : WireFault) × (entries_at n rest ≡ Err f)
none_read n most [] is e read = absurd cc
none_read n most (b ∷ rest) is e read = let f = err_of (entry_at (b ∷ rest)) read in (f.0, none_here n most b rest f.0 is f.1)

pub too_many : (n : ℕ) (rest : List ℕ) → n ≡ 0 → (length rest == 0) ≡ false → entries_at n rest ≡ Err Ended
unfolding entries_at
too_many n [] is e = absurd cc
too_many n (b ∷ rest) is e = rw is refl
