-- A frame whose length is told last.
use Rattle.std.proofs.Common.{◌≡◌, ℕ, ◌+◌, ◌-◌, ◌/◌, ◌%◌, List, [], ◌∷◌, ◌++◌, length, ap, sym, ◌∙◌, arith, append_assoc, length-append, get_or}
use Rattle.std.specs.Prelude.{slice_set}
use Rattle.std.specs.Int.{w16, to_be_bytes}
use Rattle.std.proofs.Math.Seq.{set-append_seam}
use Rattle.bac_apdu.specs.Frame.{frame_octets, unicast_head, with_length}

pub put_at : (xs : List ℕ) (y : ℕ) (ys : List ℕ) (i a : ℕ) → length xs ≡ i → slice_set (xs ++ y ∷ ys) i a ≡ xs ++ a ∷ ys
put_at xs y ys i a is = ap (λ (k : ℕ). slice_set (xs ++ y ∷ ys) k a) (sym is) ∙ set-append_seam xs y ys a

both_put : (before body : List ℕ) (start high low : ℕ) → length before ≡ start
    → slice_set (slice_set (before ++ (129 ∷ 10 ∷ 0 ∷ 0 ∷ body)) (start + 2) high) (start + 3) low ≡ before ++ (129 ∷ 10 ∷ high ∷ low ∷ body)
both_put before body start high low is =
    let xs : List ℕ = before ++ (129 ∷ 10 ∷ []) in
    let ys : List ℕ = before ++ (129 ∷ 10 ∷ high ∷ []) in
    let long : length xs ≡ start + 2 = omega (arith, length-append before (129 ∷ 10 ∷ []), is) in
    let longer : length ys ≡ start + 3 = omega (arith, length-append before (129 ∷ 10 ∷ high ∷ []), is) in
    ap (λ (l : List ℕ). slice_set (slice_set l (start + 2) high) (start + 3) low) (sym (append_assoc before (129 ∷ 10 ∷ []) (0 ∷ 0 ∷ body)))
    ∙ ap (λ (l : List ℕ). slice_set l (start + 3) low) (put_at xs 0 (0 ∷ body) (start + 2) high long)
    ∙ ap (λ (l : List ℕ). slice_set l (start + 3) low) (append_assoc before (129 ∷ 10 ∷ []) (high ∷ 0 ∷ body) ∙ sym (append_assoc before (129 ∷ 10 ∷ high ∷ []) (0 ∷ body)))
    ∙ put_at ys 0 body (start + 3) low longer
    ∙ append_assoc before (129 ∷ 10 ∷ high ∷ []) (low ∷ body)

pub ended : (start : ℕ) (now before body : List ℕ) → length before ≡ start → now ≡ before ++ (unicast_head 0 ++ body) → with_length start now ≡ before ++ frame_octets body
unfolding frame_octets
ended start now before body is e =
    let size : length now - start ≡ length body + 4 = omega (arith, ap (λ (l : List ℕ). length l) e, length-append before (129 ∷ 10 ∷ 0 ∷ 0 ∷ body), is) in
    let len : ℕ = length body + 4 in
    ap (λ (n : ℕ). slice_set (slice_set now (start + 2) (n / 256 % 256)) (start + 3) (n % 256)) size
    ∙ ap (λ (l : List ℕ). slice_set (slice_set l (start + 2) (len / 256 % 256)) (start + 3) (len % 256)) e
    ∙ both_put before body start (len / 256 % 256) (len % 256) is

pub told : (start : ℕ) (now octets two mid new : List ℕ) → octets ≡ now → two ≡ to_be_bytes w16 (length octets - start)
    → mid ≡ slice_set now (start + 2) (get_or two 0 0) → new ≡ slice_set mid (start + 2 + 1) (get_or two 1 0) → new ≡ with_length start now
told start now octets two mid new same is first second =
    second ∙ ap (λ (l : List ℕ). slice_set l (start + 2 + 1) (get_or two 1 0)) first
    ∙ ap (λ (t : List ℕ). slice_set (slice_set now (start + 2) (get_or t 0 0)) (start + 2 + 1) (get_or t 1 0)) (is ∙ ap (λ (l : List ℕ). to_be_bytes w16 (length l - start)) same)
    ∙ ap (λ (k : ℕ). slice_set (slice_set now (start + 2) (get_or (to_be_bytes w16 (length now - start)) 0 0)) k (get_or (to_be_bytes w16 (length now - start)) 1 0)) (omega arith)
