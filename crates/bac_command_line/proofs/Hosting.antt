-- The size of a network, and its hosts one after the other.
use Rattle.std.proofs.Common.{◌≡◌, ℕ, ◌+◌, ◌-◌, ◌*◌, ◌/◌, ◌%◌, ◌^◌, ◌<◌, ◌≤◌, List, [], ◌∷◌, ◌++◌, refl, sym, ap, ◌∙◌}
use Rattle.std.proofs.Common.{append_assoc, arith, suc}
use Rattle.std.proofs.Math.Nat.{div-lt_iff_lt-mul, mul-le-mul_right}
use Rattle.std.proofs.Math.Pow.{pow_mono, pow_pos}
use Rattle.std.proofs.lemmas.Nat.{pow-add, shl_whole}
use Rattle.bac_command_line.specs.Networks.{hosts_from, size_of, with_host}

pub some : (bits : ℕ) → 0 < size_of bits
unfolding size_of
some bits = pow_pos (32 - bits)

pub shifted : (bits : ℕ) → 20 ≤ bits → 1 * 2 ^ (32 - bits) % 2 ^ 32 ≡ size_of bits
unfolding size_of
shifted bits low =
    let fits : 1 + (32 - bits) ≤ 32 = omega arith in
    let one : 1 < 2 ^ 1 = omega arith in
    let e = shl_whole 1 1 (32 - bits) 32 one fits in
    grind (arith, e)

pub within : (bits : ℕ) → 20 ≤ bits → size_of bits ≤ 4096
unfolding size_of
within bits low = let h : 32 - bits ≤ 12 = omega arith in pow_mono h

-- the networks of this size are so many
whole : (bits : ℕ) → bits ≤ 32 → 2 ^ bits * size_of bits ≡ 2 ^ 32
unfolding size_of
whole bits h =
    let e : bits + (32 - bits) ≡ 32 = omega arith in
    sym (pow-add 2 bits (32 - bits)) ∙ ap (λ n. 2 ^ n) e

-- a part that something of the whole lies in is in the whole
part : (n size parts all : ℕ) → parts * size ≡ all → n < all → 0 < size → n / size * size + size ≤ all
part n size parts all e below some =
    let lower : n < parts * size = rw e below in
    let q : n / size < parts = (div-lt_iff_lt-mul some).1 lower in
    let q : n / size + 1 ≤ parts = omega arith in
    let m = mul-le-mul_right size q in
    omega (arith, m, e)

pub room : (host bits : ℕ) → host < 2 ^ 32 → bits ≤ 32 → host / size_of bits * size_of bits + size_of bits ≤ 2 ^ 32
room host bits below high = part host (size_of bits) (2 ^ bits) (2 ^ 32) (whole bits high) below (some bits)

-- one host is there, and those behind it are to come
pub one_more : (address : List ℕ) (done : List (List ℕ)) (first k count : ℕ) → k < count
    → done ++ hosts_from address (first + k) (count - k)
    ≡ (done ++ with_host address (first + k) ∷ []) ++ hosts_from address (first + (k + 1)) (count - (k + 1))
one_more address done first k count h =
    let e : count - k ≡ suc (count - (k + 1)) = omega arith in
    let f : first + k + 1 ≡ first + (k + 1) = omega arith in
    rw (e, append_assoc, f) refl
