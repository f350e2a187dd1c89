-- What is seen as a number or a text is one.
use Rattle.std.proofs.Common.{◌≡◌, ◌∙◌, ℕ, List, ap, refl, sym}
use Rattle.bac_wire.specs.Primitive.{Chars, Unsigned}
use Rattle.bac_wire.specs.View.{view}
use Rattle.bac_wire.specs.declared.value.Value.{Value}
use Rattle.bac_wire.specs.declared.value.Value.TheVariants as code

-- what is seen as an Unsigned is one
pub unsigned_value : (v : Value) (n : ℕ) → view v ≡ Unsigned n → v ≡ code.Unsigned n
unsigned_value (code.Unsigned m) n is = let same : m ≡ n = cc in ap (λ k. code.Unsigned k) same
unsigned_value v n is = absurd (let e = is in cc)

pub same_number : (v : Value) (m n : ℕ) → v ≡ code.Unsigned m → view v ≡ Unsigned n → m ≡ n
same_number v m n is seen = let both : Unsigned m ≡ Unsigned n = sym (ap view is) ∙ seen in cc

-- what is seen as a Character String is one
pub chars_value : (v : Value) (set : ℕ) (octets : List ℕ) → view v ≡ Chars set octets → ((s : ℕ) (o : _) → v ≡ code.Chars s o → ⊥) → ⊥
chars_value (code.Chars s o) set octets is other = other s o refl
chars_value v set octets is other = absurd (let e = is in cc)
