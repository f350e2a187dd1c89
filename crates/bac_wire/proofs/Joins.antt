-- Levels put together.
use Rattle.std.proofs.Common.{◌≡◌, ℕ, zero, suc, ◌+◌, ◌<◌, List, [], ◌∷◌, ◌++◌, refl, sym, append_assoc, append-nil, arith, inl, inr, true, false}
use Rattle.bac_wire.specs.declared.level.Token.{Token}
use Rattle.bac_wire.specs.declared.level.Token.TheVariants.{Whole, Open, Close}
use Rattle.bac_wire.specs.Primitive.{Primitive, Null, Boolean, Unsigned, Signed, Real, Double, Octets, Chars, Bits, Enumerated, Date, Time, Object}
use Rattle.bac_wire.specs.Spelling.{Spells}
use Rattle.bac_wire.specs.Canon.{canon, canon_context, contents_of, tag_octets, IsValid}
use Rattle.bac_wire.specs.Level.{IsWhole, AreTokens, Closes, IsLevel}
use Rattle.bac_wire.proofs.Canonical.{canon_spells, context_is, tag_is}

tokens_join : (s t : List Token) (a b : List ℕ) → AreTokens s a → AreTokens t b → AreTokens (s ++ t) (a ++ b)
tokens_join [] t a b h k = rw h k
tokens_join (token ∷ s) t a b h k = (h.0, h.1 ++ b, rw h.2 (append_assoc h.0 h.1 b), h.3, tokens_join s t h.1 b h.4 k)

closes_join : (n m k : ℕ) (s t : List Token) → k ≡ n + m → Closes n s → Closes m t → Closes k (s ++ t)
closes_join n m k [] t e h c = let same : k ≡ m = omega (arith, e, h) in rw same c
closes_join n m k (Whole ∷ s) t e h c = closes_join n m k s t e h c
closes_join n m k (Open ∷ s) t e h c = closes_join (suc n) m (suc k) s t (omega (arith, e)) h c
closes_join zero m k (Close tag ∷ s) t e h c = absurd h
closes_join (suc n) m zero (Close tag ∷ s) t e h c = absurd (omega (arith, e))
closes_join (suc n) m (suc k) (Close tag ∷ s) t e h c = closes_join n m k s t (omega (arith, e)) h c

pub levels_join : (a b : List ℕ) → IsLevel a → IsLevel b → IsLevel (a ++ b)
levels_join a b h k = (h.0 ++ k.0, tokens_join h.0 k.0 a b h.1 k.1, closes_join 0 0 0 h.0 k.0 refl h.2 k.2)

pub level_encloses : (tag : ℕ) (inside : List ℕ) → tag < 255 → IsLevel inside → IsLevel (tag_octets 8 tag 6 ++ (inside ++ tag_octets 8 tag 7))
level_encloses tag inside small h =
    let start = tag_octets 8 tag 6 in
    let close = tag_octets 8 tag 7 in
    (Open ∷ (h.0 ++ Close tag ∷ []), (start, inside ++ close, refl, (tag, tag_is 8 tag 6 small), tokens_join h.0 (Close tag ∷ []) inside close h.1 (close, [], sym (append-nil close), tag_is 8 tag 7 small, refl)), closes_join 0 1 1 h.0 (Close tag ∷ []) refl h.2 refl)

one_whole : (text : List ℕ) → IsWhole text → IsLevel text
one_whole text w = (Whole ∷ [], (text, [], sym (append-nil text), w, refl), refl)

whole : (v : Primitive) (text : List ℕ) → Spells text v → IsWhole text
whole Null text s = inr (0, 0, s.0, inr (refl, λ e. omega arith), s.1)
whole (Boolean true) text s = inl (1, omega arith, s)
whole (Boolean false) text s = inl (0, omega arith, s)
whole (Unsigned n) text s = inr (0, 2, s.0, inr (refl, λ e. omega arith), s.1)
whole (Signed z) text s = inr (0, 3, s.0, inr (refl, λ e. omega arith), s.1)
whole (Real octets) text s = inr (0, 4, s.0, inr (refl, λ e. omega arith), s.1)
whole (Double octets) text s = inr (0, 5, s.0, inr (refl, λ e. omega arith), s.1)
whole (Octets octets) text s = inr (0, 6, s.0, inr (refl, λ e. omega arith), s.1)
whole (Chars set octets) text s = inr (0, 7, s.0, inr (refl, λ e. omega arith), s.1)
whole (Bits bits) text s = inr (0, 8, s.0, inr (refl, λ e. omega arith), s.1)
whole (Enumerated n) text s = inr (0, 9, s.0, inr (refl, λ e. omega arith), s.1)
whole (Date octets) text s = inr (0, 10, s.0, inr (refl, λ e. omega arith), s.1)
whole (Time octets) text s = inr (0, 11, s.0, inr (refl, λ e. omega arith), s.1)
whole (Object id) text s = inr (0, 12, s.0, inr (refl, λ e. omega arith), s.1)

pub value_level : (value : Primitive) → IsValid value → IsLevel (canon value)
value_level value valid = one_whole (canon value) (whole value (canon value) (canon_spells value valid))

pub context_level : (tag : ℕ) (value : Primitive) → tag < 255 → IsValid value → IsLevel (canon_context tag value)
context_level tag value small valid = one_whole (canon_context tag value) (inr (8, tag, contents_of value, inl refl, context_is tag value small valid))
