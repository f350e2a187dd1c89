-- Several devices.
use Rattle.std.proofs.Common.{◌≡◌, ◌⊎◌, inl, inr, ℕ, ◌+◌, ◌-◌, ◌%◌, ◌<◌, ◌≤◌, max, eqb, Bool, true, false, cond, List, [], ◌∷◌, ◌++◌, Option, Some, None, refl, sym, ap, ◌∙◌, arith}
use Rattle.std.proofs.lemmas.Bool.{ltb-true, ltb-false, cases_lt}
use lib.Dec.{ltb}
use Rattle.std.proofs.Math.Nat.{max-eq_left, max-eq_right, le-max_left, le-max_right}
use Rattle.bac_invoke_ids.specs.Onward.{after, behind, later, shift_of}
use Rattle.bac_invoke_ids.specs.Several.{Question, SeveralGoOn, AreInTurn, IsNext, after_all, id_of, most, with_one}
use Rattle.bac_invoke_ids.specs.declared.ids.Ids.{Ids}

-- where they stand behind so many questions to each device, the most of which is this
record Stands (last first : ℕ) (ids : Ids) (asked : ℕ → ℕ) (far : ℕ) : Type 0 where
  is : ids.last ≡ (last + far) % 256
  by : ((far ≡ 0) × (ids.shift ≡ None)) ⊎ (ids.shift ≡ Some ((last + 257 - first) % 256))
  within : (device : ℕ) → asked device ≤ far
  few : far ≤ 128

-- by how much the next one is moved
moved : (last first : ℕ) (ids : Ids) (asked : ℕ → ℕ) (far : ℕ) (one : Question) → last < 256 → first < 256 → Stands last first ids asked far → IsNext (asked one.device) one.number
    → shift_of ids (id_of first one) ≡ (last + 257 - first) % 256
moved last first ids asked far one lt less s next = elim s.by [
  | inl none ↦
      let low : asked one.device ≤ far = s.within one.device in
      let is_one : one.number ≡ 1 = one_of (asked one.device) far one.number low none.0 next in
      let e : shift_of ids (id_of first one) ≡ (ids.last + 257 - id_of first one) % 256 = rw none.1 refl in
      e ∙ omega (arith, s.is, none.0, is_one, lt, less)
  | inr some ↦ rw some refl
]
  where
    one_of : (a far n : ℕ) → a ≤ far → far ≡ 0 → IsNext a n → n ≡ 1
    one_of a far n low zero next = elim next.0 [
      | inl e ↦ omega (arith, low, zero, e)
      | inr e ↦ omega (arith, low, zero, e, next.1)
    ]

later_is : (last far n : ℕ) → last < 256 → far ≤ 128 → n ≤ far + 1 → 1 ≤ n → later ((last + far) % 256) ((last + n) % 256) ≡ (last + max far n) % 256
later_is last far n lt few near one = by_step (ltb (((last + n) % 256 + 256 - (last + far) % 256) % 256) 128) refl
  where
    ahead : n ≡ far + 1 → (last + n) % 256 ≡ (last + max far n) % 256
    ahead e = ap (λ (k : ℕ). (last + k) % 256) (sym (max-eq_right {n = far} {m = n} (omega (arith, e))))

    behind_it : n ≤ far → (last + far) % 256 ≡ (last + max far n) % 256
    behind_it le = ap (λ (k : ℕ). (last + k) % 256) (sym (max-eq_left {n = far} {m = n} le))

    by_step : (b : Bool) → ltb (((last + n) % 256 + 256 - (last + far) % 256) % 256) 128 ≡ b → cond b ((last + n) % 256) ((last + far) % 256) ≡ (last + max far n) % 256
    by_step true e = elim (cases_lt far n) [
      | inr le ↦
          let near_it : ((last + n) % 256 + 256 - (last + far) % 256) % 256 < 128 = ltb-true _ _ e in
          let same : n ≡ far = omega (arith, near_it, le, few, one) in
          ap (λ (k : ℕ). (last + k) % 256) same ∙ behind_it le
      | inl lt ↦ ahead (omega (arith, lt, near))
    ]
    by_step false e = elim (cases_lt far n) [
      | inr le ↦ behind_it le
      | inl lt ↦
          let far_off : 128 ≤ ((last + n) % 256 + 256 - (last + far) % 256) % 256 = ltb-false _ _ e in
          absurd (omega (arith, far_off, lt, near))
    ]

-- the ID that it is sent with
sent_is : (last first n : ℕ) → last < 256 → first < 256 → 1 ≤ n → ((first + n - 1) % 256 + (last + 257 - first) % 256) % 256 ≡ (last + n) % 256
sent_is last first n lt less one = omega arith

-- behind one more
stands_on : (last first : ℕ) (ids : Ids) (asked : ℕ → ℕ) (far : ℕ) (one : Question) → last < 256 → first < 256 → Stands last first ids asked far → IsNext (asked one.device) one.number
    → Stands last first (after ids (id_of first one)) (with_one asked one) (max far one.number)
stands_on last first ids asked far one lt less s next =
    let shift = moved last first ids asked far one lt less s next in
    let low : asked one.device ≤ far = s.within one.device in
    let near : one.number ≤ far + 1 = near_by (asked one.device) far one.number low next.0 in
    record {
      is = rw (shift, s.is, sent_is last first one.number lt less next.1) (later_is last far one.number lt s.few near next.1);
      by = inr (ap (λ (k : ℕ). (let o : Option ℕ = Some k in o)) shift);
      within = λ device. by_device device (eqb device one.device) refl;
      few = most_few far one.number s.few next.2;
    }
  where
    near_by : (a far n : ℕ) → a ≤ far → (n ≡ a + 1) ⊎ (n ≡ a) → n ≤ far + 1
    near_by a far n low (inl e) = omega (arith, low, e)
    near_by a far n low (inr e) = omega (arith, low, e)

    most_few : (a b : ℕ) → a ≤ 128 → b ≤ 128 → max a b ≤ 128
    most_few a b low small = elim (cases_lt a b) [
      | inl lt ↦ rw (max-eq_right {n = a} {m = b} (omega (arith, lt))) small
      | inr le ↦ rw (max-eq_left {n = a} {m = b} le) low
    ]

    by_device : (device : ℕ) (b : Bool) → eqb device one.device ≡ b → cond b one.number (asked device) ≤ max far one.number
    by_device device true e = le-max_right far one.number
    by_device device false e = let l = le-max_left far one.number in omega (arith, s.within device, l)

-- behind more of them, and one
goes_on : (last first : ℕ) (ids : Ids) (asked : ℕ → ℕ) (far : ℕ) (before : List Question) (one : Question) → last < 256 → first < 256 → Stands last first ids asked far → AreInTurn asked (before ++ one ∷ [])
    → ((id_of first one + shift_of (after_all first ids before) (id_of first one)) % 256 ≡ (last + one.number) % 256) × ((after_all first ids (before ++ one ∷ [])).last ≡ (last + most far (before ++ one ∷ [])) % 256)
goes_on last first ids asked far [] one lt less s turns =
    (rw (moved last first ids asked far one lt less s turns.0) (sent_is last first one.number lt less turns.0.1), (stands_on last first ids asked far one lt less s turns.0).is)
goes_on last first ids asked far (next ∷ more) one lt less s turns =
    goes_on last first (after ids (id_of first next)) (with_one asked next) (max far next.number) more one lt less (stands_on last first ids asked far next lt less s turns.0) turns.1

pub several_go_on : SeveralGoOn
several_go_on last first before one lt less turns =
    goes_on last first (behind last) (λ device. 0) 0 before one lt less (record { is = omega arith; by = inl (refl, refl); within = λ device. omega arith; few = omega arith }) turns
