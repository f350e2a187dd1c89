-- What stands in most records, passed over in one look: a stamp, a datum of few octets, status flags.
use Rattle.std.proofs.Common.{◌≡◌, ◌≢◌, ℕ, suc, ◌+◌, ◌-◌, ◌/◌, ◌%◌, ◌<◌, ◌≤◌, List, [], ◌∷◌, length, get_or, take, drop, Ok, refl, sym, ap, ◌∙◌, arith, inl, inr}
use Rattle.std.proofs.lemmas.List.{length-drop, length-take, drop-drop, drop_more, take-append-drop}
use Rattle.bac_wire.specs.Level.{token_at, close_at, IsPassed}
use Rattle.bac_wire.specs.declared.level.Token.TheVariants.{Whole, Open, Close}
use Rattle.bac_wire.specs.Reading.{number_at, length_at}
use Rattle.bac_wire.proofs.Tags.{octets_again}
use Rattle.bac_wire.specs.Spelling.{IsTag, IsTagged}
use Rattle.bac_wire.proofs.Levels.{Walked, one_step, token_again}

-- ---- the four tags of a stamp

opens : (l : List ℕ) → token_at (14 ∷ l) ≡ Ok (Open, l)
unfolding token_at number_at
opens l = refl

date_passed : (a b c d : ℕ) (l : List ℕ) → token_at (164 ∷ a ∷ b ∷ c ∷ d ∷ l) ≡ Ok (Whole, l)
unfolding token_at number_at length_at
date_passed a b c d l = rw (octets_again (a ∷ b ∷ c ∷ d ∷ []) l) refl

time_passed : (a b c d : ℕ) (l : List ℕ) → token_at (180 ∷ a ∷ b ∷ c ∷ d ∷ l) ≡ Ok (Whole, l)
unfolding token_at number_at length_at
time_passed a b c d l = rw (octets_again (a ∷ b ∷ c ∷ d ∷ []) l) refl

closes : (l : List ℕ) → token_at (15 ∷ l) ≡ Ok (Close 0, l)
unfolding token_at number_at
closes l = refl

stamp_steps : (m depth wanted a b c d e f g h : ℕ) (l : List ℕ)
    → close_at (suc (suc (suc (suc m)))) depth wanted (14 ∷ 164 ∷ a ∷ b ∷ c ∷ d ∷ 180 ∷ e ∷ f ∷ g ∷ h ∷ 15 ∷ l) ≡ close_at m depth wanted l
stamp_steps m depth wanted a b c d e f g h l =
    one_step (suc (suc (suc m))) depth (depth + 1) wanted (14 ∷ 164 ∷ a ∷ b ∷ c ∷ d ∷ 180 ∷ e ∷ f ∷ g ∷ h ∷ 15 ∷ l) (164 ∷ a ∷ b ∷ c ∷ d ∷ 180 ∷ e ∷ f ∷ g ∷ h ∷ 15 ∷ l) Open (opens (164 ∷ a ∷ b ∷ c ∷ d ∷ 180 ∷ e ∷ f ∷ g ∷ h ∷ 15 ∷ l)) refl
    ∙ (one_step (suc (suc m)) (depth + 1) (depth + 1) wanted (164 ∷ a ∷ b ∷ c ∷ d ∷ 180 ∷ e ∷ f ∷ g ∷ h ∷ 15 ∷ l) (180 ∷ e ∷ f ∷ g ∷ h ∷ 15 ∷ l) Whole (date_passed a b c d (180 ∷ e ∷ f ∷ g ∷ h ∷ 15 ∷ l)) refl
    ∙ (one_step (suc m) (depth + 1) (depth + 1) wanted (180 ∷ e ∷ f ∷ g ∷ h ∷ 15 ∷ l) (15 ∷ l) Whole (time_passed e f g h (15 ∷ l)) refl
    ∙ one_step m (depth + 1) depth wanted (15 ∷ l) l (Close 0) (closes l) (λ z. omega arith, omega arith)))

stamp_front : (m depth wanted : ℕ) (l : List ℕ) → 12 ≤ length l → get_or l 0 0 ≡ 14 → get_or l 1 0 ≡ 164 → get_or l 6 0 ≡ 180 → get_or l 11 0 ≡ 15
    → close_at (suc (suc (suc (suc m)))) depth wanted l ≡ close_at m depth wanted (drop 12 l)
stamp_front m depth wanted [] long p0 p1 p6 p11 = absurd (omega arith)
stamp_front m depth wanted (a ∷ []) long p0 p1 p6 p11 = absurd (omega arith)
stamp_front m depth wanted (a ∷ b ∷ []) long p0 p1 p6 p11 = absurd (omega arith)
stamp_front m depth wanted (a ∷ b ∷ c ∷ []) long p0 p1 p6 p11 = absurd (omega arith)
stamp_front m depth wanted (a ∷ b ∷ c ∷ d ∷ []) long p0 p1 p6 p11 = absurd (omega arith)
stamp_front m depth wanted (a ∷ b ∷ c ∷ d ∷ e ∷ []) long p0 p1 p6 p11 = absurd (omega arith)
stamp_front m depth wanted (a ∷ b ∷ c ∷ d ∷ e ∷ f ∷ []) long p0 p1 p6 p11 = absurd (omega arith)
stamp_front m depth wanted (a ∷ b ∷ c ∷ d ∷ e ∷ f ∷ g ∷ []) long p0 p1 p6 p11 = absurd (omega arith)
stamp_front m depth wanted (a ∷ b ∷ c ∷ d ∷ e ∷ f ∷ g ∷ h ∷ []) long p0 p1 p6 p11 = absurd (omega arith)
stamp_front m depth wanted (a ∷ b ∷ c ∷ d ∷ e ∷ f ∷ g ∷ h ∷ i ∷ []) long p0 p1 p6 p11 = absurd (omega arith)
stamp_front m depth wanted (a ∷ b ∷ c ∷ d ∷ e ∷ f ∷ g ∷ h ∷ i ∷ j ∷ []) long p0 p1 p6 p11 = absurd (omega arith)
stamp_front m depth wanted (a ∷ b ∷ c ∷ d ∷ e ∷ f ∷ g ∷ h ∷ i ∷ j ∷ k ∷ []) long p0 p1 p6 p11 = absurd (omega arith)
stamp_front m depth wanted (a ∷ b ∷ c ∷ d ∷ e ∷ f ∷ g ∷ h ∷ i ∷ j ∷ k ∷ l ∷ rest) long p0 p1 p6 p11 = rw (p0, p1, p6, p11) (stamp_steps m depth wanted c d e f h i j k rest)

-- behind a stamp the loop is as deep as before it
pub stamp_on : (bytes : List ℕ) (wanted at depth : ℕ) → Walked bytes wanted at depth → 12 ≤ length (drop at bytes)
    → get_or (drop at bytes) 0 0 ≡ 14 → get_or (drop at bytes) 1 0 ≡ 164 → get_or (drop at bytes) 6 0 ≡ 180 → get_or (drop at bytes) 11 0 ≡ 15
    → Walked bytes wanted (at + 12) depth
stamp_on bytes wanted at depth w long p0 p1 p6 p11 =
    let len = length-drop at bytes in
    let m = w.steps - 4 in
    let four : w.steps ≡ suc (suc (suc (suc (w.steps - 4)))) = omega (arith, w.enough, len, long) in
    record {
      within = omega (arith, len, long);
      deep = omega (arith, w.deep);
      steps = m;
      enough = omega (arith, w.enough, len, long);
      same = rw (← drop-drop) (sym (stamp_front m depth wanted (drop at bytes) long p0 p1 p6 p11) ∙ ap (λ (n : ℕ). close_at n depth wanted (drop at bytes)) (sym four) ∙ w.same);
    }

-- ---- octets that are passed over

-- a whole tag
one_passed : (n : ℕ) (l : List ℕ) → 1 ≤ n → n ≤ length l → token_at l ≡ Ok (Whole, drop n l) → IsPassed n l
one_passed n l some within is = (1, omega arith, some, within, λ steps depth wanted. rw (first steps) (one_step steps depth depth wanted l (drop n l) Whole is refl))
  where
    first : (steps : ℕ) → 1 + steps ≡ suc steps
    first steps = omega arith

-- one after the other
pub both_passed : (n m : ℕ) (l : List ℕ) → IsPassed n l → IsPassed m (drop n l) → IsPassed (n + m) l
both_passed n m l a b =
    let sum : (steps : ℕ) → (a.0 + b.0) + steps ≡ a.0 + (b.0 + steps) = λ steps. omega arith in (
      a.0 + b.0,
      omega (arith, a.1),
      omega (arith, a.2, b.2),
      omega (arith, a.3, b.3, length-drop n l),
      λ steps depth wanted. rw (sum steps, ← drop-drop) (a.4 (b.0 + steps) depth wanted ∙ b.4 steps depth wanted),
    )

-- behind octets that are passed over the loop is as deep as before them
pub passed_on : (bytes : List ℕ) (wanted at depth n : ℕ) → Walked bytes wanted at depth → IsPassed n (drop at bytes) → Walked bytes wanted (at + n) depth
passed_on bytes wanted at depth n w p =
    let len = length-drop at bytes in
    let split : w.steps ≡ p.0 + (w.steps - p.0) = omega (arith, w.enough, len, p.2, p.3) in
    record {
      within = omega (arith, len, p.3, w.within);
      deep = omega (arith, w.deep);
      steps = w.steps - p.0;
      enough = omega (arith, w.enough, len, p.1, p.2, p.3);
      same = rw (← drop-drop) (sym (p.4 (w.steps - p.0) depth wanted) ∙ ap (λ (s : ℕ). close_at s depth wanted (drop at bytes)) (sym split) ∙ w.same);
    }

-- ---- a datum between its tags, and status flags

opens_one : (l : List ℕ) → token_at (30 ∷ l) ≡ Ok (Open, l)
unfolding token_at number_at
opens_one l = refl

closes_one : (l : List ℕ) → token_at (31 ∷ l) ≡ Ok (Close 1, l)
unfolding token_at number_at
closes_one l = refl

-- so many octets after a context tag of one octet
short_passed : (head : ℕ) (l : List ℕ) → head / 8 % 2 ≢ 0 → head < 240 → head % 8 ≤ 4 → head % 8 ≤ length l → token_at (head ∷ l) ≡ Ok (Whole, drop (head % 8) l)
short_passed head l context small few within =
    let tag : IsTag 8 (head / 16) (head % 8) (head ∷ []) = (omega (arith, small), omega (arith, context, small)) in
    let size : length (take (head % 8) l) ≡ head % 8 = omega (arith, length-take (head % 8) l, within) in
    let is : IsTagged 8 (head / 16) (take (head % 8) l) (head ∷ take (head % 8) l) =
    record { head = head ∷ []; low = head % 8; size = []; parts = refl; tagged = tag; sized = (omega (arith, size, few), sym size) } in
    ap (λ (m : List ℕ). token_at (head ∷ m)) (sym (take-append-drop (head % 8) l))
    ∙ token_again Whole (head ∷ take (head % 8) l) (drop (head % 8) l) (inr (8, head / 16, take (head % 8) l, inl refl, is))

-- a datum in a tag of one octet, between its opening and its closing tag
pub datum_passed : (l : List ℕ) → 2 ≤ length l → get_or l 0 0 ≡ 30 → get_or l 1 0 / 8 % 2 ≢ 0 → get_or l 1 0 < 240 → get_or l 1 0 % 8 ≤ 4
    → get_or l 1 0 % 8 < length (drop 2 l) → get_or (drop 2 l) (get_or l 1 0 % 8) 0 ≡ 31 → IsPassed (get_or l 1 0 % 8 + 3) l
datum_passed [] long begins context small few within ends = absurd (omega arith)
datum_passed (a ∷ []) long begins context small few within ends = absurd (omega arith)
datum_passed (a ∷ b ∷ l) long begins context small few within ends =
    let n : ℕ = b % 8 in
    let rest : List ℕ = drop (n + 1) l in
    let at_close : drop n l ≡ 31 ∷ rest = drop_more l n 0 within ∙ ap (λ (x : ℕ). x ∷ rest) ends in
    let same : drop (n + 3) (30 ∷ b ∷ l) ≡ rest = ap (λ (k : ℕ). drop k (30 ∷ b ∷ l)) (behind n) in (
      3,
      omega arith,
      omega arith,
      omega (arith, within),
      λ steps depth wanted.
          rw (begins, same, third steps)
          (one_step (suc (suc steps)) depth (depth + 1) wanted (30 ∷ b ∷ l) (b ∷ l) Open (opens_one (b ∷ l)) refl
          ∙ (one_step (suc steps) (depth + 1) (depth + 1) wanted (b ∷ l) (drop n l) Whole (short_passed b l context small few (omega (arith, within))) refl
          ∙ rw at_close (one_step steps (depth + 1) depth wanted (31 ∷ rest) rest (Close 1) (closes_one rest) (λ z. omega arith, omega arith)))),
    )
  where
    behind : (n : ℕ) → n + 3 ≡ suc (suc (n + 1))
    behind n = omega arith

    third : (steps : ℕ) → 3 + steps ≡ suc (suc (suc steps))
    third steps = omega arith

-- status flags
pub flags_passed : (l : List ℕ) → 3 ≤ length l → get_or l 0 0 ≡ 42 → IsPassed 3 l
flags_passed [] long is = absurd (omega arith)
flags_passed (a ∷ l) long is = rw is (one_passed 3 (42 ∷ l) (omega arith) long (short_passed 42 l (omega arith) (omega arith) (omega arith) (omega arith)))
